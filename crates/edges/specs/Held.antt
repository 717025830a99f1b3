-- What lent words hold.
use Rattle.std.specs.Prelude.{◌≡◌, ℕ, zero, suc, ◌+◌, ◌-◌, ◌*◌, ◌<◌, List, [], ◌∷◌, length, take, drop, Some, None, Option, slice_index, slice_index_or}
use Rattle.std.specs.declared.ops.Range.{Range}
use Rattle.std.proofs.Common.{lit<, lit≤}
use Rattle.items.specs.declared.Item.{Item}
use Rattle.items.specs.declared.Item.TheVariants.{Barrier}
use Rattle.items.specs.Words.{decoded}
use Rattle.edges.specs.declared.head.Head.{Head}
use Rattle.edges.specs.declared.state.Edges.{Edges}
use Rattle.edges.specs.Queues.{Queues}

-- words that stand for no item are a barrier that no worker takes, since checkpoints are numbered from 1
abbrev pub or_stop : Option Item → Item
or_stop (Some i) = i
or_stop None = Barrier 0

-- the item in slot k
abbrev pub item_at : List ℕ → ℕ → Item
item_at ws k = or_stop (decoded (slice_index ws (4 * k)) (slice_index ws (4 * k + 1)) (slice_index ws (4 * k + 2)) (slice_index ws (4 * k + 3)))

-- the items in the n slots from k on
unfoldable pub items_from : List ℕ → ℕ → ℕ → List Item
items_from ws k zero = []
items_from ws k (suc n) = item_at ws k ∷ items_from ws (suc k) n

abbrev pub nobody : Head
nobody = record { start = 0; len = 0; fits = (lit< tt, lit≤ tt) }

-- where the items of edge e stand
abbrev pub head_of : Edges → ℕ → Head
head_of q e = slice_index_or q.heads.items e nobody

-- edge e is there, and h says where its items stand
pub record IsHead (q : Edges) (e : ℕ) (h : Head) : Type 0 where
  pub there : e < length q.heads.items
  pub read : head_of q e ≡ h

-- what edge e holds, by where its items stand
abbrev pub queue_of : List ℕ → ℕ → Head → List Item
queue_of ws e h = items_from ws (516 * e + h.start) h.len

-- what the edges from e on hold, by their heads
unfoldable pub queues_from : List ℕ → ℕ → List Head → Queues
queues_from ws e [] = []
queues_from ws e (h ∷ hs) = queue_of ws e h ∷ queues_from ws (suc e) hs

abbrev pub edges_of : List ℕ → Edges → Queues
edges_of ws q = queues_from ws 0 q.heads.items

-- the free part of edge e: where it begins, how many words it has, and these words
abbrev pub free_from : Edges → ℕ → ℕ
free_from q e = 4 * (516 * e + (head_of q e).start + (head_of q e).len)

abbrev pub free_words : Edges → ℕ → ℕ
free_words q e = 4 * (256 - (head_of q e).len)

abbrev pub free_range : Edges → ℕ → Range ℕ
free_range q e = record { start = free_from q e; end = free_from q e + free_words q e }

abbrev pub free_of : List ℕ → Edges → ℕ → List ℕ
free_of ws q e = take (free_words q e) (drop (free_from q e) ws)
