-- What is true of edges, in the words of the rules.
use Rattle.std.specs.Prelude.{◌≡◌, ℕ, ◌*◌, ◌<◌, ◌≤◌, cond, List, [], ◌∷◌, ◌++◌, length, Ok, Err, Result, ◌==◌}
use borrow.Rule.Slice.PartMut.{put_mid}
use Rattle.items.specs.declared.Item.{Item}
use Rattle.edges.specs.declared.fault.Fault.{Fault}
use Rattle.edges.specs.declared.state.Edges.{Edges}
use Rattle.edges.specs.Queues.{Queues, on, popped, pushed}
use Rattle.edges.specs.Held.{edges_of, free_from, free_words, free_of}

-- a call that changes edges
pub data Move : Type 0 where
  push : (edge : ℕ) (item : Item) → Move
  pop : (edge : ℕ) → Move

-- what edges hold after a push and after a pop: what they held, where the call is refused
abbrev pub with_more : Queues → Result Queues Fault → Queues
with_more qs (Ok more) = more
with_more qs (Err f) = qs

abbrev pub with_less : Queues → Result (Item × Queues) Fault → Queues
with_less qs (Ok r) = r.1
with_less qs (Err f) = qs

abbrev pub moved : ℕ → Queues → Move → Queues
moved lent qs (push e x) = with_more qs (pushed lent qs e x)
moved lent qs (pop e) = with_less qs (popped lent qs e)

-- what a push that isn't refused puts, and what a pop that isn't refused takes
abbrev pub item_in : Item → Result Queues Fault → List Item
item_in x (Ok more) = x ∷ []
item_in x (Err f) = []

abbrev pub item_out : Result (Item × Queues) Fault → List Item
item_out (Ok r) = r.0 ∷ []
item_out (Err f) = []

-- what a call puts on edge d, and what it takes from it
abbrev pub put_by : ℕ → Queues → ℕ → Move → List Item
put_by lent qs d (push e x) = cond (d == e) (item_in x (pushed lent qs e x)) []
put_by lent qs d (pop e) = []

abbrev pub took_by : ℕ → Queues → ℕ → Move → List Item
took_by lent qs d (push e x) = []
took_by lent qs d (pop e) = cond (d == e) (item_out (popped lent qs e)) []

-- what edges hold after calls, one after the other; and what these put on edge d and took from it
unfoldable pub after : ℕ → Queues → List Move → Queues
after lent qs [] = qs
after lent qs (m ∷ ms) = after lent (moved lent qs m) ms

unfoldable pub put_on : ℕ → Queues → ℕ → List Move → List Item
put_on lent qs d [] = []
put_on lent qs d (m ∷ ms) = put_by lent qs d m ++ put_on lent (moved lent qs m) d ms

unfoldable pub took_from : ℕ → Queues → ℕ → List Move → List Item
took_from lent qs d [] = []
took_from lent qs d (m ∷ ms) = took_by lent qs d m ++ took_from lent (moved lent qs m) d ms

-- On each edge: what was taken, and behind it what is still there, is what was there before, and behind it what was put;
-- and where no edge held more than 256 items, none ever does.
abbrev pub FirstInFirstOut : Type 0
FirstInFirstOut = (lent : ℕ) (qs : Queues) (ms : List Move) (d : ℕ) →
    (took_from lent qs d ms ++ on (after lent qs ms) d ≡ on qs d ++ put_on lent qs d ms)
    × (((e : ℕ) → length (on qs e) ≤ 256) → length (on (after lent qs ms) d) ≤ 256)

-- Writing into the free part of an edge changes no edge, and what was written stands there.
abbrev pub FreeIsFree : Type 0
FreeIsFree = (q : Edges) (ws ys : List ℕ) (e : ℕ) → e < length q.heads.items → 2064 * length q.heads.items ≤ length ws → length ys ≡ free_words q e →
    (edges_of (put_mid (free_from q e) (free_words q e) ws ys) q ≡ edges_of ws q) × (free_of (put_mid (free_from q e) (free_words q e) ws ys) q e ≡ ys)
