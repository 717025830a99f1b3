-- The edges by their numbers.
use Rattle.std.proofs.Common.{◌≡◌, ℕ, zero, suc, ◌+◌, ◌*◌, ◌/◌, ◌<◌, ◌≤◌, List, [], ◌∷◌, length, get_or, set, replicate, Err, Result, sym, refl, ap, ◌∙◌, add-zero, zero-add, arith, length-set}
use Rattle.std.proofs.lemmas.List.{ext_get_or, get_or-set_same, get_or-set_other}
use Rattle.std.proofs.lemmas.Bool.{cases_eq}
use Rattle.std.proofs.lemmas.Bool.Decides.{nat_tests}
use Rattle.arrayvec.specs.ArrayVec.{with_items}
use Rattle.arrayvec.proofs.ArrayVecLemmas.{items-with_items}
use Rattle.items.specs.declared.Item.{Item}
use Rattle.edges.specs.declared.fault.Fault.{Fault}
use Rattle.edges.specs.declared.head.Head.{Head}
use Rattle.edges.specs.declared.state.Edges.{Edges}
use Rattle.edges.specs.Queues.{Queues, on, there, asked, peeked, popped}
use Rattle.edges.specs.Held.{IsHead, item_at, queue_of, queues_from, edges_of, nobody}
use Rattle.edges.proofs.Slots.{items_same, items_none, items_length}

queues_length : (ws : List ℕ) (e : ℕ) (hs : List Head) → length (queues_from ws e hs) ≡ length hs
unfolding queues_from
queues_length ws e [] = refl
queues_length ws e (h ∷ hs) = ap suc (queues_length ws (suc e) hs)

queues_from_lem : (ws : List ℕ) (a : ℕ) (hs : List Head) (e : ℕ) → e < length hs → get_or (queues_from ws a hs) e [] ≡ queue_of ws (a + e) (get_or hs e nobody)
unfolding queues_from
queues_from_lem ws a [] e h = absurd (omega arith)
queues_from_lem ws a (g ∷ hs) zero h = rw add-zero refl
queues_from_lem ws a (g ∷ hs) (suc e) h =
    let s : a + suc e ≡ suc a + e = omega arith in rw s (queues_from_lem ws (suc a) hs e (omega arith))

-- what stands at the place of edge e is what it holds
pub queues_at : (ws : List ℕ) (hs : List Head) (e : ℕ) → e < length hs → get_or (queues_from ws 0 hs) e [] ≡ queue_of ws e (get_or hs e nobody)
queues_at ws hs e h = rw zero-add at (queues_from_lem ws 0 hs e h)

-- where all edges but e hold what they held
pub queues_set : (ws vs : List ℕ) (hs gs : List Head) (e : ℕ) (is : List Item) → length gs ≡ length hs → e < length hs →
    queue_of vs e (get_or gs e nobody) ≡ is →
    ((d : ℕ) → d < length hs → (d ≡ e → ⊥) → queue_of vs d (get_or gs d nobody) ≡ queue_of ws d (get_or hs d nobody)) →
    queues_from vs 0 gs ≡ set (queues_from ws 0 hs) e is
queues_set ws vs hs gs e is many lt here others =
    let l : length (queues_from vs 0 gs) ≡ length gs = queues_length vs 0 gs in
    let k : length (queues_from ws 0 hs) ≡ length hs = queues_length ws 0 hs in
    ext_get_or [] _ _ (simp (length-set) (l ∙ many ∙ sym k))
    (λ d h. grind (arith, nat_tests, queues_at, get_or-set_same, get_or-set_other, cases_eq d e, others d))

-- an edge whose slots were not touched; slot j is one of edge j / 516
pub apart : (ws vs : List ℕ) (e d : ℕ) (h : Head) → (d ≡ e → ⊥) → ((j : ℕ) → (j / 516 ≡ e → ⊥) → item_at vs j ≡ item_at ws j) → queue_of vs d h ≡ queue_of ws d h
apart ws vs e d h ne H =
    items_same vs ws (516 * d + h.start) (516 * d + h.start) h.len
    (λ a b l u s. let eq : a ≡ b = omega arith in H a (λ at. omega arith) ∙ ap (item_at ws) eq)

-- where only the slots and the head of edge e were written, the head in the slice gs of the heads
pub edge_set : (ws vs : List ℕ) (q : Edges) (gs : List Head) (e : ℕ) (h : Head) (is : List Item) → gs ≡ q.heads.items →
    e < length q.heads.items → queue_of vs e h ≡ is → ((j : ℕ) → (j / 516 ≡ e → ⊥) → item_at vs j ≡ item_at ws j) →
    queues_from vs 0 (with_items q.heads (set gs e h)).items ≡ set (edges_of ws q) e is
edge_set ws vs q gs e h is same lt here others =
    let hs : List Head = q.heads.items in
    rw (same, items-with_items q.heads (set hs e h) (simp length-set))
    (queues_set ws vs hs (set hs e h) e is (simp length-set) lt (rw (get_or-set_same hs e h nobody lt) here)
    (λ d l ne. rw (get_or-set_other hs e d h nobody ne) (apart ws vs e d (get_or hs d nobody) ne others)))

pub count_is : (ws : List ℕ) (q : Edges) → length (edges_of ws q) ≡ length q.heads.items
count_is ws q = queues_length ws 0 q.heads.items

-- a call on an edge that is there, and on one that isn't
pub there_is : {A : Type 0} (ws : List ℕ) (q : Edges) (e : ℕ) (x : Result A Fault) → e < length q.heads.items → there (edges_of ws q) e x ≡ x
there_is ws q e x h = grind (arith, nat_tests, count_is)

-- the same where words are lent
pub asked_is : {A : Type 0} (ws : List ℕ) (q : Edges) (e : ℕ) (x : Result A Fault) → 2064 * length q.heads.items ≤ length ws →
    e < length q.heads.items → asked (length ws) (edges_of ws q) e x ≡ x
asked_is ws q e x enough h = grind (arith, nat_tests, count_is)

-- edges whose heads count nothing
pub queues_none : (ws : List ℕ) (e : ℕ) (h : Head) (n : ℕ) → h.len ≡ 0 → queues_from ws e (replicate n h) ≡ replicate n []
unfolding queues_from
queues_none ws e h zero none = refl
queues_none ws e h (suc n) none = rw (items_none ws (516 * e + h.start) h.len none) (ap (λ (qs : List (List Item)). [] ∷ qs) (queues_none ws (suc e) h n none))

-- what edge e holds, by its head
pub held_at : (ws : List ℕ) (q : Edges) (e : ℕ) (h : Head) → IsHead q e h → on (edges_of ws q) e ≡ queue_of ws e h
held_at ws q e h at = queues_at ws q.heads.items e at.there ∙ ap (queue_of ws e) at.read

pub length_at : (ws : List ℕ) (q : Edges) (e : ℕ) (h : Head) → IsHead q e h → length (on (edges_of ws q) e) ≡ h.len
length_at ws q e h at = ap length (held_at ws q e h at) ∙ items_length ws (516 * e + h.start) h.len

-- what can't be seen can't be taken
pub popped_not : (lent : ℕ) (qs : Queues) (e : ℕ) (f : Fault) → peeked lent qs e ≡ Err f → popped lent qs e ≡ Err f
popped_not lent qs e f w = go (on qs e) refl
  where
    go : (is : List Item) → on qs e ≡ is → popped lent qs e ≡ Err f
    go [] at = grind (arith, nat_tests, w)
    go (x ∷ is) at = grind (arith, nat_tests, w)

-- the slot behind the items of edge e
abbrev pub behind : ℕ → Head → ℕ
behind e h = 516 * e + h.start + h.len
