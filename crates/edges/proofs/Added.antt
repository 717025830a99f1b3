-- Items more on an edge, in the slots behind its items.
use Rattle.std.proofs.Common.{◌≡◌, ℕ, ◌+◌, ◌*◌, ◌<◌, ◌≤◌, List, ◌++◌, length, set, Ok, sym, refl, ap, ◌∙◌, arith}
use Rattle.std.proofs.lemmas.Bool.{le-leb}
use Rattle.std.proofs.lemmas.Bool.Decides.{nat_tests}
use Rattle.arrayvec.specs.ArrayVec.{with_items}
use Rattle.items.specs.declared.Item.{Item}
use Rattle.edges.specs.declared.head.Head.{Head}
use Rattle.edges.specs.declared.state.Edges.{Edges}
use Rattle.edges.specs.Queues.{on, asked, added}
use Rattle.edges.specs.Held.{IsHead, item_at, items_from, queue_of, queues_from, edges_of}
use Rattle.edges.proofs.Slots.{items_same, items_append, items_none, items_cons, items_length}
use Rattle.edges.proofs.Numbered.{count_is, there_is, asked_is, popped_not, edge_set, held_at, length_at, queues_at, behind}

-- n slots behind the items were written, or hold what is to be added already; g is the new head
pub added_is : (ws vs : List ℕ) (q : Edges) (gs : List Head) (e n : ℕ) (h g : Head) (xs : List Item) → gs ≡ q.heads.items → 2064 * length q.heads.items ≤ length ws → IsHead q e h →
    g.start ≡ h.start → g.len ≡ h.len + n → length xs ≡ n → items_from vs (behind e h) n ≡ xs →
    ((j : ℕ) → ((behind e h ≤ j) × (j < behind e h + n) → ⊥) → item_at vs j ≡ item_at ws j) →
    asked (length ws) (edges_of ws q) e (added (edges_of ws q) e xs) ≡ Ok (queues_from vs 0 (with_items q.heads (set gs e g)).items)
added_is ws vs q gs e n h g xs same enough at start len many put others =
    let l : length (on (edges_of ws q) e) ≡ h.len = length_at ws q e h at in
    let kept : items_from vs (516 * e + h.start) h.len ≡ on (edges_of ws q) e =
    items_same vs ws (516 * e + h.start) (516 * e + h.start) h.len
    (λ a b low high s. let eq : a ≡ b = omega arith in others a (λ r. omega (arith, r.0)) ∙ ap (item_at ws) eq)
    ∙ sym (held_at ws q e h at) in
    let here : queue_of vs e g ≡ on (edges_of ws q) e ++ xs =
    rw (start, len) (items_append vs (516 * e + h.start) h.len n ∙ rw (kept, put) refl) in
    asked_is ws q e _ enough at.there
    ∙ rw (le-leb (length (on (edges_of ws q) e) + length xs) 256 (omega arith))
    (ap Ok (sym (edge_set ws vs q gs e g (on (edges_of ws q) e ++ xs) same at.there here
    (λ j apart. others j (λ r. omega (arith, r.0, r.1))))))

pub ruleset come_to = (nat_tests, count_is, there_is, asked_is, queues_at, items_none, items_cons, items_length, popped_not)
