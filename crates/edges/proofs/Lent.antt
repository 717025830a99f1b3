-- The free part of an edge, lent on.
use Rattle.std.proofs.Common.{rules, ◌≡◌, ℕ, ◌+◌, ◌-◌, ◌*◌, ◌/◌, ◌<◌, ◌≤◌, List, [], length, get_or, take, drop, sym, refl, ap, ◌∙◌, arith}
use borrow.Rule.Slice.PartMut.{put_mid}
use Rattle.std.proofs.lemmas.List.{places, length-take-le, take_at, drop_at, set-get_or}
use Rattle.edges.specs.declared.head.Head.{Head}
use Rattle.edges.specs.declared.state.Edges.{Edges}
use Rattle.edges.specs.Held.{IsHead, item_at, items_from, queue_of, edges_of, nobody, free_from, free_words, free_of}
use Rattle.edges.specs.Queues.{on}
use Rattle.edges.specs.Laws.{FreeIsFree}
use Rattle.edges.proofs.Slots.{item_same, items_same, slot_apart}
use Rattle.edges.proofs.Numbered.{queues_at, queues_set, apart, behind}

-- the items that were written into the free part of edge e stand in the slots behind its items
pub free_items : (ws : List ℕ) (q : Edges) (e n : ℕ) (h : Head) → IsHead q e h → h.len + n ≤ 256 →
    items_from ws (behind e h) n ≡ items_from (free_of ws q e) 0 n
free_items ws q e n h at fits =
    rw at.read
    (items_same ws (take (4 * (256 - h.len)) (drop (4 * behind e h) ws)) (behind e h) 0 n
    (λ a b l u t. item_same ws (take (4 * (256 - h.len)) (drop (4 * behind e h) ws)) a b (λ p r pl pu pt.
    let same : p ≡ 4 * behind e h + r = omega arith in
    let inside : r < 4 * (256 - h.len) = omega arith in
    rw same (search (rules, places)))))

pub free_is_free_lem : FreeIsFree
free_is_free_lem q ws ys e there enough len =
    let h : Head = get_or q.heads.items e nobody in
    let s : ℕ = 516 * e + h.start + h.len in
    let vs : List ℕ = put_mid (free_from q e) (free_words q e) ws ys in
    let fits : 4 * s ≤ length ws = omega arith in
    let here : queue_of vs e h ≡ on (edges_of ws q) e =
    items_same vs ws (516 * e + h.start) (516 * e + h.start) h.len
    (λ a b l u t. let same : a ≡ b = omega arith in slot_apart s (256 - h.len) ws ys a fits len (λ from to. omega arith) ∙ ap (item_at ws) same)
    ∙ sym (queues_at ws q.heads.items e there) in
    let others : (j : ℕ) → (j / 516 ≡ e → ⊥) → item_at vs j ≡ item_at ws j =
    λ j ne. slot_apart s (256 - h.len) ws ys j fits len (λ from to. omega arith) in
    let same : edges_of vs q ≡ edges_of ws q =
    queues_set ws vs q.heads.items q.heads.items e (on (edges_of ws q) e) refl there here (λ d l ne. apart ws vs e d (get_or q.heads.items d nobody) ne others)
    ∙ set-get_or (edges_of ws q) e [] in
    let front : length (take (free_from q e) ws) ≡ free_from q e = length-take-le (free_from q e) ws fits in
    (same, rw (drop_at (take (free_from q e) ws) _ (free_from q e) front, take_at ys _ (free_words q e) len) refl)
