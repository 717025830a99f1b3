-- What calls do to an edge, one after the other.
use Rattle.std.proofs.Common.{◌≡◌, ℕ, ◌≤◌, cond, eqb, List, [], ◌∷◌, ◌++◌, length, sym, refl, ap, ◌∙◌, arith}
use Rattle.std.proofs.lemmas.List.{append-nil, append_assoc, length_push, get_or-set_same, get_or-set_other}
use Rattle.std.proofs.lemmas.Bool.Decides.{nat_tests}
use Rattle.items.specs.declared.Item.{Item}
use Rattle.edges.specs.Queues.{Queues, on, asked, taken}
use Rattle.edges.specs.Laws.{Move, push, pop, with_less, moved, item_out, put_by, took_by, after, put_on, took_from, FirstInFirstOut}

-- on an edge: what one call took, and what is there then, is what was there and what the call put
one : (lent : ℕ) (qs : Queues) (d : ℕ) (m : Move) → took_by lent qs d m ++ on (moved lent qs m) d ≡ on qs d ++ put_by lent qs d m
one lent qs d (push e x) = grind (arith, nat_tests, append-nil, get_or-set_same, get_or-set_other)
one lent qs d (pop e) = go (on qs e) refl
  where
    go : (is : List Item) → on qs e ≡ is →
        cond (eqb d e) (item_out (asked lent qs e (taken qs e is))) [] ++ on (with_less qs (asked lent qs e (taken qs e is))) d ≡ on qs d ++ []
    go [] at = grind (arith, nat_tests, append-nil)
    go (x ∷ is) at = grind (arith, nat_tests, append-nil, get_or-set_same, get_or-set_other)

-- one call leaves no edge with more than 256
bounded : (lent : ℕ) (qs : Queues) (m : Move) → ((e : ℕ) → length (on qs e) ≤ 256) → (d : ℕ) → length (on (moved lent qs m) d) ≤ 256
bounded lent qs (push e x) all d = grind (arith, nat_tests, get_or-set_same, get_or-set_other, length_push, all d)
bounded lent qs (pop e) all d = go (on qs e) refl
  where
    go : (is : List Item) → on qs e ≡ is → length (on (with_less qs (asked lent qs e (taken qs e is))) d) ≤ 256
    go [] at = grind (arith, nat_tests, all d)
    go (x ∷ is) at = grind (arith, nat_tests, get_or-set_same, get_or-set_other, all d, all e)

in_order : (lent : ℕ) (qs : Queues) (ms : List Move) (d : ℕ) → took_from lent qs d ms ++ on (after lent qs ms) d ≡ on qs d ++ put_on lent qs d ms
unfolding after put_on took_from
in_order lent qs [] d = sym (append-nil (on qs d))
in_order lent qs (m ∷ ms) d =
    let next : Queues = moved lent qs m in
    append_assoc (took_by lent qs d m) (took_from lent next d ms) (on (after lent next ms) d)
    ∙ ap (λ (l : List Item). took_by lent qs d m ++ l) (in_order lent next ms d)
    ∙ sym (append_assoc (took_by lent qs d m) (on next d) (put_on lent next d ms))
    ∙ ap (λ (l : List Item). l ++ put_on lent next d ms) (one lent qs d m)
    ∙ append_assoc (on qs d) (put_by lent qs d m) (put_on lent next d ms)

all_bounded : (lent : ℕ) (qs : Queues) (ms : List Move) → ((e : ℕ) → length (on qs e) ≤ 256) → (d : ℕ) → length (on (after lent qs ms) d) ≤ 256
unfolding after
all_bounded lent qs [] all d = all d
all_bounded lent qs (m ∷ ms) all d = all_bounded lent (moved lent qs m) ms (bounded lent qs m all) d

pub first_in_first_out_lem : FirstInFirstOut
first_in_first_out_lem lent qs ms d = (in_order lent qs ms d, λ all. all_bounded lent qs ms all d)
