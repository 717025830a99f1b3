-- What a buffer holds after bytes were moved to its front and read in behind them.
use Rattle.std.proofs.Common.{◌≡◌, ℕ, ◌+◌, ◌-◌, ◌≤◌, List, ◌++◌, length, take, drop, sym, ap, ◌∙◌, zero-add, arith, length-append, length-drop, length-take, take-add}
use borrow.Rule.Slice.PartMut.{put_mid}
use Rattle.std.specs.List.{between, copy_within}
use Rattle.std.proofs.lemmas.List.{take-append-le, drop_at, length-take-le}
use Rattle.std.proofs.lemmas.List.Edits.{take-paste}
use Rattle.std.proofs.lemmas.Slice.{between_from_start, take-put_mid_below}

pub length_put : (a : ℕ) (xs ys : List ℕ) → a ≤ length xs → length ys ≡ length xs - a → length (put_mid a (length xs - a) xs ys) ≡ length xs
length_put a xs ys h l = simp (length-append, length-take, length-drop) (omega arith)

pub moved : (start end : ℕ) (was : List ℕ) → end ≤ length was → take (end - start) (copy_within was start end 0) ≡ between start end was
moved start end was h =
    let k : ℕ = end - start in
    ap (λ (n : ℕ). take n (copy_within was start end 0)) (sym (zero-add k)) ∙ take-paste was 0 (drop start was) k (omega arith) (simp length-drop (omega arith))

pub filled : (a n k : ℕ) (xs ys held : List ℕ) → a ≤ length xs → n ≤ length ys → take a xs ≡ held → between 0 (a + n) (put_mid a k xs ys) ≡ held ++ take n ys
filled a n k xs ys held h l e =
    let whole : List ℕ = put_mid a k xs ys in
    let d : drop a whole ≡ ys ++ drop k (drop a xs) = drop_at (take a xs) _ a (length-take-le a xs h) in
    let t : take a whole ≡ take a xs = take-put_mid_below a k xs ys a (omega arith) h in
    between_from_start whole (a + n) ∙ take-add a n whole ∙ rw (t, d, e) (ap (λ (bs : List ℕ). held ++ bs) (take-append-le n ys (drop k (drop a xs)) l))
