-- Numbers as they are read and as they are written.
use Rattle.std.proofs.Common.{◌≡◌, ℕ, ◌+◌, ◌-◌, ◌*◌, ◌^◌, ◌<◌, ◌≤◌, Bool, true, false, cond, not, eqb, ltb, List, [], ◌∷◌, length, get_or, Some, None, decimal, Option, sym, refl, ap, ◌∙◌, inl, inr, arith, rules, ltb-false, le-ltb, ne_eqb}
use borrow.Author.Tests.{clash, eqb-false}
use Rattle.std.proofs.lemmas.Bool.{cases_eq, and_from, not_from_false}
use Rattle.std.proofs.lemmas.List.Folds.{fold_stays}
use Rattle.std.proofs.lemmas.Str.Parse.{IsNumeralModel, numerals_by_fold}
use Rattle.std.proofs.lemmas.Fmt.{decimal-digits_value, digits_decimal, digits_value-decimal, decimal_digit, decimal_nonempty, first_decimal}
use Rattle.text.specs.Number.{most, extend, read_on, digits, padded, number_of}
use Rattle.text.specs.Laws.{NumberIs, lacks}

abbrev AllDigits : List ℕ → Type 0
AllDigits [] = Unit {0}
AllDigits (b ∷ bs) = ((48 ≤ b) × (b ≤ 57)) × AllDigits bs

-- the value of decimal digits after v
abbrev value_of : ℕ → List ℕ → ℕ
value_of v [] = v
value_of v (b ∷ bs) = value_of (v * 10 + (b - 48)) bs

own : IsNumeralModel AllDigits (value_of 0)
own = numerals_by_fold AllDigits (search rules) value_of (search rules)

-- what was read passed a test
chosen : (t : Bool) (o : Option ℕ) (bs : List ℕ) (n : ℕ) → digits (cond t None o) bs ≡ Some n → (t ≡ false) × (digits o bs ≡ Some n)
chosen true o bs n h = let k : ◌≡◌ {A = Option ℕ} None (Some n) = sym (fold_stays read_on None (λ b. refl) bs) ∙ h in absurd cc
chosen false o bs n h = (refl, h)

read_is : (bs : List ℕ) (v n : ℕ) → v ≤ most → digits (Some v) bs ≡ Some n → (AllDigits bs × (n ≡ value_of v bs)) × (n ≤ most)
read_is [] v n le h = let e : v ≡ n = cc in ((tt, sym e), omega arith)
read_is (b ∷ bs) v n le h =
    let x = v * 10 + (b - 48) in
    let low = chosen (ltb b 48) (cond (ltb 57 b) None (cond (ltb most x) None (Some x))) bs n h in
    let high = chosen (ltb 57 b) (cond (ltb most x) None (Some x)) bs n low.1 in
    let fits = chosen (ltb most x) (Some x) bs n high.1 in
    let rest = read_is bs x n (ltb-false most x fits.0) fits.1 in
    ((((ltb-false b 48 low.0, ltb-false 57 b high.0), rest.0.0), rest.0.1), rest.1)

grows : (bs : List ℕ) (v : ℕ) → v ≤ value_of v bs
grows [] v = omega arith
grows (b ∷ bs) v = let l = grows bs (v * 10 + (b - 48)) in omega (arith, l)

reads : (bs : List ℕ) (v : ℕ) → AllDigits bs → value_of v bs ≤ most → digits (Some v) bs ≡ Some (value_of v bs)
reads [] v d le = refl
reads (b ∷ bs) v ((low, high), d) le =
    let l = grows bs (v * 10 + (b - 48)) in
    let a : ltb b 48 ≡ false = le-ltb b 48 low in
    let h : ltb 57 b ≡ false = le-ltb 57 b high in
    let f : ltb most (v * 10 + (b - 48)) ≡ false = le-ltb most (v * 10 + (b - 48)) (omega (arith, l, le)) in
    let e : extend v b ≡ Some (v * 10 + (b - 48)) = rw (a, h, f) refl in
    ap (λ o. digits o bs) e ∙ reads bs (v * 10 + (b - 48)) d le

unpadded : (w : List ℕ) (n : ℕ) → cond (padded w) None (digits (Some 0) w) ≡ Some n → (padded w ≡ false) × (digits (Some 0) w ≡ Some n)
unpadded w n h = go (padded w) refl h
  where
    go : (t : Bool) → padded w ≡ t → cond t None (digits (Some 0) w) ≡ Some n → (padded w ≡ false) × (digits (Some 0) w ≡ Some n)
    go true is k = absurd cc
    go false is k = (is, k)

needed : (w : List ℕ) → padded w ≡ false → (0 < length w) × (get_or w 0 0 ≡ 48 → length w ≡ 1)
needed [] h = absurd (clash (sym h))
needed (b ∷ []) h = (omega arith, λ _. refl)
needed (b ∷ c ∷ bs) h = (omega arith, λ is. absurd (eqb-false b 48 h is))

unpadded_back : (w : List ℕ) → 0 < length w → (get_or w 0 0 ≡ 48 → length w ≡ 1) → padded w ≡ false
unpadded_back [] some one = absurd (omega arith)
unpadded_back (b ∷ []) some one = refl
unpadded_back (b ∷ c ∷ bs) some one = ne_eqb b 48 (λ is. let l = one is in omega (arith, l))

first_of : (n : ℕ) → n < 2 ^ 64 → get_or (decimal n) 0 0 ≡ 48 → length (decimal n) ≡ 1
first_of n fits is = elim (cases_eq n 0) [ inl z ↦ nought z | inr nz ↦ absurd (let l = first_decimal n (omega arith) fits in omega (arith, l)) ]
  where
    nought : n ≡ 0 → length (decimal n) ≡ 1
    nought z = ap (λ m. length (decimal m)) z ∙ ap length (decimal_digit 0 (omega arith))

forth : (w : List ℕ) (n : ℕ) → number_of w ≡ Some n → (w ≡ decimal n) × (n ≤ most)
forth w n h =
    let u = unpadded w n h in
    let r = read_is w 0 n (omega arith) u.1 in
    let q = needed w u.0 in
    let v : value_of 0 w ≡ n = sym r.0.1 in
    let le : n ≤ most = r.1 in
    let small : value_of 0 w < 2 ^ 64 = omega (arith, v, le) in
    let d : decimal (value_of 0 w) ≡ w = decimal-digits_value own w r.0.0 q.0 q.1 small in
    (sym d ∙ ap decimal v, le)

pub number_back : (n : ℕ) → n ≤ most → number_of (decimal n) ≡ Some n
number_back n le =
    let fits : n < 2 ^ 64 = omega arith in
    let v : value_of 0 (decimal n) ≡ n = digits_value-decimal own n fits in
    let p : padded (decimal n) ≡ false = unpadded_back (decimal n) (decimal_nonempty n fits) (first_of n fits) in
    let l : value_of 0 (decimal n) ≤ most = omega (arith, v) in
    rw p (reads (decimal n) 0 (digits_decimal own n fits) l ∙ ap Some v)

pub number_is_lem : NumberIs
number_is_lem w n = (forth w n, λ le is. ap number_of is ∙ number_back n le)

-- digits are neither spaces nor line feeds
digits_lack : (e : ℕ) (bs : List ℕ) → e < 48 → AllDigits bs → lacks e bs ≡ true
digits_lack e [] l d = refl
digits_lack e (b ∷ bs) l ((low, high), d) = and_from (not (eqb b e)) (lacks e bs) (not_from_false (eqb b e) (ne_eqb b e (omega arith))) (digits_lack e bs l d)

pub decimal_lacks : (e n : ℕ) → e < 48 → n ≤ most → lacks e (decimal n) ≡ true
decimal_lacks e n l le = digits_lack e (decimal n) l (digits_decimal own n (omega arith))
