-- A journal that grows.
use Rattle.std.proofs.Common.{◌≡◌, ℕ, zero, suc, ◌+◌, ◌<◌, ◌≤◌, ◌⊎◌, List, [], ◌∷◌, ◌++◌, length, drop, Ok, Err, sym, refl, ap, ◌∙◌, inl, inr, arith, length-append}
use Rattle.std.proofs.lemmas.List.{get_or_append_left, drop-append-le}
use Rattle.std.proofs.lemmas.Bool.Decides.{nat_tests}
use Rattle.items.specs.declared.Item.{Item}
use Rattle.items.specs.declared.journal.NoItem.TheVariants.{NotYet}
use Rattle.items.specs.Journal.{Reading, first_of, big_at, behind, reading_at, GrowingKeeps, NotYetBefore}

big_more : (bs more : List ℕ) (p : ℕ) → p + 3 < length bs → big_at (bs ++ more) p ≡ big_at bs p
big_more bs more p h = grind (arith, get_or_append_left)

-- what comes first is there already, or not yet
pub first_more : (bs more : List ℕ) → (first_of bs ≡ Err NotYet) ⊎ (first_of (bs ++ more) ≡ first_of bs)
first_more [] more = inl refl
first_more (kind ∷ bs) more = grind (arith, nat_tests, length-append, big_more)

-- where what comes first is an item it is all there
abbrev Fits : List ℕ → Reading → Type 0
Fits bs (Ok p) = (0 < p.1) × (p.1 ≤ length bs)
Fits bs (Err none) = Unit {0}

fits : (bs : List ℕ) → Fits bs (first_of bs)
fits [] = tt
fits (kind ∷ bs) = grind (arith, nat_tests)

pub first_fits : (bs : List ℕ) (p : Item × ℕ) → first_of bs ≡ Ok p → (0 < p.1) × (p.1 ≤ length bs)
first_fits bs p h = rw h at (fits bs)

abbrev Kept : ℕ → List ℕ → List ℕ → Type 0
Kept n bs more = (reading_at n bs ≡ Err NotYet) ⊎ (reading_at n (bs ++ more) ≡ reading_at n bs)

-- behind an item that is there, as it is further on
kept_behind : (n : ℕ) (bs more : List ℕ) → ((cs : List ℕ) → Kept n cs more) → (r : Reading) → first_of bs ≡ r → first_of (bs ++ more) ≡ first_of bs → Kept (suc n) bs more
unfolding reading_at
kept_behind n bs more further (Ok p) e s =
    let d : drop p.1 (bs ++ more) ≡ drop p.1 bs ++ more = drop-append-le p.1 bs more (first_fits bs p e).1 in
    elim (further (drop p.1 bs)) [
      | inl none ↦ inl (rw e none)
      | inr same ↦ inr (rw (s, e, d) same)
    ]
kept_behind n bs more further (Err none) e s = inr (rw (s, e) refl)

kept : (n : ℕ) (bs more : List ℕ) → Kept n bs more
unfolding reading_at
kept zero bs more = first_more bs more
kept (suc n) bs more = elim (first_more bs more) [
  | inl none ↦ inl (ap (behind (reading_at n) bs) none)
  | inr same ↦ kept_behind n bs more (λ cs. kept n cs more) (first_of bs) refl same
]

pub growing_keeps_lem : GrowingKeeps
growing_keeps_lem n bs more there = elim (kept n bs more) [ inl none ↦ absurd (there none) | inr same ↦ same ]

pub not_yet_before_lem : NotYetBefore
not_yet_before_lem n bs more none = elim (kept n bs more) [ inl before ↦ before | inr same ↦ sym same ∙ none ]
