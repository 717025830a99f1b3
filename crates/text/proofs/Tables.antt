-- What is known where words were read as something.
use Rattle.std.proofs.Common.{◌≡◌, ℕ, ◌≤◌, Bool, true, false, cond, ◌⊎◌, List, [], ◌∷◌, Some, None, decimal, Option, refl, ap, ◌∙◌, inl, inr}
use borrow.Author.Tests.{clash}
use Rattle.std.specs.Option.{option_map, option_zip}
use Rattle.std.specs.Str.{bytes_eq}
use Rattle.std.proofs.lemmas.Slice.Eq.{bytes_eq-Decides}
use Rattle.text.specs.Number.{most, number_of}
use Rattle.text.specs.Words.{none_of, one_of, two_of, lookup}
use Rattle.text.proofs.Numbers.{number_is_lem}

module _ {A : Type 0} where
  pub not_some : (a : A) → None ≡ Some a → ⊥
  not_some a h = cc

  pub some_same : {a b : A} → Some a ≡ Some b → a ≡ b
  some_same h = cc

  -- something came of one of two ways
  pub which-way : (t : Bool) (x y : Option A) (a : A) → cond t x y ≡ Some a → ((t ≡ true) × (x ≡ Some a)) ⊎ (y ≡ Some a)
  which-way true x y a h = inl (refl, h)
  which-way false x y a h = inr h

  pub only-way : (t : Bool) (x : Option A) (a : A) → cond t x None ≡ Some a → (t ≡ true) × (x ≡ Some a)
  only-way true x a h = (refl, h)
  only-way false x a h = absurd (not_some a h)

  -- each row of a table has the word of its value; so has a word that is found
  abbrev pub Keyed : (A → List ℕ) → List (List ℕ × A) → Type 0
  Keyed key [] = Unit {0}
  Keyed key (row ∷ rows) = (row.0 ≡ key row.1) × Keyed key rows

  pub lookup-word : (key : A → List ℕ) (rows : List (List ℕ × A)) → Keyed key rows → (w : List ℕ) (a : A) → lookup w rows ≡ Some a → w ≡ key a
  lookup-word key [] keyed w a h = absurd (not_some a h)
  lookup-word key (row ∷ rows) (first, keyed) w a h = elim (which-way (bytes_eq w row.0) (Some row.1) (lookup w rows) a h) [
    | inl p ↦ (bytes_eq-Decides w row.0).0 p.0 ∙ (first ∙ ap key (some_same p.1))
    | inr rest ↦ lookup-word key rows keyed w a rest
  ]

pub mapped_from : {A B : Type 0} (f : A → B) (o : Option A) (b : B) → option_map f o ≡ Some b → (a : A) × (o ≡ Some a) × (f a ≡ b)
mapped_from f None b h = absurd (not_some b h)
mapped_from f (Some a) b h = (a, refl, some_same h)

pub none_is : (ws : List (List ℕ)) → none_of ws ≡ true → ws ≡ []
none_is [] h = refl
none_is (w ∷ ws) h = absurd (clash h)

pub one_is : (ws : List (List ℕ)) (n : ℕ) → one_of ws ≡ Some n → (ws ≡ decimal n ∷ []) × (n ≤ most)
one_is [] n h = absurd (not_some n h)
one_is (w ∷ ws) n h =
    let p = only-way (none_of ws) (number_of w) n h in
    let q = (number_is_lem w n).0 p.1 in
    (ap (λ x. x ∷ ws) q.0 ∙ ap (λ x. decimal n ∷ x) (none_is ws p.0), q.1)

both_from : (a b : Option ℕ) (p : ℕ × ℕ) → option_zip a b ≡ Some p → (a ≡ Some p.0) × (b ≡ Some p.1)
both_from None b p h = absurd (not_some p h)
both_from (Some a) None p h = absurd (not_some p h)
both_from (Some a) (Some b) p h = let e : (a, b) ≡ p = some_same h in (ap (λ q. Some q.0) e, ap (λ q. Some q.1) e)

pub two_is : (ws : List (List ℕ)) (p : ℕ × ℕ) → two_of ws ≡ Some p → (ws ≡ decimal p.0 ∷ decimal p.1 ∷ []) × ((p.0 ≤ most) × (p.1 ≤ most))
two_is [] p h = absurd (not_some p h)
two_is (w ∷ ws) p h =
    let q = both_from (number_of w) (one_of ws) p h in
    let a = (number_is_lem w p.0).0 q.0 in
    let b = one_is ws p.1 q.1 in
    (ap (λ x. x ∷ ws) a.0 ∙ ap (λ x. decimal p.0 ∷ x) b.0, (a.1, b.1))
