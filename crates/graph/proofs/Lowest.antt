-- The lowest line of what is not proper.
use Rattle.std.proofs.Common.{◌≡◌, ℕ, ◌+◌, Bool, true, false, cond, ◌&&◌, ltb, List, [], ◌∷◌, get_or, Some, None, Option, sym, refl, ap, ◌∙◌, arith}
use Rattle.std.proofs.lemmas.Bool.{and_parts, and_from}
use Rattle.graph.specs.Faults.{least, lowest}

least_some : (best : Option ℕ) (n : ℕ) → least best n ≡ None → ⊥
least_some None n h = let z : ◌≡◌ {A = ℕ} 0 1 = cc in omega arith
least_some (Some m) n h = go (ltb n m) h
  where
    go : (t : Bool) → cond t (Some n) (Some m) ≡ None → ⊥
    go true k = let z : ◌≡◌ {A = ℕ} 0 1 = cc in omega arith
    go false k = let z : ◌≡◌ {A = ℕ} 0 1 = cc in omega arith

-- where no line is found, all are proper; F is the test of all
module _ {X : Type 0} (proper : ℕ → X → Bool) (F : ℕ → List X → Bool) (F-[] : (i : ℕ) → F i [] ≡ true) (F-∷ : (i : ℕ) (x : X) (xs : List X) → F i (x ∷ xs) ≡ (proper i x && F (i + 1) xs)) where
  pub none_found : (ls : List ℕ) (i : ℕ) (xs : List X) (best : Option ℕ) → lowest proper ls i xs best ≡ None → (best ≡ None) × (F i xs ≡ true)
  none_found ls i [] best h = (h, F-[] i)
  none_found ls i (x ∷ xs) best h = go (proper i x) refl (none_found ls (i + 1) xs (cond (proper i x) best (least best (get_or ls i 0))) h)
    where
      go : (t : Bool) → proper i x ≡ t → (cond t best (least best (get_or ls i 0)) ≡ None) × (F (i + 1) xs ≡ true) → (best ≡ None) × (F i (x ∷ xs) ≡ true)
      go true is (none, rest) = (none, F-∷ i x xs ∙ and_from (proper i x) (F (i + 1) xs) is rest)
      go false is (none, rest) = absurd (least_some best (get_or ls i 0) none)

  -- and the other way round
  pub all_found : (ls : List ℕ) (i : ℕ) (xs : List X) (best : Option ℕ) → F i xs ≡ true → lowest proper ls i xs best ≡ best
  all_found ls i [] best h = refl
  all_found ls i (x ∷ xs) best h =
      let p = and_parts (proper i x) (F (i + 1) xs) (sym (F-∷ i x xs) ∙ h) in
      ap (λ t. lowest proper ls (i + 1) xs (cond t best (least best (get_or ls i 0)))) p.0 ∙ all_found ls (i + 1) xs best p.1
