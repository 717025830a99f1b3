-- The refusal that is found is the least that applies.
use Rattle.std.proofs.Common.{◌≡◌, ℕ, zero, suc, ◌+◌, ◌<◌, ◌≤◌, Bool, true, false, cond, ltb, ◌⊎◌, List, [], ◌∷◌, length, get_or, Some, None, Option, sym, refl, ap, ◌∙◌, inl, inr, add-zero, arith, ltb-false, ltb-true}
use borrow.Author.Tests.{clash}
use Rattle.graph.specs.Faults.{least, lowest}

-- the least number of which P holds, if there is one
abbrev pub LeastOf : (ℕ → Type 0) → Option ℕ → Type 0
LeastOf P None = (m : ℕ) → P m → ⊥
LeastOf P (Some k) = P k × ((m : ℕ) → P m → k ≤ m)

pub least_like : (P Q : ℕ → Type 0) (o : Option ℕ) → ((k : ℕ) → P k → Q k) → ((k : ℕ) → Q k → P k) → LeastOf P o → LeastOf Q o
least_like P Q None to from h = λ m q. h m (from m q)
least_like P Q (Some k) to from h = (to k h.0, λ m q. h.1 m (from m q))

-- one number more
least_more : (P : ℕ → Type 0) (o : Option ℕ) (n : ℕ) → LeastOf P o → LeastOf (λ k. P k ⊎ (k ≡ n)) (least o n)
least_more P None n h = (inr refl, below)
  where
    below : (m : ℕ) → P m ⊎ (m ≡ n) → n ≤ m
    below m (inl p) = absurd (h m p)
    below m (inr is) = omega arith
least_more P (Some k) n h = go (ltb n k) refl
  where
    lower : n < k → (m : ℕ) → P m ⊎ (m ≡ n) → n ≤ m
    lower l m (inl p) = let b = h.1 m p in omega arith
    lower l m (inr is) = omega arith

    higher : k ≤ n → (m : ℕ) → P m ⊎ (m ≡ n) → k ≤ m
    higher l m (inl p) = h.1 m p
    higher l m (inr is) = omega arith

    go : (t : Bool) → ltb n k ≡ t → LeastOf (λ j. P j ⊎ (j ≡ n)) (cond t (Some n) (Some k))
    go true is = (inr refl, lower (ltb-true n k is))
    go false is = (inl h.0, higher (ltb-false n k is))

-- those of a list, from number i on, that are not proper
module _ {X : Type 0} (proper : ℕ → X → Bool) (d : X) (ls : List ℕ) where
  abbrev pub Fault : ℕ → List X → ℕ → Type 0
  Fault i xs k = (j : ℕ) × (j < length xs) × (proper (i + j) (get_or xs j d) ≡ false) × (k ≡ get_or ls (i + j) 0)

  abbrev First : ℕ → X → ℕ → Type 0
  First i x k = (proper i x ≡ false) × (k ≡ get_or ls i 0)

  no-first : (i k : ℕ) → Fault i [] k → ⊥
  no-first i k (j, l, f, is) = omega arith

  first_to : (i k : ℕ) (x : X) (xs : List X) → First i x k ⊎ Fault (i + 1) xs k → Fault i (x ∷ xs) k
  first_to i k x xs (inl (f, is)) = (zero, omega arith, rw add-zero f, rw add-zero is)
  first_to i k x xs (inr (j, l, f, is)) =
      let e : (i + 1) + j ≡ i + suc j = omega arith in
      (suc j, omega arith, ap (λ n. proper n (get_or xs j d)) (sym e) ∙ f, is ∙ ap (λ n. get_or ls n 0) e)

  first-from : (i k : ℕ) (x : X) (xs : List X) → Fault i (x ∷ xs) k → First i x k ⊎ Fault (i + 1) xs k
  first-from i k x xs (zero, l, f, is) = inl (ap (λ n. proper n x) (sym (add-zero i)) ∙ f, is ∙ ap (λ n. get_or ls n 0) (add-zero i))
  first-from i k x xs (suc j, l, f, is) =
      let e : i + suc j ≡ (i + 1) + j = omega arith in
      inr (j, omega arith, ap (λ n. proper n (get_or xs j d)) (sym e) ∙ f, is ∙ ap (λ n. get_or ls n 0) e)

  turn : (P : ℕ → Type 0) (i : ℕ) (x : X) (best : Option ℕ) → LeastOf P best → LeastOf (λ k. P k ⊎ First i x k) (cond (proper i x) best (least best (get_or ls i 0)))
  turn P i x best h = go (proper i x) refl
    where
      go : (t : Bool) → proper i x ≡ t → LeastOf (λ k. P k ⊎ First i x k) (cond t best (least best (get_or ls i 0)))
      go true is = least_like P (λ k. P k ⊎ First i x k) best (λ k p. inl p) (λ k o. elim o [ inl p ↦ p | inr f ↦ absurd (clash (sym f.0 ∙ is)) ]) h
      go false is = least_like (λ k. P k ⊎ (k ≡ get_or ls i 0)) (λ k. P k ⊎ First i x k) (least best (get_or ls i 0))
          (λ k o. elim o [ inl p ↦ inl p | inr e ↦ inr (is, e) ]) (λ k o. elim o [ inl p ↦ inl p | inr f ↦ inr f.1 ]) (least_more P best (get_or ls i 0) h)

  pub lowest-least : (P : ℕ → Type 0) (i : ℕ) (xs : List X) (best : Option ℕ) → LeastOf P best → LeastOf (λ k. P k ⊎ Fault i xs k) (lowest proper ls i xs best)
  lowest-least P i [] best h = least_like P (λ k. P k ⊎ Fault i [] k) best (λ k p. inl p) (λ k o. elim o [ inl p ↦ p | inr f ↦ absurd (no-first i k f) ]) h
  lowest-least P i (x ∷ xs) best h =
      least_like (λ k. (P k ⊎ First i x k) ⊎ Fault (i + 1) xs k) (λ k. P k ⊎ Fault i (x ∷ xs) k) (lowest proper ls i (x ∷ xs) best)
      (λ k o. elim o [ inl q ↦ elim q [ inl p ↦ inl p | inr f ↦ inr (first_to i k x xs (inl f)) ] | inr f ↦ inr (first_to i k x xs (inr f)) ])
      (λ k o. elim o [ inl p ↦ inl (inl p) | inr f ↦ elim (first-from i k x xs f) [ inl a ↦ inl (inr a) | inr b ↦ inr b ] ])
      (lowest-least (λ k. P k ⊎ First i x k) (i + 1) xs (cond (proper i x) best (least best (get_or ls i 0))) (turn P i x best h))
