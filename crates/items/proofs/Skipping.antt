-- What is left of a journal behind its first items.
use Rattle.std.proofs.Common.{◌≡◌, ℕ, zero, suc, ◌+◌, List, ◌++◌, drop, Some, Ok, Err, refl, ap, ◌∙◌, inl, inr, suc-add, zero-add}
use Rattle.std.proofs.lemmas.List.{drop-append-le}
use Rattle.items.specs.declared.Item.{Item}
use Rattle.items.specs.Journal.{Reading, first_of, reading_at, rest_behind, rest_at}
use Rattle.items.proofs.Growing.{first_fits, first_more}

-- one item further
rest_suc : (n : ℕ) (bs rest : List ℕ) (P : Type 0) → rest_at (suc n) bs ≡ Some rest →
    ((p : Item × ℕ) → first_of bs ≡ Ok p → rest_at n (drop p.1 bs) ≡ Some rest → P) → P
unfolding rest_at
rest_suc n bs rest P h f = go (first_of bs) refl h where
  go : (r : Reading) → first_of bs ≡ r → rest_behind (rest_at n) bs (first_of bs) ≡ Some rest → P
  go (Ok p) e t = f p e (rw e at t)
  go (Err none) e t = let no = rw e at t in absurd (cc)

-- what comes first there stands under that number
pub rest_reads : (n : ℕ) (bs rest : List ℕ) → rest_at n bs ≡ Some rest → reading_at n bs ≡ first_of rest
unfolding rest_at reading_at
rest_reads zero bs rest h = let e : bs ≡ rest = cc in ap first_of e
rest_reads (suc n) bs rest h = rest_suc n bs rest _ h (λ p e t. rw e (rest_reads n (drop p.1 bs) rest t))

-- behind some items, and then behind some more
pub rest_add : (n m : ℕ) (bs rest : List ℕ) → rest_at n bs ≡ Some rest → rest_at (n + m) bs ≡ rest_at m rest
unfolding rest_at
rest_add zero m bs rest h = let e : bs ≡ rest = cc in rw (zero-add, e) refl
rest_add (suc n) m bs rest h = rest_suc n bs rest _ h (λ p e t. rw (suc-add n m, e) (rest_add n m (drop p.1 bs) rest t))

-- as the journal grows, so does what is left
pub rest_grows : (n : ℕ) (bs rest more : List ℕ) → rest_at n bs ≡ Some rest → rest_at n (bs ++ more) ≡ Some (rest ++ more)
unfolding rest_at
rest_grows zero bs rest more h = let e : bs ≡ rest = cc in rw e refl
rest_grows (suc n) bs rest more h = rest_suc n bs rest _ h (λ p e t.
    elim (first_more bs more) [
      | inl none ↦ cc
      | inr same ↦ rw (same, e, drop-append-le p.1 bs more (first_fits bs p e).1) (rest_grows n (drop p.1 bs) rest more t)
    ])

-- an item is taken
pub rest_taken : (n : ℕ) (bs rest : List ℕ) (p : Item × ℕ) → rest_at n bs ≡ Some rest → first_of rest ≡ Ok p → rest_at (n + 1) bs ≡ Some (drop p.1 rest)
unfolding rest_at
rest_taken n bs rest p h f = rest_add n 1 bs rest h ∙ rw f refl
