-- What a source hands out.
use Rattle.std.specs.Prelude.{◌≡◌, ℕ, ◌≤◌, List, ◌++◌, length, take, Ok, Err, Result}

-- the bytes that were put into the front of a buffer come behind those that were given before
abbrev pub Handed : {E : Type 0} → Result ℕ E → (before after into : List ℕ) → Type 0
Handed (Ok n) before after into = (n ≤ length into) × (after ≡ before ++ take n into)
Handed (Err e) before after into = after ≡ before
