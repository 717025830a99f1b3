-- Numbers in text.
use Rattle.std.specs.Prelude.{ℕ, ◌+◌, ◌-◌, ◌*◌, Bool, true, false, cond, List, [], ◌∷◌, Some, None, Option, ◌==◌, nat_lt}
use Rattle.std.specs.List.{fold}
use Rattle.std.specs.Option.{option_and_then}

abbrev pub most : ℕ
most = 4294967295

-- the value so far with one more decimal digit, where byte is one and 32 bits hold the value
abbrev pub extend : ℕ → ℕ → Option ℕ
extend value byte =
    cond (nat_lt byte 48) None (cond (nat_lt 57 byte) None
    (cond (nat_lt most (value * 10 + (byte - 48))) None (Some (value * 10 + (byte - 48)))))

abbrev pub read_on : Option ℕ → ℕ → Option ℕ
read_on so_far byte = option_and_then (λ value. extend value byte) so_far

abbrev pub digits : Option ℕ → List ℕ → Option ℕ
digits so_far bs = fold read_on so_far bs

-- no digit at all, or a needless leading zero
abbrev pub padded : List ℕ → Bool
padded [] = true
padded (b ∷ []) = false
padded (b ∷ c ∷ bs) = b == 48

abbrev pub number_of : List ℕ → Option ℕ
number_of word = cond (padded word) None (digits (Some 0) word)
