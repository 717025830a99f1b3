-- The words of a line and the lines of a text.
use Rattle.std.specs.Prelude.{ℕ, Bool, true, false, cond, List, [], ◌∷◌, Some, None, Option, ◌==◌}
use Rattle.std.specs.List.{onto_first}
use Rattle.std.specs.Option.{option_zip}
use Rattle.std.specs.Borrow.{Bor}
use Rattle.std.specs.Str.{bytes_eq}
use Rattle.text.specs.Number.{number_of}

-- the parts of some bytes, each ended by the byte e; base is what an end without bytes adds
abbrev pub parts_of : ℕ → List (List ℕ) → List ℕ → List (List ℕ)
parts_of e base [] = base
parts_of e base (b ∷ bs) = cond (b == e) ([] ∷ parts_of e base bs) (onto_first b (parts_of e base bs))

-- a line has a word more than spaces
abbrev pub words_of : List ℕ → List (List ℕ)
words_of bs = parts_of 32 ([] ∷ []) bs

-- each line feed ends a line; the last line may lack it
abbrev pub lines_of : List ℕ → List (List ℕ)
lines_of bs = parts_of 10 [] bs

-- the words in what is left of a line
abbrev pub left_of : Option (Bor (List ℕ)) → List (List ℕ)
left_of None = []
left_of (Some rest) = words_of rest.now

-- exactly no word, one number, two numbers
abbrev pub none_of : List (List ℕ) → Bool
none_of [] = true
none_of (w ∷ ws) = false

abbrev pub one_of : List (List ℕ) → Option ℕ
one_of [] = None
one_of (w ∷ ws) = cond (none_of ws) (number_of w) None

abbrev pub two_of : List (List ℕ) → Option (ℕ × ℕ)
two_of [] = None
two_of (w ∷ ws) = option_zip (number_of w) (one_of ws)

-- what a table has for a word
abbrev pub lookup : {A : Type 0} → List ℕ → List (List ℕ × A) → Option A
lookup w [] = None
lookup w (row ∷ rows) = cond (bytes_eq w row.0) (Some row.1) (lookup w rows)
