-- What reading promises in the words of writing.
use Rattle.std.specs.Prelude.{◌≡◌, ℕ, ◌≤◌, Bool, true, not, ◌⊎◌, List, [], ◌∷◌, ◌++◌, Some, decimal, ◌==◌}
use Rattle.std.specs.List.{list_all, join_with_byte}
use Rattle.text.specs.Number.{most, number_of}
use Rattle.text.specs.Words.{words_of, lines_of}

-- A word is a number exactly where it is the decimal text of one of at most 32 bits.
abbrev pub NumberIs : Type 0
NumberIs = (w : List ℕ) (n : ℕ) → (number_of w ≡ Some n → (w ≡ decimal n) × (n ≤ most)) × (n ≤ most → w ≡ decimal n → number_of w ≡ Some n)

-- the byte e does not stand among some
abbrev pub lacks : ℕ → List ℕ → Bool
lacks e bs = list_all (λ b. not (b == e)) bs

abbrev pub all_lack : ℕ → List (List ℕ) → Bool
all_lack e ws = list_all (λ w. lacks e w) ws

-- words with one space between each two, the first one given
abbrev pub spaced : List ℕ → List (List ℕ) → List ℕ
spaced w ws = join_with_byte 32 (w ∷ ws)

abbrev pub joined : List (List ℕ) → List ℕ
joined ws = join_with_byte 32 ws

-- Words without spaces, put one space apart, are the words of that line.
abbrev pub WordsJoin : Type 0
WordsJoin = (w : List ℕ) (ws : List (List ℕ)) → all_lack 32 (w ∷ ws) ≡ true → words_of (spaced w ws) ≡ w ∷ ws

-- The words of a line have no spaces and, put one space apart, are that line.
abbrev pub WordsAre : Type 0
WordsAre = (l : List ℕ) → (all_lack 32 (words_of l) ≡ true) × (joined (words_of l) ≡ l)

-- lines, each with its line feed
abbrev pub ended : List (List ℕ) → List ℕ
ended [] = []
ended (l ∷ ls) = l ++ 10 ∷ ended ls

-- Lines without line feeds, each ended by one, are the lines of that text.
abbrev pub LinesJoin : Type 0
LinesJoin = (ls : List (List ℕ)) → all_lack 10 ls ≡ true → lines_of (ended ls) ≡ ls

-- The lines of a text have no line feeds and, each ended by one, are that text, perhaps with a line feed more at its end.
abbrev pub LinesAre : Type 0
LinesAre = (t : List ℕ) → (all_lack 10 (lines_of t) ≡ true) × ((ended (lines_of t) ≡ t) ⊎ (ended (lines_of t) ≡ t ++ 10 ∷ []))
