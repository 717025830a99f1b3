-- Words that are written: none has a space or a line feed, and numbers are read again.
use Rattle.std.proofs.Common.{◌≡◌, ℕ, ◌≤◌, true, List, [], ◌∷◌, Some, decimal, refl, arith}
use Rattle.std.proofs.lemmas.Bool.{and_from}
use Rattle.text.specs.Number.{most}
use Rattle.text.specs.Name.{visible}
use Rattle.text.specs.Words.{words_of, one_of, two_of}
use Rattle.text.specs.Laws.{lacks, all_lack, spaced}
use Rattle.text.proofs.Numbers.{number_back, decimal_lacks}
use Rattle.text.proofs.Joins.{words_join_lem, lacks_spaced}
use Rattle.text.proofs.Characters.{visible_lacks}

-- words that lack both spaces and line feeds
abbrev Plain : List ℕ → Type 0
Plain w = (e : ℕ) → e ≤ 32 → lacks e w ≡ true

pub plain_number : (n : ℕ) → n ≤ most → Plain (decimal n)
plain_number n le e l = decimal_lacks e n (omega arith) le

pub one_plain : (a : List ℕ) → Plain a → (e : ℕ) → e ≤ 32 → all_lack e (a ∷ []) ≡ true
one_plain a p e l = and_from (lacks e a) true (p e l) refl

pub two_plain : (a b : List ℕ) → Plain a → Plain b → (e : ℕ) → e ≤ 32 → all_lack e (a ∷ b ∷ []) ≡ true
two_plain a b p q e l = and_from (lacks e a) (all_lack e (b ∷ [])) (p e l) (one_plain b q e l)

-- a number written and read
pub one_back : (n : ℕ) → n ≤ most → one_of (decimal n ∷ []) ≡ Some n
one_back n le = number_back n le

pub two_back : (m n : ℕ) → m ≤ most → n ≤ most → two_of (decimal m ∷ decimal n ∷ []) ≡ Some (m, n)
two_back m n lm ln = rw (number_back m lm, number_back n ln) refl

-- the words of a line have no space and no line feed
word_plain : (w : List ℕ) → visible w ≡ true → Plain w
word_plain w v e l = visible_lacks e w l v

pub with_plain : (e : ℕ) (w : List ℕ) (ws : List (List ℕ)) → visible w ≡ true → e ≤ 32 → all_lack e ws ≡ true → all_lack e (w ∷ ws) ≡ true
with_plain e w ws v l h = and_from (lacks e w) (all_lack e ws) (word_plain w v e l) h

-- a line, by its words: it has no line feed, and its words are those
pub line_lacks : (w : List ℕ) (ws : List (List ℕ)) → visible w ≡ true → ((e : ℕ) → e ≤ 32 → all_lack e ws ≡ true) → lacks 10 (spaced w ws) ≡ true
line_lacks w ws v h = lacks_spaced 10 w ws (λ is. omega (arith, is)) (with_plain 10 w ws v (omega arith) (h 10 (omega arith)))

pub line_words : (w : List ℕ) (ws : List (List ℕ)) → visible w ≡ true → ((e : ℕ) → e ≤ 32 → all_lack e ws ≡ true) → words_of (spaced w ws) ≡ w ∷ ws
line_words w ws v h = words_join_lem w ws (with_plain 32 w ws v (omega arith) (h 32 (omega arith)))
