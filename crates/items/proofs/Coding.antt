-- The words of an item.
use Rattle.std.proofs.Common.{◌≡◌, ℕ, List, [], ◌∷◌, ◌++◌, take, Some, None, Option, refl, subst, arith}
use Rattle.std.proofs.lemmas.Bool.Decides.{nat_tests}
use Rattle.items.specs.declared.Item.{Item}
use Rattle.items.specs.declared.Item.TheVariants.{Record as ARecord, Watermark, Barrier}
use Rattle.items.specs.Words.{words_of, first_in, WordsTell}

encoded : (i : Item) (ws : List ℕ) → first_in (words_of i ++ ws) ≡ Some i
encoded (ARecord r) ws = refl
encoded (Watermark t) ws = refl
encoded (Barrier n) ws = refl

-- four words, if they stand for an item, are its words
abbrev Are : List ℕ → Option Item → Type 0
Are ws (Some i) = take 4 ws ≡ words_of i
Are ws None = Unit {0}

are : (ws : List ℕ) → Are ws (first_in ws)
are [] = tt
are (tag ∷ []) = tt
are (tag ∷ a ∷ []) = tt
are (tag ∷ a ∷ b ∷ []) = tt
are (tag ∷ a ∷ b ∷ d ∷ ws) = grind (arith, nat_tests)

pub words_tell_lem : WordsTell
words_tell_lem i ws = (encoded i ws, λ h. subst (Are ws) h (are ws))
