-- An item as four 32-bit words.
use Rattle.std.specs.Prelude.{◌≡◌, ℕ, cond, ◌&&◌, List, [], ◌∷◌, ◌++◌, take, Some, None, Option, ◌==◌}
use Rattle.items.specs.declared.Item.{Item}
use Rattle.items.specs.declared.Item.TheVariants.{Record as ARecord, Watermark, Barrier}

abbrev pub words_of : Item → List ℕ
words_of (ARecord r) = 1 ∷ r.key ∷ r.time ∷ r.amount ∷ []
words_of (Watermark t) = 2 ∷ 0 ∷ t ∷ 0 ∷ []
words_of (Barrier n) = 3 ∷ 0 ∷ n ∷ 0 ∷ []

-- the item that four words stand for
abbrev pub decoded : ℕ → ℕ → ℕ → ℕ → Option Item
decoded tag a b d =
    cond (tag == 1) (Some (ARecord (record { key = a; time = b; amount = d })))
    (cond (tag == 2 && a == 0 && d == 0) (Some (Watermark b))
    (cond (tag == 3 && a == 0 && d == 0) (Some (Barrier b)) None))

-- the item in the first four of a list of words
abbrev pub first_in : List ℕ → Option Item
first_in [] = None
first_in (tag ∷ []) = None
first_in (tag ∷ a ∷ []) = None
first_in (tag ∷ a ∷ b ∷ []) = None
first_in (tag ∷ a ∷ b ∷ d ∷ more) = decoded tag a b d

-- The words of an item, whatever follows them, stand for that item; and what stands for an item are its words.
abbrev pub WordsTell : Type 0
WordsTell = (i : Item) (ws : List ℕ) → (first_in (words_of i ++ ws) ≡ Some i) × (first_in ws ≡ Some i → take 4 ws ≡ words_of i)
