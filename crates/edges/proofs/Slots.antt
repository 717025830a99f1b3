-- Items in slots of four words.
use Rattle.std.proofs.Common.{rules, ◌≡◌, ℕ, zero, suc, ◌+◌, ◌-◌, ◌*◌, ◌<◌, ◌≤◌, List, [], ◌∷◌, ◌++◌, length, get_or, sym, refl, ap, ◌∙◌, inl, inr, take, add-zero, zero-add, arith, set, length-take, length-drop, drop, Option, Some, None, unwrap_or}
use borrow.Rule.Slice.PartMut.{put_mid}
use Rattle.std.proofs.lemmas.List.{places}
use Rattle.std.proofs.lemmas.Bool.{cases_lt}
use Rattle.std.proofs.lemmas.Grind.{common_steps}
use Rattle.items.specs.declared.Item.{Item}
use Rattle.items.specs.declared.Item.TheVariants.{Record, Watermark, Barrier}
use Rattle.items.specs.Words.{words_of, decoded, first_in}
use Rattle.edges.specs.Held.{or_stop, item_at, items_from}

-- an item is its four words
pub item_same : (ws vs : List ℕ) (k m : ℕ) →
    ((p q : ℕ) → 4 * k ≤ p → p < 4 * k + 4 → p + 4 * m ≡ q + 4 * k → get_or ws p 0 ≡ get_or vs q 0) → item_at ws k ≡ item_at vs m
item_same ws vs k m H =
    let a : get_or ws (4 * k) 0 ≡ get_or vs (4 * m) 0 = H _ _ (omega arith) (omega arith) (omega arith) in
    let b : get_or ws (4 * k + 1) 0 ≡ get_or vs (4 * m + 1) 0 = H _ _ (omega arith) (omega arith) (omega arith) in
    let d : get_or ws (4 * k + 2) 0 ≡ get_or vs (4 * m + 2) 0 = H _ _ (omega arith) (omega arith) (omega arith) in
    let e : get_or ws (4 * k + 3) 0 ≡ get_or vs (4 * m + 3) 0 = H _ _ (omega arith) (omega arith) (omega arith) in
    rw (a, b, d, e) refl

abbrev put4 : List ℕ → ℕ → ℕ → ℕ → ℕ → ℕ → List ℕ
put4 ws p t a b d = set (set (set (set ws p t) (p + 1) a) (p + 2) b) (p + 3) d

-- four words were written: the slot that they are in, and the others
pub put4_here : (ws : List ℕ) (k t a b d : ℕ) → 4 * k + 3 < length ws → item_at (put4 ws (4 * k) t a b d) k ≡ or_stop (decoded t a b d)
put4_here ws k t a b d h =
    let f : get_or (put4 ws (4 * k) t a b d) (4 * k) 0 ≡ t = grind (arith, common_steps) in
    let g : get_or (put4 ws (4 * k) t a b d) (4 * k + 1) 0 ≡ a = grind (arith, common_steps) in
    let i : get_or (put4 ws (4 * k) t a b d) (4 * k + 2) 0 ≡ b = grind (arith, common_steps) in
    let j : get_or (put4 ws (4 * k) t a b d) (4 * k + 3) 0 ≡ d = grind (arith, common_steps) in
    rw (f, g, i, j) refl

pub put4_other : (ws : List ℕ) (k j t a b d : ℕ) → (j ≡ k → ⊥) → item_at (put4 ws (4 * k) t a b d) j ≡ item_at ws j
put4_other ws k j t a b d ne =
    item_same (put4 ws (4 * k) t a b d) ws j j (λ p q l u s. grind (arith, common_steps))

-- the words of an item stand for it
pub words_tell_lem : (i : Item) → or_stop (decoded (get_or (words_of i) 0 0) (get_or (words_of i) 1 0) (get_or (words_of i) 2 0) (get_or (words_of i) 3 0)) ≡ i
words_tell_lem (Record r) = refl
words_tell_lem (Watermark t) = refl
words_tell_lem (Barrier n) = refl

pub ruleset put = (put4_here, put4_other, words_tell_lem)

-- a slot that is not in the part that was written
pub slot_apart : (s m : ℕ) (ws ys : List ℕ) (j : ℕ) → 4 * s ≤ length ws → length ys ≡ 4 * m → (s ≤ j → j < s + m → ⊥) →
    item_at (put_mid (4 * s) (4 * m) ws ys) j ≡ item_at ws j
slot_apart s m ws ys j fits len apart =
    item_same (put_mid (4 * s) (4 * m) ws ys) ws j j (λ p q l u t.
    let same : p ≡ q = omega arith in
    elim (cases_lt p (4 * s)) [
      | inl before ↦ rw same (search (rules, places))
      | inr after ↦ let outside : 4 * s + 4 * m ≤ q = omega arith in rw same (search (rules, places))
    ])

-- the item in four words, and in a slot by its four words
first_of_four : (vs : List ℕ) → 4 ≤ length vs → unwrap_or (first_in vs) (Barrier 0) ≡ item_at vs 0
first_of_four [] h = absurd (omega arith)
first_of_four (a ∷ []) h = absurd (omega arith)
first_of_four (a ∷ b ∷ []) h = absurd (omega arith)
first_of_four (a ∷ b ∷ c ∷ []) h = absurd (omega arith)
first_of_four (a ∷ b ∷ c ∷ d ∷ vs) h = unwrapped (decoded a b c d)
  where
    unwrapped : (o : Option Item) → unwrap_or o (Barrier 0) ≡ or_stop o
    unwrapped (Some i) = refl
    unwrapped None = refl

pub loaded : (ws : List ℕ) (n k : ℕ) → n ≡ 4 → 4 * k + 3 < length ws → unwrap_or (first_in (take n (drop (4 * k) ws))) (Barrier 0) ≡ item_at ws k
loaded ws n k four h =
    let vs : List ℕ = take 4 (drop (4 * k) ws) in
    rw four (first_of_four vs (simp (length-take, length-drop) (omega arith))
    ∙ item_same vs ws 0 k (λ p q l u s. let at : q ≡ 4 * k + p = omega arith in rw at (search (rules, places))))

-- two ranges hold the same items where each slot of the one is as that of the other
pub items_same : (ws vs : List ℕ) (k m n : ℕ) →
    ((a b : ℕ) → k ≤ a → a < k + n → a + m ≡ b + k → item_at ws a ≡ item_at vs b) → items_from ws k n ≡ items_from vs m n
unfolding items_from
items_same ws vs k m zero H = refl
items_same ws vs k m (suc n) H =
    let e : item_at ws k ≡ item_at vs m = H k m (omega arith) (omega arith) (omega arith) in
    let t : items_from ws (suc k) n ≡ items_from vs (suc m) n =
    items_same ws vs (suc k) (suc m) n (λ a b l u s. H a b (omega arith) (omega arith) (omega arith)) in
    cc

pub items_none : (ws : List ℕ) (k n : ℕ) → n ≡ 0 → items_from ws k n ≡ []
unfolding items_from
items_none ws k n e = rw e refl

-- the first slot and the others
pub items_cons : (ws : List ℕ) (k n : ℕ) → 0 < n → items_from ws k n ≡ item_at ws k ∷ items_from ws (k + 1) (n - 1)
unfolding items_from
items_cons ws k zero h = absurd (omega arith)
items_cons ws k (suc n) h = grind arith

pub items_one : (ws : List ℕ) (k : ℕ) (x : Item) → item_at ws k ≡ x → items_from ws k 1 ≡ x ∷ []
unfolding items_from
items_one ws k x e = rw e refl

-- the first n slots and m behind them
pub items_append : (ws : List ℕ) (k n m : ℕ) → items_from ws k (n + m) ≡ items_from ws k n ++ items_from ws (k + n) m
unfolding items_from
items_append ws k zero m = rw (zero-add, add-zero) refl
items_append ws k (suc n) m =
    let f : suc n + m ≡ suc (n + m) = omega arith in
    let g : k + suc n ≡ suc k + n = omega arith in
    rw (f, g) (ap (λ is. item_at ws k ∷ is) (items_append ws (suc k) n m))

pub items_length : (ws : List ℕ) (k n : ℕ) → length (items_from ws k n) ≡ n
unfolding items_from
items_length ws k zero = refl
items_length ws k (suc n) = ap suc (items_length ws (suc k) n)

-- the items of an edge without the first, where they stand one slot further on, and where they were moved down to slot 0
pub rest_on : (ws : List ℕ) (e k n : ℕ) → 0 < n → items_from ws (516 * e + k) n ≡ item_at ws (516 * e + k) ∷ items_from ws (516 * e + (k + 1)) (n - 1)
rest_on ws e k n pos = let same : 516 * e + (k + 1) ≡ 516 * e + k + 1 = omega arith in rw same (items_cons ws (516 * e + k) n pos)

pub rest_moved : (ws vs : List ℕ) (e k n : ℕ) → 0 < n →
    ((p : ℕ) → 2064 * e ≤ p → p < 2064 * e + 4 * (n - 1) → get_or vs p 0 ≡ get_or ws (4 * (k + 1) + p) 0) →
    items_from ws (516 * e + k) n ≡ item_at ws (516 * e + k) ∷ items_from vs (516 * e + 0) (n - 1)
rest_moved ws vs e k n pos H =
    rest_on ws e k n pos
    ∙ ap (λ is. item_at ws (516 * e + k) ∷ is) (items_same ws vs (516 * e + (k + 1)) (516 * e + 0) (n - 1)
    (λ a b l u s. item_same ws vs a b (λ p q pl pu ps.
    let at : p ≡ 4 * (k + 1) + q = omega arith in rw at (sym (H q (omega arith) (omega arith))))))

pub ruleset rest = (rest_on, items_none)
