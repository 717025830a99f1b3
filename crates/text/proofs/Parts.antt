-- Parts of some bytes, each ended by a byte e.
use Rattle.std.proofs.Common.{◌≡◌, ◌≢◌, ℕ, zero, suc, ◌<◌, ◌≤◌, Bool, true, false, cond, not, eqb, List, [], ◌∷◌, ◌++◌, length, get_or, take, Some, None, Option, Bor, MatchOption, refl, ap, ◌∙◌, arith, eq-eqb, ne_eqb}
use borrow.Author.Tests.{not-true}
use Rattle.std.proofs.lemmas.Bool.{and_parts, and_from, not_from_false}
use Rattle.std.proofs.lemmas.List.Splits.{slice_split_none}
use Rattle.std.proofs.lemmas.List.Sums.{AllPass-from_list_all}
use Rattle.std.proofs.lemmas.Option.{unwrap_or-slice_get}
use Rattle.std.specs.List.{slice_get, onto_first, slice_split}
use Rattle.std.specs.Option.{option_map, unwrap_or}
use Rattle.text.specs.Words.{parts_of, words_of, lines_of, left_of}
use Rattle.text.specs.Laws.{lacks}

-- the byte e is none of the first n
pub lacks_below : (e n : ℕ) (bs : List ℕ) → ((k : ℕ) → k < n → k < length bs → get_or bs k 0 ≢ e) → lacks e (take n bs) ≡ true
lacks_below e zero bs h = refl
lacks_below e (suc n) [] h = refl
lacks_below e (suc n) (b ∷ bs) h =
    and_from (not (eqb b e)) (lacks e (take n bs)) (not_from_false (eqb b e) (ne_eqb b e (h 0 (omega arith) (omega arith))))
    (lacks_below e n bs (λ k l m. h (suc k) (omega arith) (omega arith)))

-- a part, its end, and the rest
pub part_first : (e : ℕ) (base : List (List ℕ)) (w bs : List ℕ) → lacks e w ≡ true → parts_of e base (w ++ e ∷ bs) ≡ w ∷ parts_of e base bs
part_first e base [] bs h = rw (eq-eqb e e refl) refl
part_first e base (b ∷ w) bs h =
    let p : (not (eqb b e) ≡ true) × (lacks e w ≡ true) = and_parts (not (eqb b e)) (lacks e w) h in
    rw (not-true (eqb b e) p.0) (ap (onto_first b) (part_first e base w bs p.1))

-- words are what std's split gives
pub words_split : (bs : List ℕ) → words_of bs ≡ slice_split (λ b. eqb b 32) bs
words_split [] = refl
words_split (b ∷ bs) = ap (λ ws. cond (eqb b 32) ([] ∷ ws) (onto_first b ws)) (words_split bs)

-- a part with nothing after it
pub word_last : (w : List ℕ) → lacks 32 w ≡ true → words_of w ≡ w ∷ []
word_last w h = words_split w ∙ slice_split_none (λ b. eqb b 32) w (λ k d l. not-true (eqb (get_or w k d) 32) (AllPass-from_list_all (λ b. not (eqb b 32)) w h k d l))

line_last : (b : ℕ) (bs : List ℕ) → lacks 10 (b ∷ bs) ≡ true → lines_of (b ∷ bs) ≡ (b ∷ bs) ∷ []
line_last b [] h = let p = and_parts (not (eqb b 10)) true h in rw (not-true (eqb b 10) p.0) refl
line_last b (x ∷ bs) h =
    let p = and_parts (not (eqb b 10)) (lacks 10 (x ∷ bs)) h in
    rw (not-true (eqb b 10) p.0) (ap (onto_first b) (line_last x bs p.1))

-- the first part of some bytes, where it ends at the first byte e or with them
abbrev Cut : ℕ → List ℕ → List ℕ → Option (Bor (List ℕ)) → Type 0
Cut e bs first rest = MatchOption rest (bs ≡ first) (λ r. bs ≡ first ++ e ∷ r.now)

pub words_next : (bs w : List ℕ) (rest : Option (Bor (List ℕ))) → lacks 32 w ≡ true → Cut 32 bs w rest → words_of bs ≡ w ∷ left_of rest
words_next bs w None h is = ap words_of is ∙ word_last w h
words_next bs w (Some r) h is = ap words_of is ∙ part_first 32 ([] ∷ []) w r.now h

pub lines_next : (bs l : List ℕ) (rest : Option (Bor (List ℕ))) (after none : Bor (List ℕ)) → 0 < length bs → lacks 10 l ≡ true → Cut 10 bs l rest →
    after ≡ unwrap_or rest none → none.now ≡ [] → lines_of bs ≡ l ∷ lines_of after.now
lines_next bs [] None after none some h is last empty = absurd (let z = ap length is in omega (arith, z))
lines_next bs (b ∷ l) None after none some h is last empty = rw (last, empty) (ap lines_of is ∙ line_last b l h)
lines_next bs l (Some r) after none some h is more empty = rw more (ap lines_of is ∙ part_first 10 [] l r.now h)

-- no more lines than bytes
onto_length : (b n : ℕ) (parts : List (List ℕ)) → length parts ≤ n → length (onto_first b parts) ≤ suc n
onto_length b n [] h = omega arith
onto_length b n (w ∷ ws) h = omega (arith, h)

pub few_lines : (bs : List ℕ) → length (lines_of bs) ≤ length bs
few_lines [] = omega arith
few_lines (b ∷ bs) = go (eqb b 10) (few_lines bs)
  where
    go : (t : Bool) → length (lines_of bs) ≤ length bs → length (cond t ([] ∷ lines_of bs) (onto_first b (lines_of bs))) ≤ suc (length bs)
    go true h = omega (arith, h)
    go false h = onto_length b (length bs) (lines_of bs) h

-- the n-th of what an iterator gives, or nothing
pub nth_or_empty : (all : List (List ℕ)) (n : ℕ) (item : Option (Bor (List ℕ))) (x none : Bor (List ℕ)) →
    option_map (λ y. y.now) item ≡ slice_get all n → x ≡ unwrap_or item none → none.now ≡ [] → x.now ≡ get_or all n []
nth_or_empty all n None x none is at empty = ap (λ y. y.now) at ∙ (empty ∙ (ap (λ o. unwrap_or o []) is ∙ unwrap_or-slice_get all n []))
nth_or_empty all n (Some y) x none is at empty = ap (λ y. y.now) at ∙ (ap (λ o. unwrap_or o []) is ∙ unwrap_or-slice_get all n [])
