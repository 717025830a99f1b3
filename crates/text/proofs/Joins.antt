-- Parts put together and taken apart again.
use Rattle.std.proofs.Common.{◌≡◌, ℕ, Bool, true, false, cond, not, eqb, ◌⊎◌, List, [], ◌∷◌, ◌++◌, sym, refl, ap, ◌∙◌, inl, inr, ne_eqb, eqb-true}
use Rattle.std.proofs.lemmas.Bool.{and_parts, and_from, not_from_false}
use Rattle.std.proofs.lemmas.List.Folds.{list_all-append}
use Rattle.std.proofs.lemmas.List.Splits.{join_with_byte-slice_split}
use Rattle.std.specs.List.{onto_first, join_with_byte}
use Rattle.text.proofs.Parts.{part_first, word_last, words_split}
use Rattle.text.specs.Words.{parts_of, lines_of}
use Rattle.text.specs.Laws.{lacks, all_lack, spaced, ended, WordsJoin, WordsAre, LinesJoin, LinesAre}

pub words_join_lem : WordsJoin
words_join_lem w [] h = word_last w (and_parts (lacks 32 w) true h).0
words_join_lem w (v ∷ vs) h =
    let p = and_parts (lacks 32 w) (all_lack 32 (v ∷ vs)) h in
    part_first 32 ([] ∷ []) w (spaced v vs) p.0 ∙ ap (λ x. w ∷ x) (words_join_lem v vs p.1)

pub lines_join_lem : LinesJoin
lines_join_lem [] h = refl
lines_join_lem (l ∷ ls) h =
    let p = and_parts (lacks 10 l) (all_lack 10 ls) h in
    part_first 10 [] l (ended ls) p.0 ∙ ap (λ x. l ∷ x) (lines_join_lem ls p.1)

-- what two parts lack, both together lack
lacks_both : (e : ℕ) (v w : List ℕ) → lacks e v ≡ true → lacks e w ≡ true → lacks e (v ++ w) ≡ true
lacks_both e v w h k = list_all-append (λ b. not (eqb b e)) v w ∙ and_from (lacks e v) (lacks e w) h k

-- words that lack a byte, one space apart, lack it, unless it is a space
pub lacks_spaced : (e : ℕ) (w : List ℕ) (ws : List (List ℕ)) → (32 ≡ e → ⊥) → all_lack e (w ∷ ws) ≡ true → lacks e (spaced w ws) ≡ true
lacks_spaced e w [] other h = (and_parts (lacks e w) true h).0
lacks_spaced e w (v ∷ vs) other h =
    let p = and_parts (lacks e w) (all_lack e (v ∷ vs)) h in
    lacks_both e w (32 ∷ spaced v vs) p.0
    (and_from (not (eqb 32 e)) (lacks e (spaced v vs)) (not_from_false (eqb 32 e) (ne_eqb 32 e other)) (lacks_spaced e v vs other p.1))

-- and the other way round: parts taken apart and put together
parts_lack : (e : ℕ) (base : List (List ℕ)) (bs : List ℕ) → all_lack e base ≡ true → all_lack e (parts_of e base bs) ≡ true
parts_lack e base [] h = h
parts_lack e base (b ∷ bs) h = go (eqb b e) refl (parts_of e base bs) (parts_lack e base bs h)
  where
    with-one : eqb b e ≡ false → (ws : List (List ℕ)) → all_lack e ws ≡ true → all_lack e (onto_first b ws) ≡ true
    with-one other [] k = and_from (lacks e (b ∷ [])) true (and_from (not (eqb b e)) true (not_from_false (eqb b e) other) refl) refl
    with-one other (w ∷ ws) k =
        let p = and_parts (lacks e w) (all_lack e ws) k in
        and_from (lacks e (b ∷ w)) (all_lack e ws) (and_from (not (eqb b e)) (lacks e w) (not_from_false (eqb b e) other) p.0) p.1

    go : (t : Bool) → eqb b e ≡ t → (ws : List (List ℕ)) → all_lack e ws ≡ true → all_lack e (cond t ([] ∷ ws) (onto_first b ws)) ≡ true
    go true is ws k = k
    go false is ws k = with-one is ws k

pub words_are_lem : WordsAre
words_are_lem l = (parts_lack 32 ([] ∷ []) l refl, ap (join_with_byte 32) (words_split l) ∙ join_with_byte-slice_split 32 l)

abbrev Ended : List ℕ → List (List ℕ) → Type 0
Ended t ls = (ended ls ≡ t) ⊎ (ended ls ≡ t ++ 10 ∷ [])

with_byte : (b : ℕ) (bs : List ℕ) (ls : List (List ℕ)) → (ls ≡ [] → bs ≡ []) → Ended bs ls → Ended (b ∷ bs) (onto_first b ls)
with_byte b bs [] none h = inr (ap (λ x. b ∷ (x ++ 10 ∷ [])) (sym (none refl)))
with_byte b bs (w ∷ ls) none (inl h) = inl (ap (λ x. b ∷ x) h)
with_byte b bs (w ∷ ls) none (inr h) = inr (ap (λ x. b ∷ x) h)

no_line : (bs : List ℕ) → lines_of bs ≡ [] → bs ≡ []
no_line [] h = refl
no_line (b ∷ bs) h = absurd (go (eqb b 10) (parts_of 10 [] bs) h)
  where
    go : (t : Bool) (ls : List (List ℕ)) → cond t ([] ∷ ls) (onto_first b ls) ≡ [] → ⊥
    go true ls k = cc
    go false [] k = cc
    go false (w ∷ ls) k = cc

lines_ended : (t : List ℕ) → Ended t (lines_of t)
lines_ended [] = inl refl
lines_ended (b ∷ bs) = go (eqb b 10) refl (lines_of bs) (no_line bs) (lines_ended bs)
  where
    go : (t : Bool) → eqb b 10 ≡ t → (ls : List (List ℕ)) → (ls ≡ [] → bs ≡ []) → Ended bs ls → Ended (b ∷ bs) (cond t ([] ∷ ls) (onto_first b ls))
    go true is ls none (inl h) = inl (ap (λ x. 10 ∷ x) h ∙ ap (λ x. x ∷ bs) (sym (eqb-true b 10 is)))
    go true is ls none (inr h) = inr (ap (λ x. 10 ∷ x) h ∙ ap (λ x. x ∷ (bs ++ 10 ∷ [])) (sym (eqb-true b 10 is)))
    go false is ls none h = with_byte b bs ls none h

pub lines_are_lem : LinesAre
lines_are_lem t = (parts_lack 10 [] t refl, lines_ended t)
