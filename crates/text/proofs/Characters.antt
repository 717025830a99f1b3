-- Names.
use Rattle.std.proofs.Common.{Result, Ok, Err, ◌≡◌, ℕ, ◌<◌, ◌≤◌, Bool, true, false, cond, not, eqb, ltb, List, [], ◌∷◌, length, get_or, IsUtf8, Bor, sym, ap, ◌∙◌, refl, inl, inr, arith, ltb-true, lt-ltb, ne_eqb}
use borrow.Author.Tests.{clash, eqb-false}
use Rattle.std.specs.Result.{MatchResult, is_ok}
use Rattle.std.specs.Str.{is_utf8, IsValidUpTo, valid_up_to}
use Rattle.std.specs.declared.str.Utf8Error.{Utf8Error}
use Rattle.std.proofs.lemmas.Bool.{and_parts, and_from, cases_Bool, not_from_false}
use Rattle.std.proofs.lemmas.List.{get_or_default}
use Rattle.std.proofs.lemmas.List.Sums.{AllPass-from_list_all, list_all-from_AllPass}
use Rattle.std.proofs.lemmas.Str.{IsUtf8-from_is_utf8, is_utf8-from_IsUtf8}
use Rattle.text.specs.Name.{visible, is_name, NameIs}
use Rattle.text.specs.Laws.{lacks}

-- what `from_utf8` says of some bytes
pub utf8_ok : (r : Result (Bor (List ℕ)) Utf8Error) (bs : List ℕ) → MatchResult r (λ s. (s.now ≡ bs) × IsUtf8 bs) (λ e. ¬ (IsUtf8 bs) × IsValidUpTo bs (valid_up_to e)) → is_ok r ≡ is_utf8 bs
utf8_ok (Ok s) bs is = sym (is_utf8-from_IsUtf8 bs is.1)
utf8_ok (Err e) bs is = elim (cases_Bool (is_utf8 bs)) [ inl h ↦ absurd (is.0 (IsUtf8-from_is_utf8 bs h)) | inr h ↦ sym h ]

abbrev Visible : List ℕ → Type 0
Visible w = (i : ℕ) → i < length w → 32 < get_or w i 0

visible_from : (bs : List ℕ) → visible bs ≡ true → Visible bs
visible_from bs h i l = ltb-true 32 (get_or bs i 0) (AllPass-from_list_all (ltb 32) bs h i 0 l)

visible_to : (bs : List ℕ) → Visible bs → visible bs ≡ true
visible_to bs v = list_all-from_AllPass (ltb 32) bs (λ i d l. ap (ltb 32) (get_or_default bs i d 0 l) ∙ lt-ltb 32 (get_or bs i 0) (v i l))

pub name_is_lem : NameIs
name_is_lem w = (forth (eqb (length w) 0) refl (visible w) refl, λ p. back p.0 p.1.0 p.1.1)
  where
    forth : (e : Bool) → eqb (length w) 0 ≡ e → (v : Bool) → visible w ≡ v → cond e false (cond v (is_utf8 w) false) ≡ true → (0 < length w) × (Visible w × IsUtf8 w)
    forth true e v is h = absurd (clash h)
    forth false e true is h = (let n = eqb-false (length w) 0 e in omega (arith, n), (visible_from w is, IsUtf8-from_is_utf8 w h))
    forth false e false is h = absurd (clash h)

    back : 0 < length w → Visible w → IsUtf8 w → is_name w ≡ true
    back some v u =
        let e : eqb (length w) 0 ≡ false = ne_eqb (length w) 0 (omega arith) in
        let a : visible w ≡ true = visible_to w v in
        rw (e, a) (is_utf8-from_IsUtf8 w u)

-- a name has neither spaces nor line feeds
pub visible_lacks : (e : ℕ) (bs : List ℕ) → e ≤ 32 → visible bs ≡ true → lacks e bs ≡ true
visible_lacks e [] l h = refl
visible_lacks e (b ∷ bs) l h =
    let p = and_parts (ltb 32 b) (visible bs) h in
    let above = ltb-true 32 b p.0 in
    and_from (not (eqb b e)) (lacks e bs) (not_from_false (eqb b e) (ne_eqb b e (omega (arith, above)))) (visible_lacks e bs l p.1)

pub name_lacks : (e : ℕ) (w : List ℕ) → e ≤ 32 → is_name w ≡ true → lacks e w ≡ true
name_lacks e w l h = visible_lacks e w l (visible_to w ((name_is_lem w).0 h).1.0)
