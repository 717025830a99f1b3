-- The line of each worker, in any text that is read.
use Rattle.std.proofs.Common.{◌≡◌, ℕ, zero, suc, ◌+◌, ◌-◌, ◌<◌, true, List, [], ◌∷◌, ◌++◌, length, get_or, Some, None, Option, sym, refl, ap, ◌∙◌, subst, inl, inr, zero-add, arith, length-append}
use Rattle.std.proofs.lemmas.List.{get_or_append_left, get_or_push}
use Rattle.std.proofs.lemmas.Bool.{cases_lt}
use Rattle.text.specs.Words.{words_of, lines_of}
use Rattle.model.specs.declared.Kind.{Kind}
use Rattle.model.specs.declared.Kind.TheVariants.{Source}
use Rattle.model.specs.Graph.{Topology, kind_at}
use Rattle.graph.specs.declared.line.Line.{Line}
use Rattle.graph.specs.declared.line.Line.TheVariants as line
use Rattle.graph.specs.Line.{line_of}
use Rattle.graph.specs.Draft.{Shape, bare}
use Rattle.graph.specs.Verdict.{name_in}
use Rattle.graph.specs.Applies.{said_with, said_from, said}
use Rattle.graph.specs.Write.{worker_line, writable, WorkersHaveLines}
use Rattle.graph.proofs.Back.{worker_words}
use Rattle.graph.proofs.Exact.{line_is_lem}
use Rattle.graph.proofs.Verdicts.{read_is_said_lem}

-- what a line of the text, counted from 1, says
abbrev say_at : List (List ℕ) → ℕ → Option Line
say_at all k = line_of (words_of (get_or all (k - 1) []))

-- each worker has a line, and that line says it
abbrev Tied : List (List ℕ) → List Kind → List ℕ → Type 0
Tied all ks ls = (length ls ≡ length ks) × ((w : ℕ) → w < length ks → say_at all (get_or ls w 0) ≡ Some (line.Worker (get_or ks w Source)))

tied_more : (all : List (List ℕ)) (ks : List Kind) (ls : List ℕ) (k : Kind) (n : ℕ) → say_at all n ≡ Some (line.Worker k) → Tied all ks ls → Tied all (ks ++ k ∷ []) (ls ++ n ∷ [])
tied_more all ks ls k n here (same, each) = (omega (arith, same, length-append ls (n ∷ []), length-append ks (k ∷ [])), go)
  where
    go : (w : ℕ) → w < length (ks ++ k ∷ []) → say_at all (get_or (ls ++ n ∷ []) w 0) ≡ Some (line.Worker (get_or (ks ++ k ∷ []) w Source))
    go w l = elim (cases_lt w (length ks)) [
      | inl below ↦ let a = get_or_append_left ls (n ∷ []) 0 w (omega (arith, same, below)) in
          let b = get_or_append_left ks (k ∷ []) Source w below in
          ap (say_at all) a ∙ (each w below ∙ ap (λ x. Some (line.Worker x)) (sym b))
      | inr above ↦ let is : length ks ≡ w = omega (arith, above, l, length-append ks (k ∷ [])) in
          let a = get_or_push ls n 0 w (same ∙ is) in
          let b = get_or_push ks k Source w is in
          ap (say_at all) a ∙ (here ∙ ap (λ x. Some (line.Worker x)) (sym b))
    ]

tied_with : (all : List (List ℕ)) (s : Shape) (n : ℕ) (o : Option Line) → say_at all n ≡ o → Tied all s.kinds s.worker_lines → Tied all (said_with s n o).kinds (said_with s n o).worker_lines
tied_with all s n None here t = t
tied_with all s n (Some (line.Worker k)) here t = tied_more all s.kinds s.worker_lines k n here t
tied_with all s n (Some (line.Edge x)) here t = t

-- the lines from place i on
said_tied : (all : List (List ℕ)) (i : ℕ) (s : Shape) (ls : List (List ℕ)) → ((j : ℕ) → get_or ls j [] ≡ get_or all (i + j) []) → Tied all s.kinds s.worker_lines →
    Tied all (said_from (i + 1) s ls).kinds (said_from (i + 1) s ls).worker_lines
said_tied all i s [] rest t = t
said_tied all i s (l ∷ ls) rest t =
    let at : get_or all ((i + 1) - 1) [] ≡ l = let e : (i + 1) - 1 ≡ i + 0 = omega arith in ap (λ k. get_or all k []) e ∙ sym (rest zero) in
    let here : say_at all (i + 1) ≡ line_of (words_of l) = ap (λ x. line_of (words_of x)) at in
    said_tied all (i + 1) (said_with s (i + 1) (line_of (words_of l))) ls
    (λ j. let e : i + suc j ≡ (i + 1) + j = omega arith in rest (suc j) ∙ ap (λ k. get_or all k []) e)
    (tied_with all s (i + 1) (line_of (words_of l)) here t)

text_tied : (text : List ℕ) → Tied (lines_of text) (said text).kinds (said text).worker_lines
text_tied text =
    let start : Tied (lines_of text) [] [] = (refl, λ w l. absurd (omega arith)) in
    said_tied (lines_of text) 0 bare (lines_of text) (λ j. ap (λ k. get_or (lines_of text) k []) (sym (zero-add j))) start

pub workers_have_lines_lem : WorkersHaveLines
workers_have_lines_lem text g lines h w l =
    let r = (read_is_said_lem text g lines h).1 in
    let ks : (said text).kinds ≡ g.kinds = ap (λ (t : Topology). t.kinds) r.0 in
    let t : Tied (lines_of text) g.kinds lines
    = subst (λ x. Tied (lines_of text) x lines) ks (subst (Tied (lines_of text) (said text).kinds) r.1 (text_tied text)) in
    let n = (line_is_lem (get_or (lines_of text) (get_or lines w 0 - 1) []) (line.Worker (kind_at g w))).0 (t.1 w l) in
    (n.0, n.1, n.2, λ is. name-at n.0 (kind_at g w) is n.1 n.2)
  where
    name-at : (name : List ℕ) (k : Kind) → k ≡ Source → writable name k ≡ true → get_or (lines_of text) (get_or lines w 0 - 1) [] ≡ worker_line name k → name_in text (get_or lines w 0) ≡ name
    name-at name k is ok there =
        let ok' : writable name Source ≡ true = ap (writable name) (sym is) ∙ ok in
        ap (λ x. get_or (words_of x) 2 []) (there ∙ ap (worker_line name) is) ∙ ap (λ ws. get_or ws 2 []) (worker_words name Source ok')
