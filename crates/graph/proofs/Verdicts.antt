-- The verdict on a text is what the rules say.
use Rattle.std.proofs.Common.{◌≡◌, ℕ, zero, suc, ◌+◌, ◌<◌, ◌≤◌, Bool, true, false, cond, eqb, ◌⊎◌, List, [], ◌∷◌, length, get_or, take, Some, None, Option, sym, refl, ap, ◌∙◌, subst, inl, inr, add-zero, zero-add, arith, eqb-true}
use borrow.Author.Tests.{clash, eqb-false}
use Rattle.text.specs.Words.{words_of, lines_of}
use Rattle.model.specs.declared.Kind.TheVariants.{Source}
use Rattle.model.specs.Graph.{no_edge, worker_proper, edge_proper}
use Rattle.graph.specs.declared.line.Line.{Line}
use Rattle.graph.specs.Line.{line_of}
use Rattle.graph.specs.Draft.{Shape, Drafted, complete, bad_line, topology, bare, room_for, added_to, stepped, draft_from, drafted}
use Rattle.graph.specs.Faults.{worker_faults, fault_of}
use Rattle.graph.specs.Verdict.{Verdict, graph, refused, judged, judged_draft, verdict}
use Rattle.graph.specs.Applies.{said_with, said_from, Unread, not_a_line, too_many, no_worker, Faulty, worker, edge, said, Applies, one, two, LowestWins, ReadIsSaid}
use Rattle.graph.proofs.Least.{LeastOf, least_like, Fault, lowest-least}

-- what a draft comes to: the first line that is none of a graph, or all that was said
abbrev Drawn : ℕ → Shape → List (List ℕ) → Drafted → Type 0
Drawn n s ls (bad_line k) = LeastOf (Unread n s ls) (Some k)
Drawn n s ls (complete t) = LeastOf (Unread n s ls) None × (said_from n s ls ≡ t)

not_before : (n : ℕ) (s : Shape) (ls : List (List ℕ)) (m : ℕ) → Unread n s ls m → n ≤ m
not_before n s ls m (not_a_line i l is no_line) = omega arith
not_before n s ls m (too_many i x l is here full) = omega arith
not_before n s ls m (no_worker is none) = omega arith

none_some : (o : Option Line) (x : Line) → o ≡ None → o ≡ Some x → ⊥
none_some o x a b = let z : ◌≡◌ {A = ℕ} 0 1 = cc in omega arith

-- at the end
drawn_end : (n : ℕ) (s : Shape) → Drawn n s [] (cond (eqb (length s.kinds) 0) (bad_line n) (complete s))
drawn_end n s = go (eqb (length s.kinds) 0) refl
  where
    absent : (length s.kinds ≡ 0 → ⊥) → (m : ℕ) → Unread n s [] m → ⊥
    absent some m (not_a_line i l is no_line) = omega arith
    absent some m (too_many i x l is here full) = omega arith
    absent some m (no_worker is none) = some none

    go : (t : Bool) → eqb (length s.kinds) 0 ≡ t → Drawn n s [] (cond t (bad_line n) (complete s))
    go true is = (no_worker (sym (add-zero n)) (eqb-true (length s.kinds) 0 is), not_before n s [])
    go false is = (absent (eqb-false (length s.kinds) 0 is), refl)

-- a line that is added: what holds from the next line on holds from this one on, and the other way round
module _ (n : ℕ) (s : Shape) (l : List ℕ) (ls : List (List ℕ)) (x : Line) (here : line_of (words_of l) ≡ Some x) where
  abbrev next : Shape
  next = added_to s n x

  said-next : (xs : List (List ℕ)) → said_from n s (l ∷ xs) ≡ said_from (n + 1) next xs
  said-next xs = ap (λ o. said_from (n + 1) (said_with s n o) xs) here

  later : (m : ℕ) → Unread (n + 1) next ls m → Unread n s (l ∷ ls) m
  later m (not_a_line i b is no_line) = not_a_line (suc i) (omega arith) (omega arith) no_line
  later m (too_many i y b is there full) = too_many (suc i) y (omega arith) (omega arith) there (ap (λ t. room_for t y) (said-next (take i ls)) ∙ full)
  later m (no_worker is none) = no_worker (omega arith) (ap (λ t. length t.kinds) (said-next ls) ∙ none)

  sooner : room_for s x ≡ true → (m : ℕ) → Unread n s (l ∷ ls) m → Unread (n + 1) next ls m
  sooner room m (not_a_line zero b is no_line) = absurd (none_some (line_of (words_of l)) x no_line here)
  sooner room m (not_a_line (suc i) b is no_line) = not_a_line i (omega arith) (omega arith) no_line
  sooner room m (too_many zero y b is there full) = absurd (clash (sym full ∙ (ap (room_for s) same ∙ room)))
    where
      same : y ≡ x
      same = cc
  sooner room m (too_many (suc i) y b is there full) = too_many i y (omega arith) (omega arith) there (sym (ap (λ t. room_for t y) (said-next (take i ls))) ∙ full)
  sooner room m (no_worker is none) = no_worker (omega arith) (sym (ap (λ t. length t.kinds) (said-next ls)) ∙ none)

  drawn-later : room_for s x ≡ true → (d : Drafted) → Drawn (n + 1) next ls d → Drawn n s (l ∷ ls) d
  drawn-later room (bad_line k) h = least_like (Unread (n + 1) next ls) (Unread n s (l ∷ ls)) (Some k) later (sooner room) h
  drawn-later room (complete t) (none, is) = (least_like (Unread (n + 1) next ls) (Unread n s (l ∷ ls)) None later (sooner room) none, said-next ls ∙ is)

drawn_line : (n : ℕ) (s : Shape) (l : List ℕ) (ls : List (List ℕ)) (o : Option Line) → line_of (words_of l) ≡ o →
    ((x : Line) → Drawn (n + 1) (added_to s n x) ls (draft_from (n + 1) (added_to s n x) ls)) → Drawn n s (l ∷ ls) (stepped n s o (λ t. draft_from (n + 1) t ls))
drawn_line n s l ls None here ih = (not_a_line zero (omega arith) (sym (add-zero n)) here, not_before n s (l ∷ ls))
drawn_line n s l ls (Some x) here ih = go (room_for s x) refl
  where
    go : (t : Bool) → room_for s x ≡ t → Drawn n s (l ∷ ls) (cond t (draft_from (n + 1) (added_to s n x) ls) (bad_line n))
    go true room = drawn-later n s l ls x here room (draft_from (n + 1) (added_to s n x) ls) (ih x)
    go false full = (too_many zero x (omega arith) (sym (add-zero n)) here full, not_before n s (l ∷ ls))

drawn : (n : ℕ) (s : Shape) (ls : List (List ℕ)) → Drawn n s ls (draft_from n s ls)
drawn n s [] = drawn_end n s
drawn n s (l ∷ ls) = drawn_line n s l ls (line_of (words_of l)) refl (λ x. drawn (n + 1) (added_to s n x) ls)

-- the fault of a shape
abbrev OfWorkers : Shape → ℕ → Type 0
OfWorkers s k = ⊥ ⊎ Fault (worker_proper s.edges) Source s.worker_lines 0 s.kinds k

abbrev OfBoth : Shape → ℕ → Type 0
OfBoth s k = OfWorkers s k ⊎ Fault (λ e x. edge_proper s.kinds x) no_edge s.edge_lines 0 s.edges k

both_least : (s : Shape) → LeastOf (OfBoth s) (fault_of s)
both_least s =
    lowest-least (λ e x. edge_proper s.kinds x) no_edge s.edge_lines (OfWorkers s) 0 s.edges (worker_faults s.edges s.worker_lines s.kinds)
    (lowest-least (worker_proper s.edges) Source s.worker_lines (λ k. ⊥) 0 s.kinds None (λ m p. p))

faulty_from : (s : Shape) (k : ℕ) → OfBoth s k → Faulty s k
faulty_from s k (inl (inl no_way)) = absurd no_way
faulty_from s k (inl (inr (w, l, f, is))) = worker w l (ap (λ i. worker_proper s.edges i (get_or s.kinds w Source)) (sym (zero-add w)) ∙ f) (is ∙ ap (λ i. get_or s.worker_lines i 0) (zero-add w))
faulty_from s k (inr (e, l, f, is)) = edge e l f (is ∙ ap (λ i. get_or s.edge_lines i 0) (zero-add e))

faulty_to : (s : Shape) (k : ℕ) → Faulty s k → OfBoth s k
faulty_to s k (worker w l f is) = inl (inr (w, l, ap (λ i. worker_proper s.edges i (get_or s.kinds w Source)) (zero-add w) ∙ f, is ∙ ap (λ i. get_or s.worker_lines i 0) (sym (zero-add w))))
faulty_to s k (edge e l f is) = inr (e, l, f, is ∙ ap (λ i. get_or s.edge_lines i 0) (sym (zero-add e)))

faulty_least : (s : Shape) → LeastOf (Faulty s) (fault_of s)
faulty_least s = least_like (OfBoth s) (Faulty s) (fault_of s) (faulty_from s) (faulty_to s) (both_least s)

-- what a verdict says
abbrev Judged : List ℕ → Verdict → Type 0
Judged text (refused n k) = Applies text n k × ((m l : ℕ) → Applies text m l → (n < m) ⊎ ((n ≡ m) × (k ≤ l)))
Judged text (graph g lines) = ((n k : ℕ) → Applies text n k → ⊥) × ((topology (said text) ≡ g) × ((said text).worker_lines ≡ lines))

no_one : (text : List ℕ) → LeastOf (Unread 1 bare (lines_of text)) None → LeastOf (Faulty (said text)) None → (n k : ℕ) → Applies text n k → ⊥
no_one text a b n k (one is u) = a k u
no_one text a b n k (two is f) = b k f

first_one : (text : List ℕ) (k : ℕ) → LeastOf (Unread 1 bare (lines_of text)) (Some k) → (m l : ℕ) → Applies text m l → (1 < m) ⊎ ((1 ≡ m) × (k ≤ l))
first_one text k h m l (one is u) = inr (sym is, h.1 l u)
first_one text k h m l (two is f) = inl (omega arith)

first_two : (text : List ℕ) (k : ℕ) → LeastOf (Unread 1 bare (lines_of text)) None → LeastOf (Faulty (said text)) (Some k) → (m l : ℕ) → Applies text m l → (2 < m) ⊎ ((2 ≡ m) × (k ≤ l))
first_two text k a h m l (one is u) = absurd (a l u)
first_two text k a h m l (two is f) = inr (sym is, h.1 l f)

judged_fault : (text : List ℕ) → LeastOf (Unread 1 bare (lines_of text)) None → (o : Option ℕ) → LeastOf (Faulty (said text)) o → Judged text (judged (said text) o)
judged_fault text none None h = (no_one text none h, (refl, refl))
judged_fault text none (Some k) h = (two refl h.0, first_two text k none h)

judged_draft_lem : (text : List ℕ) (d : Drafted) → Drawn 1 bare (lines_of text) d → Judged text (judged_draft d)
judged_draft_lem text (bad_line k) h = (one refl h.0, first_one text k h)
judged_draft_lem text (complete s) (none, is) = subst (λ t. Judged text (judged t (fault_of t))) is (judged_fault text none (fault_of (said text)) (faulty_least (said text)))

is_judged : (text : List ℕ) → Judged text (verdict text)
is_judged text = judged_draft_lem text (drafted text) (drawn 1 bare (lines_of text))

pub lowest_wins_lem : LowestWins
lowest_wins_lem text n k h = subst (Judged text) h (is_judged text)

pub read_is_said_lem : ReadIsSaid
read_is_said_lem text g lines h = subst (Judged text) h (is_judged text)
