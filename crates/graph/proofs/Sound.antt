-- What is read is a proper graph.
use Rattle.std.proofs.Common.{◌≡◌, ℕ, ◌+◌, ◌<◌, ◌≤◌, Bool, true, false, cond, ◌&&◌, eqb, ltb, leb, List, [], ◌∷◌, length, Some, None, Option, sym, refl, ap, ◌∙◌, subst, arith, length-append, ltb-true, lt-ltb, le-leb}
use borrow.Author.Tests.{eqb-false}
use Rattle.std.proofs.lemmas.Bool.{and_from}
use Rattle.text.specs.Words.{words_of, lines_of}
use Rattle.model.specs.Graph.{Topology, most_workers, most_edges, worker_proper, edge_proper, workers_proper, edges_proper, sized, proper, Proper}
use Rattle.model.proofs.Proper.{proper_is_lem}
use Rattle.graph.specs.declared.draft.Draft.{Draft}
use Rattle.graph.specs.Draft.{shape_of}
use Rattle.graph.specs.declared.line.Line.{Line}
use Rattle.graph.specs.declared.line.Line.TheVariants as line
use Rattle.graph.specs.Line.{line_of}
use Rattle.graph.specs.Draft.{Shape, Drafted, complete, bad_line, topology, room_for, added_to, stepped, draft_from, drafted}
use Rattle.graph.specs.Faults.{worker_faults, fault_of}
use Rattle.graph.specs.Verdict.{graph, refused, judged, judged_draft, ReadIsProper}
use Rattle.graph.proofs.Lowest.{none_found}

abbrev Within : Shape → Type 0
Within s = (length s.kinds ≤ most_workers) × (length s.edges ≤ most_edges)

within_more : (s : Shape) (n : ℕ) (said : Line) → Within s → room_for s said ≡ true → Within (added_to s n said)
within_more s n (line.Worker k) w room = let l = ltb-true (length s.kinds) most_workers room in (omega (arith, length-append s.kinds (k ∷ []), l), w.1)
within_more s n (line.Edge x) w room = let l = ltb-true (length s.edges) most_edges room in (w.0, omega (arith, length-append s.edges (x ∷ []), l))

bad_complete : (n : ℕ) (s : Shape) → bad_line n ≡ complete s → ⊥
bad_complete n s h = let z : ◌≡◌ {A = ℕ} 0 1 = cc in omega arith

abbrev Good : Shape → Type 0
Good t = (0 < length t.kinds) × Within t

complete_good : (n : ℕ) (s t : Shape) → Within s → cond (eqb (length s.kinds) 0) (bad_line n) (complete s) ≡ complete t → Good t
complete_good n s t w h = go (eqb (length s.kinds) 0) refl h
  where
    go : (b : Bool) → eqb (length s.kinds) 0 ≡ b → cond b (bad_line n) (complete s) ≡ complete t → Good t
    go true is k = absurd (bad_complete n t k)
    go false is k = let e : s ≡ t = cc in subst Good e (let z = eqb-false (length s.kinds) 0 is in omega (arith, z), w)

stepped_good : (n : ℕ) (s t : Shape) (o : Option Line) (more : Shape → Drafted) → Within s → ((u : Shape) → Within u → more u ≡ complete t → Good t) → stepped n s o more ≡ complete t → Good t
stepped_good n s t None more w next h = absurd (bad_complete n t h)
stepped_good n s t (Some said) more w next h = go (room_for s said) refl h
  where
    go : (b : Bool) → room_for s said ≡ b → cond b (more (added_to s n said)) (bad_line n) ≡ complete t → Good t
    go true is k = next (added_to s n said) (within_more s n said w is) k
    go false is k = absurd (bad_complete n t k)

draft_good : (n : ℕ) (s t : Shape) (ls : List (List ℕ)) → Within s → draft_from n s ls ≡ complete t → Good t
draft_good n s t [] w h = complete_good n s t w h
draft_good n s t (l ∷ ls) w h = stepped_good n s t (line_of (words_of l)) (λ u. draft_from (n + 1) u ls) w (λ u v k. draft_good (n + 1) u t ls v k) h

pub read_proper : (text : List ℕ) (s : Shape) → complete s ≡ drafted text → None ≡ fault_of s → proper (topology s) ≡ true
read_proper text s is none =
    let g : Good s = draft_good 1 _ s (lines_of text) (omega arith, omega arith) (sym is) in
    let best = worker_faults s.edges s.worker_lines s.kinds in
    let es = none_found (λ e x. edge_proper s.kinds x) (λ e. edges_proper s.kinds) (λ e. refl) (λ e x xs. refl) s.edge_lines 0 s.edges best (sym none) in
    let ws = none_found (worker_proper s.edges) (workers_proper s.edges) (λ w. refl) (λ w k ks. refl) s.worker_lines 0 s.kinds None es.0 in
    let z : sized (topology s) ≡ true
    = and_from (ltb 0 (length s.kinds)) (leb (length s.kinds) most_workers && leb (length s.edges) most_edges) (lt-ltb 0 (length s.kinds) g.0)
    (and_from (leb (length s.kinds) most_workers) (leb (length s.edges) most_edges) (le-leb (length s.kinds) most_workers g.1.0) (le-leb (length s.edges) most_edges g.1.1)) in
    and_from (sized (topology s)) (workers_proper s.edges 0 s.kinds && edges_proper s.kinds s.edges) z
    (and_from (workers_proper s.edges 0 s.kinds) (edges_proper s.kinds s.edges) ws.1 es.1)

-- the same of what was read
pub sound : (text : List ℕ) (d : Draft) → drafted text ≡ complete (shape_of d) → fault_of (shape_of d) ≡ None → proper (topology (shape_of d)) ≡ true
sound text d is none = read_proper text (shape_of d) (sym is) (sym none)

refused_graph : (n l : ℕ) (g : Topology) (ls : List ℕ) → refused n l ≡ graph g ls → ⊥
refused_graph n l g ls h = let z : ◌≡◌ {A = ℕ} 0 1 = cc in omega arith

fault_proper : (text : List ℕ) (g : Topology) (ls : List ℕ) (s : Shape) → complete s ≡ drafted text → (o : Option ℕ) → o ≡ fault_of s → judged s o ≡ graph g ls → Proper g
fault_proper text g ls s is None none k =
    let e : topology s ≡ g = cc in
    (proper_is_lem g).0 (ap proper (sym e) ∙ read_proper text s is none)
fault_proper text g ls s is (Some l) some k = absurd (refused_graph 2 l g ls k)

draft_proper : (text : List ℕ) (g : Topology) (ls : List ℕ) (d : Drafted) → d ≡ drafted text → judged_draft d ≡ graph g ls → Proper g
draft_proper text g ls (complete s) is k = fault_proper text g ls s is (fault_of s) refl k
draft_proper text g ls (bad_line l) is k = absurd (refused_graph 1 l g ls k)

pub read_is_proper_lem : ReadIsProper
read_is_proper_lem text g ls h = draft_proper text g ls (drafted text) refl h
