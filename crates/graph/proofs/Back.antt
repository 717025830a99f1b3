-- A graph written out and read again.
use Rattle.std.proofs.Common.{◌≡◌, ℕ, zero, suc, ◌+◌, ◌-◌, ◌<◌, ◌≤◌, true, false, cond, ◌&&◌, eqb, leb, List, [], ◌∷◌, ◌++◌, length, get_or, Some, None, codes, decimal, sym, refl, ap, ◌∙◌, append_assoc, append-nil, add-zero, zero-add, arith, length-append, lt-ltb, ne_eqb, leb-true}
use Rattle.std.proofs.lemmas.Bool.{and_parts, and_from}
use Rattle.text.specs.Number.{most}
use Rattle.text.specs.Words.{words_of, lines_of}
use Rattle.text.specs.Laws.{lacks, all_lack}
use Rattle.text.proofs.Joins.{lines_join_lem}
use Rattle.text.proofs.Characters.{name_lacks}
use Rattle.text.proofs.Spelling.{plain_number, one_plain, two_plain, one_back, two_back, with_plain, line_lacks, line_words}
use Rattle.model.specs.declared.Kind.{Kind}
use Rattle.model.specs.declared.Kind.TheVariants.{Source, Keep, Scale, Group, Spread, Window, Sink}
use Rattle.model.specs.declared.Edge.{Edge}
use Rattle.model.specs.Graph.{Topology, no_edge, most_workers, most_edges, kind_at, worker_proper, edge_proper, workers_proper, edges_proper, sized, Proper}
use Rattle.model.proofs.Proper.{proper_is_lem}
use Rattle.graph.specs.declared.line.Line.{Line}
use Rattle.graph.specs.declared.line.Line.TheVariants as line
use Rattle.graph.specs.Line.{line_of}
use Rattle.graph.specs.Draft.{Shape, complete, bad_line, bare, room_for, added_to, stepped, draft_from, drafted}
use Rattle.graph.specs.Faults.{worker_faults, fault_of}
use Rattle.graph.specs.Verdict.{graph, judged, judged_draft, verdict, name_in}
use Rattle.graph.specs.Write.{kind_words, worker_line, edge_words, edge_line, worker_texts, edge_texts, text_of, writable, all_writable, count_from, WriteRead}
use Rattle.graph.proofs.Lowest.{all_found}

-- what a worker's words say
kind_back : (name : List ℕ) (k : Kind) → writable name k ≡ true → line_of (codes "worker" ∷ kind_words name k) ≡ Some (line.Worker k)
kind_back name Source h = rw h refl
kind_back name (Keep low high) h = let p = and_parts (leb low most) (leb high most) h in rw (two_back low high (leb-true low most p.0) (leb-true high most p.1)) refl
kind_back name (Scale times by) h = let p = and_parts (leb times most) (leb by most) h in rw (two_back times by (leb-true times most p.0) (leb-true by most p.1)) refl
kind_back name (Group by) h = rw (one_back by (leb-true by most h)) refl
kind_back name Spread h = refl
kind_back name (Window long) h = rw (one_back long (leb-true long most h)) refl
kind_back name Sink h = refl

kind_plain : (name : List ℕ) (k : Kind) → writable name k ≡ true → (e : ℕ) → e ≤ 32 → all_lack e (kind_words name k) ≡ true
kind_plain name Source h e l = with_plain e (codes "source") (name ∷ []) refl l (one_plain name (λ d m. name_lacks d name m h) e l)
kind_plain name (Keep low high) h e l =
    let p = and_parts (leb low most) (leb high most) h in
    with_plain e (codes "keep") (decimal low ∷ decimal high ∷ []) refl l
    (two_plain (decimal low) (decimal high) (plain_number low (leb-true low most p.0)) (plain_number high (leb-true high most p.1)) e l)
kind_plain name (Scale times by) h e l =
    let p = and_parts (leb times most) (leb by most) h in
    with_plain e (codes "scale") (decimal times ∷ decimal by ∷ []) refl l
    (two_plain (decimal times) (decimal by) (plain_number times (leb-true times most p.0)) (plain_number by (leb-true by most p.1)) e l)
kind_plain name (Group by) h e l = with_plain e (codes "group") (decimal by ∷ []) refl l (one_plain (decimal by) (plain_number by (leb-true by most h)) e l)
kind_plain name Spread h e l = with_plain e (codes "spread") [] refl l refl
kind_plain name (Window long) h e l = with_plain e (codes "window") (decimal long ∷ []) refl l (one_plain (decimal long) (plain_number long (leb-true long most h)) e l)
kind_plain name Sink h e l = with_plain e (codes "sink") [] refl l refl

pub worker_words : (name : List ℕ) (k : Kind) → writable name k ≡ true → words_of (worker_line name k) ≡ codes "worker" ∷ kind_words name k
worker_words name k h = line_words (codes "worker") (kind_words name k) refl (kind_plain name k h)

pub worker_back : (name : List ℕ) (k : Kind) → writable name k ≡ true → line_of (words_of (worker_line name k)) ≡ Some (line.Worker k)
worker_back name k h = ap line_of (worker_words name k h) ∙ kind_back name k h

abbrev Fits : Edge → Type 0
Fits x = (x.from ≤ most) × (x.to ≤ most)

edge_plain : (x : Edge) → Fits x → (e : ℕ) → e ≤ 32 → all_lack e (edge_words x) ≡ true
edge_plain x f e l = two_plain (decimal x.from) (decimal x.to) (plain_number x.from f.0) (plain_number x.to f.1) e l

pub edge_back : (x : Edge) → Fits x → line_of (words_of (edge_line x)) ≡ Some (line.Edge x)
edge_back x f = ap line_of (line_words (codes "edge") (edge_words x) refl (edge_plain x f)) ∙ rw (two_back x.from x.to f.0 f.1) refl

-- the lines have no line feeds
abbrev AllFit : List Edge → Type 0
AllFit [] = Unit {0}
AllFit (x ∷ xs) = Fits x × AllFit xs

edges_lack : (xs : List Edge) → AllFit xs → all_lack 10 (edge_texts xs) ≡ true
edges_lack [] f = refl
edges_lack (x ∷ xs) (f, fs) = and_from (lacks 10 (edge_line x)) (all_lack 10 (edge_texts xs)) (line_lacks (codes "edge") (edge_words x) refl (edge_plain x f)) (edges_lack xs fs)

all_lack_lem : (names : List (List ℕ)) (w : ℕ) (ks : List Kind) (rest : List (List ℕ)) → all_writable names w ks ≡ true → all_lack 10 rest ≡ true → all_lack 10 (worker_texts names w ks ++ rest) ≡ true
all_lack_lem names w [] rest h k = k
all_lack_lem names w (x ∷ xs) rest h k =
    let p = and_parts (writable (get_or names w []) x) (all_writable names (w + 1) xs) h in
    and_from (lacks 10 (worker_line (get_or names w []) x)) (all_lack 10 (worker_texts names (w + 1) xs ++ rest))
    (line_lacks (codes "worker") (kind_words (get_or names w []) x) refl (kind_plain (get_or names w []) x p.0)) (all_lack_lem names (w + 1) xs rest p.1 k)

-- a line that says something and has room is added
added_line : (n : ℕ) (s : Shape) (l : List ℕ) (ls : List (List ℕ)) (said : Line) → line_of (words_of l) ≡ Some said → room_for s said ≡ true → draft_from n s (l ∷ ls) ≡ draft_from (n + 1) (added_to s n said) ls
added_line n s l ls said is room =
    ap (λ o. stepped n s o (λ t. draft_from (n + 1) t ls)) is ∙ ap (λ b. cond b (draft_from (n + 1) (added_to s n said) ls) (bad_line n)) room

abbrev shape : List Kind → List Edge → List ℕ → List ℕ → Shape
shape ks es wl el = record { kinds = ks; edges = es; worker_lines = wl; edge_lines = el }

one_longer : {X : Type 0} (xs : List X) (x : X) → length (xs ++ x ∷ []) ≡ length xs + 1
one_longer xs x = length-append xs (x ∷ [])

workers_back : (names : List (List ℕ)) (w : ℕ) (ks : List Kind) (n : ℕ) (os : List Kind) (es : List Edge) (wl el : List ℕ) (rest : List (List ℕ)) →
    all_writable names w ks ≡ true → length os + length ks ≤ most_workers →
    draft_from n (shape os es wl el) (worker_texts names w ks ++ rest) ≡ draft_from (n + length ks) (shape (os ++ ks) es (wl ++ count_from n (length ks)) el) rest
workers_back names w [] n os es wl el rest h fits =
    rw (add-zero, append-nil os, append-nil wl) refl
workers_back names w (k ∷ ks) n os es wl el rest h fits =
    let p = and_parts (writable (get_or names w []) k) (all_writable names (w + 1) ks) h in
    let room : room_for (shape os es wl el) (line.Worker k) ≡ true = lt-ltb (length os) most_workers (omega arith) in
    let one : draft_from n (shape os es wl el) (worker_texts names w (k ∷ ks) ++ rest) ≡ draft_from (n + 1) (shape (os ++ k ∷ []) es (wl ++ n ∷ []) el) (worker_texts names (w + 1) ks ++ rest)
    = added_line n (shape os es wl el) (worker_line (get_or names w []) k) (worker_texts names (w + 1) ks ++ rest) (line.Worker k) (worker_back (get_or names w []) k p.0) room in
    let more = workers_back names (w + 1) ks (n + 1) (os ++ k ∷ []) es (wl ++ n ∷ []) el rest p.1 (omega (arith, one_longer os k)) in
    let a : (os ++ k ∷ []) ++ ks ≡ os ++ k ∷ ks = append_assoc os (k ∷ []) ks in
    let b : (wl ++ n ∷ []) ++ count_from (n + 1) (length ks) ≡ wl ++ n ∷ count_from (n + 1) (length ks) = append_assoc wl (n ∷ []) (count_from (n + 1) (length ks)) in
    let m : (n + 1) + length ks ≡ n + suc (length ks) = omega arith in
    one ∙ (more ∙ (ap (λ x. draft_from x (shape ((os ++ k ∷ []) ++ ks) es ((wl ++ n ∷ []) ++ count_from (n + 1) (length ks)) el) rest) m
    ∙ (ap (λ x. draft_from (n + suc (length ks)) (shape x es ((wl ++ n ∷ []) ++ count_from (n + 1) (length ks)) el) rest) a
    ∙ ap (λ x. draft_from (n + suc (length ks)) (shape (os ++ k ∷ ks) es x el) rest) b)))

edges_back : (xs : List Edge) (n : ℕ) (ks : List Kind) (os : List Edge) (wl el : List ℕ) → AllFit xs → length os + length xs ≤ most_edges →
    draft_from n (shape ks os wl el) (edge_texts xs) ≡ draft_from (n + length xs) (shape ks (os ++ xs) wl (el ++ count_from n (length xs))) []
edges_back [] n ks os wl el f fits = rw (add-zero, append-nil os, append-nil el) refl
edges_back (x ∷ xs) n ks os wl el (f, fs) fits =
    let room : room_for (shape ks os wl el) (line.Edge x) ≡ true = lt-ltb (length os) most_edges (omega arith) in
    let one : draft_from n (shape ks os wl el) (edge_texts (x ∷ xs)) ≡ draft_from (n + 1) (shape ks (os ++ x ∷ []) wl (el ++ n ∷ [])) (edge_texts xs)
    = added_line n (shape ks os wl el) (edge_line x) (edge_texts xs) (line.Edge x) (edge_back x f) room in
    let more = edges_back xs (n + 1) ks (os ++ x ∷ []) wl (el ++ n ∷ []) fs (omega (arith, one_longer os x)) in
    let a : (os ++ x ∷ []) ++ xs ≡ os ++ x ∷ xs = append_assoc os (x ∷ []) xs in
    let b : (el ++ n ∷ []) ++ count_from (n + 1) (length xs) ≡ el ++ n ∷ count_from (n + 1) (length xs) = append_assoc el (n ∷ []) (count_from (n + 1) (length xs)) in
    let m : (n + 1) + length xs ≡ n + suc (length xs) = omega arith in
    one ∙ (more ∙ (ap (λ y. draft_from y (shape ks ((os ++ x ∷ []) ++ xs) wl ((el ++ n ∷ []) ++ count_from (n + 1) (length xs))) []) m
    ∙ (ap (λ y. draft_from (n + suc (length xs)) (shape ks y wl ((el ++ n ∷ []) ++ count_from (n + 1) (length xs))) []) a
    ∙ ap (λ y. draft_from (n + suc (length xs)) (shape ks (os ++ x ∷ xs) wl y) []) b)))

edges_fit : (xs : List Edge) → ((e : ℕ) → e < length xs → Fits (get_or xs e no_edge)) → AllFit xs
edges_fit [] h = tt
edges_fit (x ∷ xs) h = (h zero (omega arith), edges_fit xs (λ e l. h (suc e) (omega arith)))

proper_fits : (g : Topology) → Proper g → AllFit g.edges
proper_fits g p = edges_fit g.edges (λ e l. let u = p.up e l in let f = p.few in (omega (arith, u.0, u.1, f), omega (arith, u.1, f)))

abbrev final : Topology → Shape
final g = shape g.kinds g.edges (count_from 1 (length g.kinds)) (count_from (1 + length g.kinds) (length g.edges))

text_lines : (g : Topology) (names : List (List ℕ)) → Proper g → all_writable names 0 g.kinds ≡ true → lines_of (text_of names g) ≡ worker_texts names 0 g.kinds ++ edge_texts g.edges
text_lines g names p h = lines_join_lem (worker_texts names 0 g.kinds ++ edge_texts g.edges) (all_lack_lem names 0 g.kinds (edge_texts g.edges) h (edges_lack g.edges (proper_fits g p)))

draft_back : (g : Topology) (names : List (List ℕ)) → Proper g → all_writable names 0 g.kinds ≡ true → drafted (text_of names g) ≡ complete (final g)
draft_back g names p h =
    let some : eqb (length g.kinds) 0 ≡ false = ne_eqb (length g.kinds) 0 (let l = p.some in omega (arith, l)) in
    let a = workers_back names 0 g.kinds 1 [] [] [] [] (edge_texts g.edges) h (let f = p.few in omega (arith, f)) in
    let b = edges_back g.edges (1 + length g.kinds) g.kinds [] (count_from 1 (length g.kinds)) [] (proper_fits g p) (let f = p.few_edges in omega (arith, f)) in
    let c : draft_from ((1 + length g.kinds) + length g.edges) (final g) [] ≡ complete (final g)
    = ap (λ t. cond t (bad_line ((1 + length g.kinds) + length g.edges)) (complete (final g))) some in
    ap (draft_from 1 bare) (text_lines g names p h) ∙ (a ∙ (b ∙ c))

no_fault : (g : Topology) → Proper g → fault_of (final g) ≡ None
no_fault g p =
    let t = (proper_is_lem g).1 p in
    let u = (and_parts (sized g) (workers_proper g.edges 0 g.kinds && edges_proper g.kinds g.edges) t).1 in
    let v = and_parts (workers_proper g.edges 0 g.kinds) (edges_proper g.kinds g.edges) u in
    all_found (λ e x. edge_proper g.kinds x) (λ e. edges_proper g.kinds) (λ e. refl) (λ e x xs. refl) (final g).edge_lines 0 g.edges
    (worker_faults g.edges (final g).worker_lines g.kinds) v.1
    ∙ all_found (worker_proper g.edges) (workers_proper g.edges) (λ w. refl) (λ w k ks. refl) (final g).worker_lines 0 g.kinds None v.0

verdict_back : (g : Topology) (names : List (List ℕ)) → Proper g → all_writable names 0 g.kinds ≡ true → verdict (text_of names g) ≡ graph g (count_from 1 (length g.kinds))
verdict_back g names p h = ap judged_draft (draft_back g names p h) ∙ ap (judged (final g)) (no_fault g p)

-- the line of a worker, and the name in it
count_at : (n k w : ℕ) → w < k → get_or (count_from n k) w 0 ≡ n + w
count_at n zero w l = absurd (omega arith)
count_at n (suc k) zero l = sym (add-zero n)
count_at n (suc k) (suc w) l = count_at (n + 1) k w (omega arith) ∙ (let e : (n + 1) + w ≡ n + suc w = omega arith in e)

text_at : (names : List (List ℕ)) (v : ℕ) (ks : List Kind) (rest : List (List ℕ)) (w : ℕ) → w < length ks →
    get_or (worker_texts names v ks ++ rest) w [] ≡ worker_line (get_or names (v + w) []) (get_or ks w Source)
text_at names v [] rest w l = absurd (omega arith)
text_at names v (k ∷ ks) rest zero l = rw add-zero refl
text_at names v (k ∷ ks) rest (suc w) l =
    let e : (v + 1) + w ≡ v + suc w = omega arith in
    text_at names (v + 1) ks rest w (omega arith) ∙ ap (λ i. worker_line (get_or names i []) (get_or ks w Source)) e

writable_at : (names : List (List ℕ)) (v : ℕ) (ks : List Kind) → all_writable names v ks ≡ true → (w : ℕ) → w < length ks → writable (get_or names (v + w) []) (get_or ks w Source) ≡ true
writable_at names v [] h w l = absurd (omega arith)
writable_at names v (k ∷ ks) h zero l = rw add-zero (and_parts (writable (get_or names v []) k) (all_writable names (v + 1) ks) h).0
writable_at names v (k ∷ ks) h (suc w) l =
    let e : (v + 1) + w ≡ v + suc w = omega arith in
    sym (ap (λ i. writable (get_or names i []) (get_or ks w Source)) e) ∙ writable_at names (v + 1) ks (and_parts (writable (get_or names v []) k) (all_writable names (v + 1) ks) h).1 w (omega arith)

name_back : (g : Topology) (names : List (List ℕ)) → Proper g → all_writable names 0 g.kinds ≡ true → (w : ℕ) → w < length g.kinds → kind_at g w ≡ Source →
    name_in (text_of names g) (get_or (count_from 1 (length g.kinds)) w 0) ≡ get_or names w []
name_back g names p h w l is =
    let number : get_or (count_from 1 (length g.kinds)) w 0 - 1 ≡ w = let c = count_at 1 (length g.kinds) w l in omega (arith, c) in
    let there : get_or (lines_of (text_of names g)) w [] ≡ worker_line (get_or names w []) Source
    = ap (λ ls. get_or ls w []) (text_lines g names p h) ∙ (text_at names 0 g.kinds (edge_texts g.edges) w l
    ∙ (ap (λ i. worker_line (get_or names i []) (get_or g.kinds w Source)) (zero-add w) ∙ ap (worker_line (get_or names w [])) is)) in
    let ok : writable (get_or names w []) Source ≡ true
    = sym (ap (λ i. writable (get_or names i []) Source) (zero-add w)) ∙ (sym (ap (writable (get_or names (0 + w) [])) is) ∙ writable_at names 0 g.kinds h w l) in
    ap (λ i. get_or (words_of (get_or (lines_of (text_of names g)) i [])) 2 []) number
    ∙ (ap (λ x. get_or (words_of x) 2 []) there ∙ ap (λ ws. get_or ws 2 []) (worker_words (get_or names w []) Source ok))

pub write_read : WriteRead
write_read g names p h = (verdict_back g names p h, name_back g names p h)
