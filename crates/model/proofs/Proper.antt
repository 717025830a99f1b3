-- The test for a proper graph says what the rules say.
use Rattle.std.proofs.Common.{◌≡◌, ℕ, zero, suc, ◌+◌, ◌<◌, ◌≤◌, Bool, true, not, ◌&&◌, ◌||◌, eqb, ltb, leb, ◌⊎◌, List, [], ◌∷◌, length, get_or, Decides, sym, refl, ap, subst, inl, inr, add-zero, zero-add, arith, le-leb, leb-true}
use borrow.Author.Tests.{clash}
use Rattle.std.proofs.lemmas.Bool.Decides.{Decides-eqb, Decides-ltb, Decides-and, Decides-or, Decides-not, Decides-like}
use Rattle.std.specs.List.{list_any}
use Rattle.model.specs.declared.Kind.{Kind}
use Rattle.model.specs.declared.Kind.TheVariants.{Source, Keep, Scale, Group, Spread, Window, Sink}
use Rattle.model.specs.declared.Edge.{Edge}
use Rattle.model.specs.Graph.{Topology, no_edge, most_workers, most_edges, kind_at, is_source, is_sink, in_range, reached, left, worker_proper, edge_proper, workers_proper, edges_proper, sized, proper, InRange, Proper, ProperIs}

decides_leb : (a b : ℕ) → Decides (leb a b) (a ≤ b)
decides_leb a b = (leb-true a b, le-leb a b)

always : Decides true (Unit {0})
always = (λ _. tt, λ _. refl)

range_is : (k : Kind) → Decides (in_range k) (InRange k)
range_is Source = always
range_is (Keep low high) = decides_leb low high
range_is (Scale times by) = Decides-ltb 0 by
range_is (Group by) = Decides-ltb 0 by
range_is Spread = always
range_is (Window long) = Decides-ltb 0 long
range_is Sink = always

pub source_is : (k : Kind) → Decides (is_source k) (k ≡ Source)
source_is Source = (λ _. refl, λ _. refl)
source_is (Keep low high) = (λ h. absurd (clash h), λ h. ap is_source h)
source_is (Scale times by) = (λ h. absurd (clash h), λ h. ap is_source h)
source_is (Group by) = (λ h. absurd (clash h), λ h. ap is_source h)
source_is Spread = (λ h. absurd (clash h), λ h. ap is_source h)
source_is (Window long) = (λ h. absurd (clash h), λ h. ap is_source h)
source_is Sink = (λ h. absurd (clash h), λ h. ap is_source h)

pub sink_is : (k : Kind) → Decides (is_sink k) (k ≡ Sink)
sink_is Source = (λ h. absurd (clash h), λ h. ap is_sink h)
sink_is (Keep low high) = (λ h. absurd (clash h), λ h. ap is_sink h)
sink_is (Scale times by) = (λ h. absurd (clash h), λ h. ap is_sink h)
sink_is (Group by) = (λ h. absurd (clash h), λ h. ap is_sink h)
sink_is Spread = (λ h. absurd (clash h), λ h. ap is_sink h)
sink_is (Window long) = (λ h. absurd (clash h), λ h. ap is_sink h)
sink_is Sink = (λ _. refl, λ _. refl)

-- some edge has an end at w
module _ (f : Edge → ℕ) (w : ℕ) where
  abbrev at_w : Edge → Bool
  at_w x = eqb (f x) w

  abbrev Some : List Edge → Type 0
  Some es = (e : ℕ) × (e < length es) × (f (get_or es e no_edge) ≡ w)

  some_none : Some [] → ⊥
  some_none (e, l, is) = omega arith

  some_first : (x : Edge) (xs : List Edge) → Some (x ∷ xs) → (f x ≡ w) ⊎ Some xs
  some_first x xs (zero, l, is) = inl is
  some_first x xs (suc e, l, is) = inr (e, omega arith, is)

  some_back : (x : Edge) (xs : List Edge) → (f x ≡ w) ⊎ Some xs → Some (x ∷ xs)
  some_back x xs (inl is) = (zero, omega arith, is)
  some_back x xs (inr (e, l, is)) = (suc e, omega arith, is)

  pub some_is : (es : List Edge) → Decides (list_any at_w es) (Some es)
  some_is [] = (λ h. absurd (clash h), λ s. absurd (some_none s))
  some_is (x ∷ xs) =
      Decides-like (at_w x || list_any at_w xs) (some_back x xs) (some_first x xs)
      (Decides-or (at_w x) (list_any at_w xs) (Decides-eqb (f x) w) (some_is xs))

abbrev WorkerProper : List Edge → ℕ → Kind → Type 0
WorkerProper es w k =
    InRange k
    × (((k ≡ Source) ⊎ ((e : ℕ) × (e < length es) × ((get_or es e no_edge).to ≡ w)))
    × ((k ≡ Sink) ⊎ ((e : ℕ) × (e < length es) × ((get_or es e no_edge).from ≡ w))))

worker_is : (es : List Edge) (w : ℕ) (k : Kind) → Decides (worker_proper es w k) (WorkerProper es w k)
worker_is es w k =
    Decides-and (in_range k) ((is_source k || reached w es) && (is_sink k || left w es)) (range_is k)
    (Decides-and (is_source k || reached w es) (is_sink k || left w es)
    (Decides-or (is_source k) (reached w es) (source_is k) (some_is (λ x. x.to) w es))
    (Decides-or (is_sink k) (left w es) (sink_is k) (some_is (λ x. x.from) w es)))

abbrev EdgeProper : List Kind → Edge → Type 0
EdgeProper ks x =
    (x.from < x.to) × ((x.to < length ks) × ((get_or ks x.to Source ≡ Source → ⊥) × (get_or ks x.from Source ≡ Sink → ⊥)))

edge_is : (ks : List Kind) (x : Edge) → Decides (edge_proper ks x) (EdgeProper ks x)
edge_is ks x =
    Decides-and (ltb x.from x.to) (ltb x.to (length ks) && (not (is_source (get_or ks x.to Source)) && not (is_sink (get_or ks x.from Source)))) (Decides-ltb x.from x.to)
    (Decides-and (ltb x.to (length ks)) (not (is_source (get_or ks x.to Source)) && not (is_sink (get_or ks x.from Source))) (Decides-ltb x.to (length ks))
    (Decides-and (not (is_source (get_or ks x.to Source))) (not (is_sink (get_or ks x.from Source)))
    (Decides-not (is_source (get_or ks x.to Source)) (source_is (get_or ks x.to Source)))
    (Decides-not (is_sink (get_or ks x.from Source)) (sink_is (get_or ks x.from Source)))))

-- each of a list, numbered from w on
abbrev EachWorker : List Edge → ℕ → List Kind → Type 0
EachWorker es w ks = (i : ℕ) → i < length ks → WorkerProper es (w + i) (get_or ks i Source)

each_first : (es : List Edge) (w : ℕ) (k : Kind) (ks : List Kind) → WorkerProper es w k × EachWorker es (w + 1) ks → EachWorker es w (k ∷ ks)
each_first es w k ks (a, b) zero l = rw add-zero a
each_first es w k ks (a, b) (suc i) l =
    let e : (w + 1) + i ≡ w + suc i = omega arith in
    subst (λ n. WorkerProper es n (get_or ks i Source)) e (b i (omega arith))

each_back : (es : List Edge) (w : ℕ) (k : Kind) (ks : List Kind) → EachWorker es w (k ∷ ks) → WorkerProper es w k × EachWorker es (w + 1) ks
each_back es w k ks h = (
  subst (λ n. WorkerProper es n k) (add-zero w) (h zero (omega arith)),
  λ i l. let e : w + suc i ≡ (w + 1) + i = omega arith in subst (λ n. WorkerProper es n (get_or ks i Source)) e (h (suc i) (omega arith)),
)

workers_is : (es : List Edge) (w : ℕ) (ks : List Kind) → Decides (workers_proper es w ks) (EachWorker es w ks)
workers_is es w [] = (λ _ i l. absurd (omega arith), λ _. refl)
workers_is es w (k ∷ ks) =
    Decides-like (workers_proper es w (k ∷ ks)) (each_first es w k ks) (each_back es w k ks)
    (Decides-and (worker_proper es w k) (workers_proper es (w + 1) ks) (worker_is es w k) (workers_is es (w + 1) ks))

abbrev EachEdge : List Kind → List Edge → Type 0
EachEdge ks es = (e : ℕ) → e < length es → EdgeProper ks (get_or es e no_edge)

edge_first : (ks : List Kind) (x : Edge) (xs : List Edge) → EdgeProper ks x × EachEdge ks xs → EachEdge ks (x ∷ xs)
edge_first ks x xs (a, b) zero l = a
edge_first ks x xs (a, b) (suc e) l = b e (omega arith)

edges_is : (ks : List Kind) (es : List Edge) → Decides (edges_proper ks es) (EachEdge ks es)
edges_is ks [] = (λ _ e l. absurd (omega arith), λ _. refl)
edges_is ks (x ∷ xs) =
    Decides-like (edges_proper ks (x ∷ xs)) (edge_first ks x xs) (λ h. (h zero (omega arith), λ e l. h (suc e) (omega arith)))
    (Decides-and (edge_proper ks x) (edges_proper ks xs) (edge_is ks x) (edges_is ks xs))

abbrev Sized : Topology → Type 0
Sized g = (0 < length g.kinds) × ((length g.kinds ≤ most_workers) × (length g.edges ≤ most_edges))

sized_is : (g : Topology) → Decides (sized g) (Sized g)
sized_is g =
    Decides-and (ltb 0 (length g.kinds)) (leb (length g.kinds) most_workers && leb (length g.edges) most_edges) (Decides-ltb 0 (length g.kinds))
    (Decides-and (leb (length g.kinds) most_workers) (leb (length g.edges) most_edges) (decides_leb (length g.kinds) most_workers) (decides_leb (length g.edges) most_edges))

abbrev Parts : Topology → Type 0
Parts g = Sized g × (EachWorker g.edges 0 g.kinds × EachEdge g.kinds g.edges)

at_zero : (g : Topology) → EachWorker g.edges 0 g.kinds → (w : ℕ) → w < length g.kinds → WorkerProper g.edges w (kind_at g w)
at_zero g h w l = subst (λ n. WorkerProper g.edges n (kind_at g w)) (zero-add w) (h w l)

together : (g : Topology) → Parts g → Proper g
together g (s, (ws, es)) = record {
  some = s.0;
  few = s.1.0;
  few_edges = s.1.1;
  up = λ e l. ((es e l).0, (es e l).1.0);
  into_no_source = λ e l. (es e l).1.1.0;
  out_of_no_sink = λ e l. (es e l).1.1.1;
  ranges = λ w l. (at_zero g ws w l).0;
  fed = λ w l. (at_zero g ws w l).1.0;
  drained = λ w l. (at_zero g ws w l).1.1;
}

apart : (g : Topology) → Proper g → Parts g
apart g p = (
  (p.some, (p.few, p.few_edges)),
  (
    λ w l. subst (λ n. WorkerProper g.edges n (kind_at g w)) (sym (zero-add w)) (p.ranges w l, (p.fed w l, p.drained w l)),
    λ e l. ((p.up e l).0, ((p.up e l).1, (p.into_no_source e l, p.out_of_no_sink e l))),
  ),
)

pub proper_is_lem : ProperIs
proper_is_lem g =
    Decides-like (proper g) (together g) (apart g)
    (Decides-and (sized g) (workers_proper g.edges 0 g.kinds && edges_proper g.kinds g.edges) (sized_is g)
    (Decides-and (workers_proper g.edges 0 g.kinds) (edges_proper g.kinds g.edges) (workers_is g.edges 0 g.kinds) (edges_is g.kinds g.edges)))
