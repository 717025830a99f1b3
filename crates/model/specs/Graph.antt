-- A graph of workers, and when it is a proper one.
use Rattle.std.specs.Prelude.{◌≡◌, ℕ, ◌+◌, ◌<◌, ◌≤◌, Bool, true, false, not, ◌&&◌, ◌||◌, ◌⊎◌, List, [], ◌∷◌, length, Decides, ◌==◌, ◌≢◌, nat_le, nat_lt, slice_index_or}
use Rattle.std.specs.List.{list_any, list_all}
use Rattle.model.specs.declared.Kind.{Kind}
use Rattle.model.specs.declared.Kind.TheVariants.{Source, Keep, Scale, Group, Spread, Window, Sink}
use Rattle.model.specs.declared.Edge.{Edge}

-- workers and edges, each by number
pub record Topology : Type 0 where
  pub kinds : List Kind
  pub edges : List Edge

abbrev pub most_workers : ℕ
most_workers = 32

abbrev pub most_edges : ℕ
most_edges = 64

abbrev pub kind_at : Topology → ℕ → Kind
kind_at g w = slice_index_or g.kinds w Source

abbrev pub no_edge : Edge
no_edge = record { from = 0; to = 0 }

abbrev pub edge_at : Topology → ℕ → Edge
edge_at g e = slice_index_or g.edges e no_edge

abbrev pub is_source : Kind → Bool
is_source Source = true
is_source (Keep low high) = false
is_source (Scale times by) = false
is_source (Group by) = false
is_source Spread = false
is_source (Window long) = false
is_source Sink = false

abbrev pub is_sink : Kind → Bool
is_sink Source = false
is_sink (Keep low high) = false
is_sink (Scale times by) = false
is_sink (Group by) = false
is_sink Spread = false
is_sink (Window long) = false
is_sink Sink = true

abbrev pub in_range : Kind → Bool
in_range Source = true
in_range (Keep low high) = nat_le low high
in_range (Scale times by) = nat_lt 0 by
in_range (Group by) = nat_lt 0 by
in_range Spread = true
in_range (Window long) = nat_lt 0 long
in_range Sink = true

-- some edge reaches w; some edge leaves w
abbrev pub reached : ℕ → List Edge → Bool
reached w es = list_any (λ x. x.to == w) es

abbrev pub left : ℕ → List Edge → Bool
left w es = list_any (λ x. x.from == w) es

-- a worker's numbers are in range, and it has the edges that it needs
abbrev pub worker_proper : List Edge → ℕ → Kind → Bool
worker_proper es w k = in_range k && ((is_source k || reached w es) && (is_sink k || left w es))

-- an edge goes up to a worker that is there, reaches no source and leaves no sink
abbrev pub edge_proper : List Kind → Edge → Bool
edge_proper ks x =
    nat_lt x.from x.to && (nat_lt x.to (length ks) && (not (is_source (slice_index_or ks x.to Source)) && not (is_sink (slice_index_or ks x.from Source))))

-- workers from number w on
abbrev pub workers_proper : List Edge → ℕ → List Kind → Bool
workers_proper es w [] = true
workers_proper es w (k ∷ ks) = worker_proper es w k && workers_proper es (w + 1) ks

abbrev pub edges_proper : List Kind → List Edge → Bool
edges_proper ks es = list_all (edge_proper ks) es

abbrev pub sized : Topology → Bool
sized g = nat_lt 0 (length g.kinds) && (nat_le (length g.kinds) most_workers && nat_le (length g.edges) most_edges)

abbrev pub proper : Topology → Bool
proper g = sized g && (workers_proper g.edges 0 g.kinds && edges_proper g.kinds g.edges)

-- the same in the words of the rules
abbrev pub InRange : Kind → Type 0
InRange Source = Unit {0}
InRange (Keep low high) = low ≤ high
InRange (Scale times by) = 0 < by
InRange (Group by) = 0 < by
InRange Spread = Unit {0}
InRange (Window long) = 0 < long
InRange Sink = Unit {0}

pub record Proper (g : Topology) : Type 0 where
  pub some : 0 < length g.kinds
  pub few : length g.kinds ≤ most_workers
  pub few_edges : length g.edges ≤ most_edges
  pub up : (e : ℕ) → e < length g.edges → ((edge_at g e).from < (edge_at g e).to) × ((edge_at g e).to < length g.kinds)
  pub into_no_source : (e : ℕ) → e < length g.edges → kind_at g (edge_at g e).to ≢ Source
  pub out_of_no_sink : (e : ℕ) → e < length g.edges → kind_at g (edge_at g e).from ≢ Sink
  pub ranges : (w : ℕ) → w < length g.kinds → InRange (kind_at g w)
  pub fed : (w : ℕ) → w < length g.kinds → (kind_at g w ≡ Source) ⊎ ((e : ℕ) × (e < length g.edges) × ((edge_at g e).to ≡ w))
  pub drained : (w : ℕ) → w < length g.kinds → (kind_at g w ≡ Sink) ⊎ ((e : ℕ) × (e < length g.edges) × ((edge_at g e).from ≡ w))

-- The test and the words say the same.
abbrev pub ProperIs : Type 0
ProperIs = (g : Topology) → Decides (proper g) (Proper g)
