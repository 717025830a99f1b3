-- The first line that breaks a rule of graphs.
use Rattle.std.specs.Prelude.{ℕ, ◌+◌, Bool, cond, List, [], ◌∷◌, Some, None, Option, nat_lt, slice_index}
use Rattle.model.specs.declared.Kind.{Kind}
use Rattle.model.specs.declared.Edge.{Edge}
use Rattle.model.specs.Graph.{worker_proper, edge_proper}
use Rattle.graph.specs.Draft.{Shape}

abbrev pub least : Option ℕ → ℕ → Option ℕ
least None n = Some n
least (Some m) n = cond (nat_lt n m) (Some n) (Some m)

-- the lowest line of those from number i on that are not proper, and of best
abbrev pub lowest : {X : Type 0} → (proper : ℕ → X → Bool) → (lines : List ℕ) → ℕ → List X → Option ℕ → Option ℕ
lowest proper ls i [] best = best
lowest proper ls i (x ∷ xs) best = lowest proper ls (i + 1) xs (cond (proper i x) best (least best (slice_index ls i)))

abbrev pub worker_faults : List Edge → (lines : List ℕ) → List Kind → Option ℕ
worker_faults es ls ks = lowest (worker_proper es) ls 0 ks None

abbrev pub edge_faults : List Kind → (lines : List ℕ) → List Edge → Option ℕ → Option ℕ
edge_faults ks ls es best = lowest (λ e x. edge_proper ks x) ls 0 es best

abbrev pub fault_of : Shape → Option ℕ
fault_of s = edge_faults s.kinds s.edge_lines s.edges (worker_faults s.edges s.worker_lines s.kinds)
