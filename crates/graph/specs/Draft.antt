-- What the lines of a graph make.
use Rattle.std.specs.Prelude.{ℕ, ◌+◌, Bool, cond, List, [], ◌∷◌, ◌++◌, length, Some, None, Ok, Err, Option, Result, ◌==◌, nat_lt}
use Rattle.text.specs.Words.{words_of, lines_of}
use Rattle.model.specs.declared.Kind.{Kind}
use Rattle.model.specs.declared.Edge.{Edge}
use Rattle.model.specs.Graph.{Topology, most_workers, most_edges}
use Rattle.graph.specs.declared.line.Line.{Line}
use Rattle.graph.specs.declared.line.Line.TheVariants as line
use Rattle.graph.specs.declared.draft.Draft.{Draft}
use Rattle.graph.specs.declared.draft.NotALine.{NotALine}
use Rattle.graph.specs.Rows.{items_of, line_numbers}
use Rattle.graph.specs.Line.{line_of}

-- workers and edges in the order of their lines, and the numbers of those lines
pub record Shape : Type 0 where
  pub kinds : List Kind
  pub edges : List Edge
  pub worker_lines : List ℕ
  pub edge_lines : List ℕ

abbrev pub topology : Shape → Topology
topology s = record { kinds = s.kinds; edges = s.edges }

abbrev pub shape_of : Draft → Shape
shape_of d = record {
  kinds = items_of d.workers;
  edges = items_of d.edges;
  worker_lines = line_numbers d.workers;
  edge_lines = line_numbers d.edges;
}

abbrev pub bare : Shape
bare = record { kinds = []; edges = []; worker_lines = []; edge_lines = [] }

abbrev pub room_for : Shape → Line → Bool
room_for s (line.Worker k) = nat_lt (length s.kinds) most_workers
room_for s (line.Edge x) = nat_lt (length s.edges) most_edges

abbrev pub added_to : Shape → ℕ → Line → Shape
added_to s n (line.Worker k) = record { kinds = s.kinds ++ k ∷ []; edges = s.edges; worker_lines = s.worker_lines ++ n ∷ []; edge_lines = s.edge_lines }
added_to s n (line.Edge x) = record { kinds = s.kinds; edges = s.edges ++ x ∷ []; worker_lines = s.worker_lines; edge_lines = s.edge_lines ++ n ∷ [] }

-- a draft, or the first line that is none of a graph: not of the form, one worker or edge too many, or past the last where no worker is
pub data Drafted : Type 0 where
  complete : Shape → Drafted
  bad_line : ℕ → Drafted

abbrev pub draft_of : Result Draft NotALine → Drafted
draft_of (Ok d) = complete (shape_of d)
draft_of (Err e) = bad_line e.0

-- what line n says, added to what the lines before it made; more goes on with the lines after it
abbrev pub stepped : ℕ → Shape → Option Line → (Shape → Drafted) → Drafted
stepped n s None more = bad_line n
stepped n s (Some said) more = cond (room_for s said) (more (added_to s n said)) (bad_line n)

-- the lines from number n on
abbrev pub draft_from : ℕ → Shape → List (List ℕ) → Drafted
draft_from n s [] = cond (length s.kinds == 0) (bad_line n) (complete s)
draft_from n s (l ∷ ls) = stepped n s (line_of (words_of l)) (λ t. draft_from (n + 1) t ls)

abbrev pub drafted : List ℕ → Drafted
drafted text = draft_from 1 bare (lines_of text)
