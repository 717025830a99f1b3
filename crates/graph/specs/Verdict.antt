-- What becomes of a graph's text.
use Rattle.std.specs.Prelude.{◌≡◌, ℕ, ◌-◌, List, [], Some, None, Ok, Err, Option, Result, slice_index_or}
use Rattle.items.specs.Refusals.{number_of}
use Rattle.text.specs.Words.{words_of, lines_of}
use Rattle.model.specs.Graph.{Topology, Proper}
use Rattle.graph.specs.declared.checked.Graph.{Graph}
use Rattle.graph.specs.declared.refused.Refused.{Refused}
use Rattle.graph.specs.Draft.{Shape, Drafted, complete, bad_line, topology, shape_of, drafted}
use Rattle.graph.specs.Faults.{fault_of}

abbrev pub topology_of : Graph → Topology
topology_of g = topology (shape_of g.draft)

abbrev pub worker_lines : Graph → List ℕ
worker_lines g = (shape_of g.draft).worker_lines

-- a graph with the lines of its workers, or a number and a line
pub data Verdict : Type 0 where
  graph : Topology → (lines : List ℕ) → Verdict
  refused : (number line : ℕ) → Verdict

abbrev pub verdict_of : Result Graph Refused → Verdict
verdict_of (Ok g) = graph (topology_of g) (worker_lines g)
verdict_of (Err e) = refused (number_of e.refusal) e.line

abbrev pub judged : Shape → Option ℕ → Verdict
judged s None = graph (topology s) s.worker_lines
judged s (Some line) = refused 2 line

abbrev pub judged_draft : Drafted → Verdict
judged_draft (complete s) = judged s (fault_of s)
judged_draft (bad_line line) = refused 1 line

-- 1 before 2, and of each the first line
abbrev pub verdict : List ℕ → Verdict
verdict text = judged_draft (drafted text)

-- Every graph that is read is proper.
abbrev pub ReadIsProper : Type 0
ReadIsProper = (text : List ℕ) (g : Topology) (lines : List ℕ) → verdict text ≡ graph g lines → Proper g

-- the journal's name in a worker's line, counted from 1: its third word
abbrev pub name_in : List ℕ → ℕ → List ℕ
name_in text line = slice_index_or (words_of (slice_index_or (lines_of text) (line - 1) [])) 2 []
