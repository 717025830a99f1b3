-- Which refusal holds of which line of a text: a relation over its lines, by the tests of one line, one worker and one edge.
use Rattle.std.specs.Prelude.{◌≡◌, ℕ, ◌+◌, ◌<◌, ◌≤◌, false, ◌⊎◌, List, [], ◌∷◌, length, take, Some, None, Option, slice_index, slice_index_or}
use Rattle.text.specs.Words.{words_of, lines_of}
use Rattle.model.specs.declared.Kind.TheVariants.{Source}
use Rattle.model.specs.Graph.{Topology, no_edge, worker_proper, edge_proper}
use Rattle.graph.specs.declared.line.Line.{Line}
use Rattle.graph.specs.Line.{line_of}
use Rattle.graph.specs.Draft.{Shape, topology, bare, room_for, added_to}
use Rattle.graph.specs.Verdict.{graph, refused, verdict}

-- what lines from number n on say, after what s has; a line that says nothing is passed over
abbrev pub said_with : Shape → ℕ → Option Line → Shape
said_with s n None = s
said_with s n (Some said) = added_to s n said

abbrev pub said_from : ℕ → Shape → List (List ℕ) → Shape
said_from n s [] = s
said_from n s (l ∷ ls) = said_from (n + 1) (said_with s n (line_of (words_of l))) ls

-- 1 holds of line k: it is no line of a graph; it names one worker or edge too many; it is the line after the last and no worker was named
pub data Unread (n : ℕ) (s : Shape) (ls : List (List ℕ)) (k : ℕ) : Type 0 where
  not_a_line : (i : ℕ) → i < length ls → k ≡ n + i → line_of (words_of (slice_index_or ls i [])) ≡ None → Unread n s ls k
  too_many : (i : ℕ) (said : Line) → i < length ls → k ≡ n + i → line_of (words_of (slice_index_or ls i [])) ≡ Some said → room_for (said_from n s (take i ls)) said ≡ false → Unread n s ls k
  no_worker : k ≡ n + length ls → length (said_from n s ls).kinds ≡ 0 → Unread n s ls k

-- 2 holds of line k: it names a worker or an edge that is not proper
pub data Faulty (s : Shape) (k : ℕ) : Type 0 where
  worker : (w : ℕ) → w < length s.kinds → worker_proper s.edges w (slice_index_or s.kinds w Source) ≡ false → k ≡ slice_index s.worker_lines w → Faulty s k
  edge : (e : ℕ) → e < length s.edges → edge_proper s.kinds (slice_index_or s.edges e no_edge) ≡ false → k ≡ slice_index s.edge_lines e → Faulty s k

abbrev pub said : List ℕ → Shape
said text = said_from 1 bare (lines_of text)

pub data Applies (text : List ℕ) (n k : ℕ) : Type 0 where
  one : n ≡ 1 → Unread 1 bare (lines_of text) k → Applies text n k
  two : n ≡ 2 → Faulty (said text) k → Applies text n k

-- What refuses a text is the lowest number that applies, with the first line that it applies to.
abbrev pub LowestWins : Type 0
LowestWins =
    (text : List ℕ) (n k : ℕ) → verdict text ≡ refused n k →
    Applies text n k × ((m l : ℕ) → Applies text m l → (n < m) ⊎ ((n ≡ m) × (k ≤ l)))

-- Where a text is read, no number applies, and the graph is what its lines say.
abbrev pub ReadIsSaid : Type 0
ReadIsSaid =
    (text : List ℕ) (g : Topology) (lines : List ℕ) → verdict text ≡ graph g lines →
    ((n k : ℕ) → Applies text n k → ⊥) × ((topology (said text) ≡ g) × ((said text).worker_lines ≡ lines))
