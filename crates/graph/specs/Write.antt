-- A graph written out.
use Rattle.std.specs.Prelude.{◌≡◌, ℕ, zero, suc, ◌+◌, ◌-◌, ◌<◌, Bool, true, ◌&&◌, List, [], ◌∷◌, ◌++◌, length, Some, codes, decimal, nat_le, slice_index, slice_index_or}
use Rattle.text.specs.Number.{most}
use Rattle.text.specs.Name.{is_name}
use Rattle.text.specs.Words.{words_of, lines_of}
use Rattle.text.specs.Laws.{spaced, ended}
use Rattle.model.specs.declared.Kind.{Kind}
use Rattle.model.specs.declared.Kind.TheVariants.{Source, Keep, Scale, Group, Spread, Window, Sink}
use Rattle.model.specs.declared.Edge.{Edge}
use Rattle.model.specs.Graph.{Topology, kind_at, Proper}
use Rattle.graph.specs.declared.line.Line.{Line}
use Rattle.graph.specs.declared.line.Line.TheVariants as line
use Rattle.graph.specs.Line.{line_of}
use Rattle.graph.specs.Verdict.{graph, verdict, name_in}

-- the words of a kind; a source with its journal's name
abbrev pub kind_words : (name : List ℕ) → Kind → List (List ℕ)
kind_words name Source = codes "source" ∷ name ∷ []
kind_words name (Keep low high) = codes "keep" ∷ decimal low ∷ decimal high ∷ []
kind_words name (Scale times by) = codes "scale" ∷ decimal times ∷ decimal by ∷ []
kind_words name (Group by) = codes "group" ∷ decimal by ∷ []
kind_words name Spread = codes "spread" ∷ []
kind_words name (Window long) = codes "window" ∷ decimal long ∷ []
kind_words name Sink = codes "sink" ∷ []

abbrev pub worker_line : (name : List ℕ) → Kind → List ℕ
worker_line name k = spaced (codes "worker") (kind_words name k)

abbrev pub edge_words : Edge → List (List ℕ)
edge_words x = decimal x.from ∷ decimal x.to ∷ []

abbrev pub edge_line : Edge → List ℕ
edge_line x = spaced (codes "edge") (edge_words x)

-- the lines of workers from number w on; names by the worker's number
abbrev pub worker_texts : (names : List (List ℕ)) → ℕ → List Kind → List (List ℕ)
worker_texts names w [] = []
worker_texts names w (k ∷ ks) = worker_line (slice_index_or names w []) k ∷ worker_texts names (w + 1) ks

abbrev pub edge_texts : List Edge → List (List ℕ)
edge_texts [] = []
edge_texts (x ∷ xs) = edge_line x ∷ edge_texts xs

-- workers first, then edges
abbrev pub text_of : (names : List (List ℕ)) → Topology → List ℕ
text_of names g = ended (worker_texts names 0 g.kinds ++ edge_texts g.edges)

-- what can be written: numbers of 32 bits, and for a source a journal's name
abbrev pub writable : (name : List ℕ) → Kind → Bool
writable name Source = is_name name
writable name (Keep low high) = nat_le low most && nat_le high most
writable name (Scale times by) = nat_le times most && nat_le by most
writable name (Group by) = nat_le by most
writable name Spread = true
writable name (Window long) = nat_le long most
writable name Sink = true

abbrev pub all_writable : (names : List (List ℕ)) → ℕ → List Kind → Bool
all_writable names w [] = true
all_writable names w (k ∷ ks) = writable (slice_index_or names w []) k && all_writable names (w + 1) ks

-- the same for a line; the name is that of a source
abbrev pub line_text : (name : List ℕ) → Line → List ℕ
line_text name (line.Worker k) = worker_line name k
line_text name (line.Edge x) = edge_line x

abbrev pub line_writable : (name : List ℕ) → Line → Bool
line_writable name (line.Worker k) = writable name k
line_writable name (line.Edge x) = nat_le x.from most && nat_le x.to most

-- A line of a graph is just what is written for what it says: the words of the kind or `edge`, plain decimals, and for a source some name.
abbrev pub LineIs : Type 0
LineIs =
    (l : List ℕ) (said : Line) →
    (line_of (words_of l) ≡ Some said → (name : List ℕ) × (line_writable name said ≡ true) × (l ≡ line_text name said))
    × ((name : List ℕ) → line_writable name said ≡ true → l ≡ line_text name said → line_of (words_of l) ≡ Some said)

-- In a text that is read, the line of each worker is what is written for its kind, and that of a source has its journal's name.
abbrev pub WorkersHaveLines : Type 0
WorkersHaveLines =
    (text : List ℕ) (g : Topology) (lines : List ℕ) → verdict text ≡ graph g lines → (w : ℕ) → w < length g.kinds →
    (name : List ℕ) × (writable name (kind_at g w) ≡ true) × (slice_index_or (lines_of text) (slice_index lines w - 1) [] ≡ worker_line name (kind_at g w))
    × (kind_at g w ≡ Source → name_in text (slice_index lines w) ≡ name)

-- so many numbers from n on
abbrev pub count_from : ℕ → ℕ → List ℕ
count_from n zero = []
count_from n (suc k) = n ∷ count_from (n + 1) k

-- A proper graph, written out and read again, is that graph, and each source has its journal's name.
abbrev pub WriteRead : Type 0
WriteRead =
    (g : Topology) (names : List (List ℕ)) → Proper g → all_writable names 0 g.kinds ≡ true →
    (verdict (text_of names g) ≡ graph g (count_from 1 (length g.kinds)))
    × ((w : ℕ) → w < length g.kinds → kind_at g w ≡ Source → name_in (text_of names g) (slice_index (count_from 1 (length g.kinds)) w) ≡ slice_index_or names w [])
