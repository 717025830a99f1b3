-- What is shown of a graph that has not begun, line by line.
use Rattle.std.specs.Prelude.{◌≡◌, ℕ, ◌+◌, Bool, true, false, cond, not, ◌&&◌, List, [], ◌∷◌, ◌++◌, Result, IfOk, String, codes, decimal, string_bytes, ◌==◌}
use Rattle.model.specs.declared.Kind.{Kind}
use Rattle.model.specs.declared.Kind.TheVariants.{Source, Keep, Scale, Group, Spread, Window, Sink}
use Rattle.model.specs.declared.Edge.{Edge}
use Rattle.model.specs.Graph.{Topology, is_source, is_sink}

-- a text that was written is these bytes; where memory ran out there is none
abbrev pub Spells : {A E : Type 0} → Result (String A) E → List ℕ → Type 0
Spells written bytes = IfOk written (λ s. string_bytes s ≡ bytes)

-- the texts of the items from number i on, one behind the other
abbrev pub texts_from : {X : Type 0} → (text : ℕ → X → List ℕ) → ℕ → List X → List ℕ
texts_from text i [] = []
texts_from text i (x ∷ xs) = text i x ++ texts_from text (i + 1) xs

abbrev pub kind_name : Kind → List ℕ
kind_name Source = codes "source"
kind_name (Keep low high) = codes "keep"
kind_name (Scale times by) = codes "scale"
kind_name (Group by) = codes "group"
kind_name Spread = codes "spread"
kind_name (Window long) = codes "window"
kind_name Sink = codes "sink"

-- what a kind has besides watermarks
abbrev pub kind_tail : Kind → List ℕ
kind_tail Source = []
kind_tail (Keep low high) = []
kind_tail (Scale times by) = codes " dropped 0"
kind_tail (Group by) = []
kind_tail Spread = []
kind_tail (Window long) = codes " late 0 open -"
kind_tail Sink = codes " length 0 out -"

abbrev pub zero : (first : Bool) → List ℕ
zero true = codes "0"
zero false = codes ",0"

-- a 0 for each edge that reaches w, with a comma before each but the first
abbrev pub zeros : (first : Bool) → ℕ → List Edge → List ℕ
zeros first w [] = []
zeros first w (x ∷ xs) = cond (x.to == w) (zero first) [] ++ zeros (first && not (x.to == w)) w xs

abbrev pub source_text : ℕ → List ℕ
source_text w = codes "worker " ++ (decimal w ++ codes " source cut 0 read 0\n")

abbrev pub line_with : ℕ → (name words tail : List ℕ) → List ℕ
line_with w name words tail =
    codes "worker " ++ (decimal w ++ (codes " " ++ (name ++ (codes " cut 0 words " ++ (words ++ (codes " held -" ++ (tail ++ codes "\n")))))))

abbrev pub reached_text : List Edge → ℕ → Kind → List ℕ
reached_text es w k = line_with w (kind_name k) (zeros true w es) (kind_tail k)

abbrev pub worker_text : List Edge → ℕ → Kind → List ℕ
worker_text es w k = cond (is_source k) (source_text w) (reached_text es w k)

abbrev pub workers_text : List Edge → ℕ → List Kind → List ℕ
workers_text es w ks = texts_from (worker_text es) w ks

abbrev pub edge_text : ℕ → Edge → List ℕ
edge_text e x = codes "edge " ++ (decimal e ++ (codes " " ++ (decimal x.from ++ (codes " " ++ (decimal x.to ++ codes " -\n")))))

abbrev pub edges_text : ℕ → List Edge → List ℕ
edges_text e es = texts_from edge_text e es

-- a length of 0 for each sink
abbrev pub length_text : Kind → List ℕ
length_text k = cond (is_sink k) (codes " 0") []

abbrev pub lengths_text : List Kind → List ℕ
lengths_text ks = texts_from (λ _. length_text) 0 ks

abbrev pub joined_text : (workers edges lengths : List ℕ) → List ℕ
joined_text workers edges lengths = workers ++ (edges ++ (codes "whole 0 published" ++ (lengths ++ codes "\n")))

abbrev pub fresh_text : Topology → List ℕ
fresh_text g = joined_text (workers_text g.edges 0 g.kinds) (edges_text 0 g.edges) (lengths_text g.kinds)
