-- The lines of a graph, by their words.
use Rattle.std.specs.Prelude.{ℕ, Bool, false, cond, List, [], ◌∷◌, Some, None, codes, Option}
use Rattle.std.specs.Str.{bytes_eq}
use Rattle.std.specs.Option.{option_map}
use Rattle.text.specs.Words.{none_of, one_of, two_of, lookup}
use Rattle.text.specs.Name.{is_name}
use Rattle.model.specs.declared.Kind.{Kind}
use Rattle.model.specs.declared.Kind.TheVariants as kind
use Rattle.graph.specs.declared.line.Name.{Name}
use Rattle.graph.specs.declared.line.Name.TheVariants as name
use Rattle.graph.specs.declared.line.Line.{Line}
use Rattle.graph.specs.declared.line.Line.TheVariants as line

abbrev pub kind_table : List (List ℕ × Name)
kind_table =
    (codes "source", name.Source) ∷ (codes "keep", name.Keep) ∷ (codes "scale", name.Scale) ∷ (codes "group", name.Group)
    ∷ (codes "spread", name.Spread) ∷ (codes "window", name.Window) ∷ (codes "sink", name.Sink) ∷ []

abbrev pub kind_named : List ℕ → Option Name
kind_named word = lookup word kind_table

-- exactly a journal's name
abbrev pub journal_of : List (List ℕ) → Bool
journal_of [] = false
journal_of (w ∷ ws) = cond (none_of ws) (is_name w) false

abbrev pub kind_of : Name → List (List ℕ) → Option Kind
kind_of name.Source ws = cond (journal_of ws) (Some kind.Source) None
kind_of name.Keep ws = option_map (λ p. kind.Keep p.0 p.1) (two_of ws)
kind_of name.Scale ws = option_map (λ p. kind.Scale p.0 p.1) (two_of ws)
kind_of name.Group ws = option_map (λ n. kind.Group n) (one_of ws)
kind_of name.Spread ws = cond (none_of ws) (Some kind.Spread) None
kind_of name.Window ws = option_map (λ n. kind.Window n) (one_of ws)
kind_of name.Sink ws = cond (none_of ws) (Some kind.Sink) None

abbrev pub kind_with : Option Name → List (List ℕ) → Option Kind
kind_with None ws = None
kind_with (Some n) ws = kind_of n ws

abbrev pub worker_of : List (List ℕ) → Option Line
worker_of [] = None
worker_of (w ∷ ws) = option_map (λ k. line.Worker k) (kind_with (kind_named w) ws)

abbrev pub edge_of : List (List ℕ) → Option Line
edge_of ws = option_map (λ p. line.Edge (record { from = p.0; to = p.1 })) (two_of ws)

abbrev pub line_of : List (List ℕ) → Option Line
line_of [] = None
line_of (w ∷ ws) = cond (bytes_eq w (codes "worker")) (worker_of ws) (cond (bytes_eq w (codes "edge")) (edge_of ws) None)
