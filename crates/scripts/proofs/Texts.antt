-- The text of a graph, put together from its parts.
use Rattle.std.proofs.Common.{◌≡◌, ℕ, List, ap, ◌∙◌}
use Rattle.model.specs.declared.Kind.{Kind}
use Rattle.model.specs.declared.Edge.{Edge}
use Rattle.model.specs.Graph.{Topology}
use Rattle.scripts.specs.Show.{workers_text, edges_text, lengths_text, joined_text, fresh_text}

pub joined_same : (g : Topology) (ks : List Kind) (es : List Edge) (ws us ls wb ub lb : List ℕ) → ks ≡ g.kinds → es ≡ g.edges →
    ws ≡ wb → wb ≡ workers_text es 0 ks → us ≡ ub → ub ≡ edges_text 0 es → ls ≡ lb → lb ≡ lengths_text ks → joined_text ws us ls ≡ fresh_text g
joined_same g ks es ws us ls wb ub lb k e a a' b b' c c' =
    ap (λ x. joined_text x us ls) (a ∙ (a' ∙ (ap (workers_text es 0) k ∙ ap (λ y. workers_text y 0 g.kinds) e)))
    ∙ (ap (λ x. joined_text (workers_text g.edges 0 g.kinds) x ls) (b ∙ (b' ∙ ap (edges_text 0) e))
    ∙ ap (λ x. joined_text (workers_text g.edges 0 g.kinds) (edges_text 0 g.edges) x) (c ∙ (c' ∙ ap lengths_text k)))
