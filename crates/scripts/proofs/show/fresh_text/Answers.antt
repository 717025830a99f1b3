use Rattle.std.proofs.Common.{rules, subst}
use Rattle.graph.specs.Verdict.{topology_of}
use Rattle.scripts.specs.Show.{Spells, worker_text, edge_text, length_text}
use Rattle.scripts.proofs.Texts.{joined_same}
use Rattle.scripts.proofs.show.fresh_text.Goals as goal

pub returns : goal.returns
returns c =
    subst (Spells c.joined.result)
    (joined_same (topology_of c.args.graph.now) _ _ _ _ _ _ _ _ c.kinds-kinds.ensures c.ends-ends.ensures
    c.as_str.ensures.value (c.in_ok-workers.ensures (worker_text c.ends-ends.result.now) (λ w k r h. search rules))
    c.as_str-2.ensures.value (c.in_ok-edges.ensures edge_text (λ e x r h. search rules))
    c.as_str-3.ensures.value (c.in_ok-lengths.ensures (λ _. length_text) (λ w k r h. search rules)))
    c.joined.ensures
