use Rattle.std.proofs.Common.{[], Ok, sym, refl, ap, ◌∙◌, arith}
use Rattle.edges.proofs.Slots.{items_none}
use Rattle.edges.proofs.Numbered.{there_is, edge_set}
use Rattle.edges.proofs.state.Edges.clear.Goals as goal

pub returns : goal.returns
returns c = λ ws.
    there_is ws c.args.self.now c.args.e _ c.in_ok-head.ensures.there
    ∙ sym (ap Ok (edge_set ws ws c.args.self.now c.deref_mut.result.now c.args.e _ [] c.deref_mut.ensures.value c.in_ok-head.ensures.there
    (items_none ws _ _ (omega arith)) (λ j apart. refl)))
