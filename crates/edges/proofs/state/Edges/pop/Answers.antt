use Rattle.std.proofs.Common.{Ok, refl, ap, ◌∙◌}
use Rattle.edges.specs.Queues.{taken}
use Rattle.edges.specs.Held.{edges_of}
use Rattle.edges.proofs.Numbered.{asked_is, held_at, edge_set}
use Rattle.edges.proofs.state.Edges.pop.Goals as goal

pub returns : goal.returns
returns c =
    let t = c.in_ok-head.ensures in
    asked_is c.args.words.now c.args.self.now c.args.e _ t.0 t.1.there
    ∙ ap (taken (edges_of c.args.words.now c.args.self.now) c.args.e)
    (held_at c.args.words.now c.args.self.now c.args.e _ t.1 ∙ c.advance.ensures.here)
    ∙ ap Ok (rw (
      t.3,
      edge_set c.args.words.now c.advance.new.words c.args.self.now c.deref_mut.result.now c.args.e c.advance.result _ c.deref_mut.ensures.value
          t.1.there refl c.advance.ensures.others,
    ) refl)
