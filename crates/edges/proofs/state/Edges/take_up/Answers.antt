use Rattle.std.proofs.Common.{refl, arith}
use Rattle.edges.specs.Held.{free_of}
use Rattle.edges.proofs.Slots.{items_length}
use Rattle.edges.proofs.Added.{added_is}
use Rattle.edges.proofs.Lent.{free_items}
use Rattle.edges.proofs.state.Edges.take_up.Goals as goal

pub returns : goal.returns
returns c =
    let t = c.in_ok-ask.ensures in
    added_is c.args.words.now c.args.words.now c.args.self.now c.deref_mut.result.now c.args.e c.args.n _ _ _ c.deref_mut.ensures.value t.0 t.1
    c.in_ok-more.ensures.1 c.in_ok-more.ensures.2 (items_length (free_of c.args.words.now c.args.self.now c.args.e) 0 c.args.n)
    (free_items c.args.words.now c.args.self.now c.args.e c.args.n _ t.1 (omega (arith, c.in_ok-more.ensures.0)))
    (λ j apart. refl)
