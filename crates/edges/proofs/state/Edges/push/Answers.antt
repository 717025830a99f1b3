use Rattle.std.proofs.Common.{[], ◌∷◌, refl, arith}
use Rattle.edges.proofs.Slots.{items_one}
use Rattle.edges.proofs.Added.{added_is}
use Rattle.edges.proofs.state.Edges.push.Goals as goal

pub returns : goal.returns
returns c =
    let t = c.in_ok-head.ensures in
    added_is c.args.words.now c.put_at.new.words c.args.self.now c.deref_mut.result.now c.args.e 1 _ _ (c.args.item ∷ []) c.deref_mut.ensures.value t.0 t.1
    c.in_ok-more.ensures.1 c.in_ok-more.ensures.2 refl (items_one c.put_at.new.words _ c.args.item c.put_at.ensures.here)
    (λ j ne. c.put_at.ensures.others j (λ at. ne (omega arith, omega arith)))
