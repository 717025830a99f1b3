use Rattle.std.proofs.Common.{arith}
use Rattle.std.proofs.lemmas.Result.{err_from_is_err_and}
use Rattle.journals.proofs.Standing.{stops}
use Rattle.journals.proofs.reader.Reader.skip_to.Goals as goal

pub returns-in_err-next-clause-reached : goal.returns-in_err-next-clause-reached
returns-in_err-next-clause-reached g c =
    let s = c.next.new.self in
    let p = err_from_is_err_and c.from_residual-in_err-next.result c.from_residual-in_err-next.ensures.1 in
    rw (p.1, p.2) (stops c.loop-self.self.number c.args.number s.number s.journal.bytes s.held _ c.in_err-next.ensures.reads s.follows (omega arith))
