use Rattle.std.proofs.lemmas.Result.{err_from_is_err_and}
use Rattle.items.proofs.Skipping.{rest_taken}
use Rattle.journals.proofs.Standing.{held_told, took_none}
use Rattle.journals.proofs.reader.Reader.next.Goals as goal

pub returns-in_err-item-clause-reads : goal.returns-in_err-item-clause-reads
returns-in_err-item-clause-reads g c =
    let s = c.first.new.self in
    let p = err_from_is_err_and c.from_residual.result c.from_residual.ensures.1 in
    rw (p.1, p.2) (took_none s.number c.args.self.now.number s.journal.bytes s.held _ s.follows c.first.ensures.stays c.in_err-item.ensures.found)

pub invariant_of-self : goal.invariant_of-self
invariant_of-self g c =
    let s = c.first.new.self in
    record { follows = rw c.pass.ensures (rest_taken s.number s.journal.bytes s.held _ s.follows c.in_ok-item.ensures.found) }

pub returns-clause-reads : goal.returns-clause-reads
returns-clause-reads g c =
    let s = c.first.new.self in
    (rw (← c.first.ensures.stays) (held_told s.number s.journal.bytes s.held _ s.follows c.in_ok-item.ensures.found), rw c.first.ensures.stays)
