use Rattle.journals.proofs.Standing.{grown}
use Rattle.journals.proofs.reader.Reader.fill.Goals as goal

pub invariant_of-self-2 : goal.invariant_of-self-2
invariant_of-self-2 g c =
    let s = c.args.self.now in
    let came = c.in_ok-n.ensures.came in
    record { follows = grown s.number s.journal.bytes s.held came.0 _ _ _ _ s.follows came.2 c.bytes-before.ensures c.bytes.ensures c.note.ensures }
