use Rattle.std.proofs.Common.{◌≡◌, ◌-◌, length}
use Rattle.journals.specs.Handing.{Grew}
use Rattle.journals.proofs.reader.Reader.first.Given as goal

abbrev pub invariant-loop-self : goal.invariant-loop-self
invariant-loop-self g l = (l.self.number ≡ l.initial.self.number)
    × Grew l.initial.self.journal.bytes (g.S.Source.given l.initial.self.source) l.self.journal.bytes (g.S.Source.given l.self.source)

abbrev pub decreases-loop-self : goal.decreases-loop-self
decreases-loop-self g l = 13 - length l.self.held
