use Rattle.std.proofs.Common.{◌≡◌, ◌-◌, ◌≤◌}
use Rattle.journals.proofs.reader.Reader.skip_to.Given as goal

abbrev pub invariant-loop-self : goal.invariant-loop-self
invariant-loop-self g l = (l.self.number ≤ l.number)
    × (g.S.Source.given l.fn.self.source ≡ l.fn.self.journal.bytes → g.S.Source.given l.self.source ≡ l.self.journal.bytes)

abbrev pub decreases-loop-self : goal.decreases-loop-self
decreases-loop-self g l = l.number - l.self.number
