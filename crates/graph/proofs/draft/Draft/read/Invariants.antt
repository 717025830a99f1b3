use Rattle.std.proofs.Common.{◌≡◌, ◌+◌, length}
use Rattle.text.specs.Words.{lines_of}
use Rattle.graph.specs.Draft.{draft_from, drafted, shape_of}
use Rattle.graph.proofs.draft.Draft.read.Given as goal

abbrev pub invariant-loop-n : goal.invariant-loop-n
invariant-loop-n l =
    (goal.iterator-loop-n).can_next l.n-iterator × ((goal.iterator-loop-n).is_finite l.n-iterator
    × ((l.n-iterator.count + length l.n-iterator.iter ≡ length (lines_of l.text))
    × (draft_from (l.n-iterator.count + 1) (shape_of l.draft) l.n-iterator.iter ≡ drafted l.text)))
