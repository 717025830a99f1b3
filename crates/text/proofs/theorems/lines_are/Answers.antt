use Rattle.text.proofs.Joins.{lines_are_lem}
use Rattle.text.proofs.theorems.lines_are.Goals as goal

pub returns : goal.returns
returns c = lines_are_lem
