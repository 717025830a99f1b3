use Rattle.text.proofs.Joins.{lines_join_lem}
use Rattle.text.proofs.theorems.lines_join.Goals as goal

pub returns : goal.returns
returns c = lines_join_lem
