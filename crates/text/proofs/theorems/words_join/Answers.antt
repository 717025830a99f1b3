use Rattle.text.proofs.Joins.{words_join_lem}
use Rattle.text.proofs.theorems.words_join.Goals as goal

pub returns : goal.returns
returns c = words_join_lem
