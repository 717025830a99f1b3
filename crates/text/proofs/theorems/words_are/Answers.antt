use Rattle.text.proofs.Joins.{words_are_lem}
use Rattle.text.proofs.theorems.words_are.Goals as goal

pub returns : goal.returns
returns c = words_are_lem
