use Rattle.text.proofs.Numbers.{number_is_lem}
use Rattle.text.proofs.theorems.number_is.Goals as goal

pub returns : goal.returns
returns c = number_is_lem
