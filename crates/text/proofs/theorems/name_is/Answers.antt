use Rattle.text.proofs.Characters.{name_is_lem}
use Rattle.text.proofs.theorems.name_is.Goals as goal

pub returns : goal.returns
returns c = name_is_lem
