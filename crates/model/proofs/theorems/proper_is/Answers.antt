use Rattle.model.proofs.Proper.{proper_is_lem}
use Rattle.model.proofs.theorems.proper_is.Goals as goal

pub returns : goal.returns
returns c = proper_is_lem
