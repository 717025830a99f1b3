use Rattle.journals.proofs.Growth.{item_stays_lem}
use Rattle.journals.proofs.theorems.item_stays.Goals as goal

pub returns : goal.returns
returns c = item_stays_lem
