use Rattle.items.proofs.Growing.{not_yet_before_lem}
use Rattle.items.proofs.theorems.not_yet_before.Goals as goal

pub returns : goal.returns
returns c = not_yet_before_lem
