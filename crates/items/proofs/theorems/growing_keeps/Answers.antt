use Rattle.items.proofs.Growing.{growing_keeps_lem}
use Rattle.items.proofs.theorems.growing_keeps.Goals as goal

pub returns : goal.returns
returns c = growing_keeps_lem
