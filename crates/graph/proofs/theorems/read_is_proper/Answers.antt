use Rattle.graph.proofs.Sound.{read_is_proper_lem}
use Rattle.graph.proofs.theorems.read_is_proper.Goals as goal

pub returns : goal.returns
returns c = read_is_proper_lem
