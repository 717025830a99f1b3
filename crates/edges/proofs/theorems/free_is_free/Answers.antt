use Rattle.edges.proofs.Lent.{free_is_free_lem}
use Rattle.edges.proofs.theorems.free_is_free.Goals as goal

pub returns : goal.returns
returns c = free_is_free_lem
