use Rattle.edges.proofs.Order.{first_in_first_out_lem}
use Rattle.edges.proofs.theorems.first_in_first_out.Goals as goal

pub returns : goal.returns
returns c = first_in_first_out_lem
