use Rattle.graph.proofs.Exact.{line_is_lem}
use Rattle.graph.proofs.theorems.line_is.Goals as goal

pub returns : goal.returns
returns c = line_is_lem
