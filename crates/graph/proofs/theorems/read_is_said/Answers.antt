use Rattle.graph.proofs.Verdicts.{read_is_said_lem}
use Rattle.graph.proofs.theorems.read_is_said.Goals as goal

pub returns : goal.returns
returns c = read_is_said_lem
