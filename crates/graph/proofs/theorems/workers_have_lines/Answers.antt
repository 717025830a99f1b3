use Rattle.graph.proofs.Named.{workers_have_lines_lem}
use Rattle.graph.proofs.theorems.workers_have_lines.Goals as goal

pub returns : goal.returns
returns c = workers_have_lines_lem
