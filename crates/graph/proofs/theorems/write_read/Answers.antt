use Rattle.graph.proofs.Back.{write_read}
use Rattle.graph.proofs.theorems.write_read.Goals as goal

pub returns : goal.returns
returns c = write_read
