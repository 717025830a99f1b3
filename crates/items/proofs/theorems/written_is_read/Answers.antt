use Rattle.items.proofs.Written.{written_is_read_lem}
use Rattle.items.proofs.theorems.written_is_read.Goals as goal

pub returns : goal.returns
returns c = written_is_read_lem
