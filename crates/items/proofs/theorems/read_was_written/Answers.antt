use Rattle.items.proofs.Written.{read_was_written_lem}
use Rattle.items.proofs.theorems.read_was_written.Goals as goal

pub returns : goal.returns
returns c = read_was_written_lem
