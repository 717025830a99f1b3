use Rattle.scripts.proofs.Exact.{command_is_lem}
use Rattle.scripts.proofs.theorems.command_is.Goals as goal

pub returns : goal.returns
returns c = command_is_lem
