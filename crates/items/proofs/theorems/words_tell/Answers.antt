use Rattle.items.proofs.Coding.{words_tell_lem}
use Rattle.items.proofs.theorems.words_tell.Goals as goal

pub returns : goal.returns
returns c = words_tell_lem
