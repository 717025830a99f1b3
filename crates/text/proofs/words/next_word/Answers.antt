use Rattle.std.proofs.Common.{ap, ◌∙◌}
use Rattle.text.specs.Words.{left_of}
use Rattle.text.proofs.Parts.{words_next}
use Rattle.text.proofs.words.next_word.Goals as goal

pub returns : goal.returns
returns c = ap left_of c.in_ok-rest.was ∙ words_next _ _ _ c.cut.ensures.lacks c.cut.ensures.joins
