use Rattle.std.proofs.Common.{refl, rules, tests}
use Rattle.text.proofs.Parts.{lines_next}
use Rattle.text.proofs.words.next_line.Goals as goal

pub returns-clause-is : goal.returns-clause-is
returns-clause-is c = lines_next _ _ _ _ _ (search (rules, tests)) c.cut.ensures.lacks c.cut.ensures.joins c.unwrap_or.ensures refl
