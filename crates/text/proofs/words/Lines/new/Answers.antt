use Rattle.text.proofs.Parts.{few_lines}
use Rattle.text.proofs.words.Lines.new.Goals as goal

pub returns-clause-few : goal.returns-clause-few
returns-clause-few c = few_lines c.args.text.now
