use Rattle.std.proofs.Common.{codes, sym, ap, rules}
use Rattle.std.proofs.lemmas.Slice.Eq.{text_from_reads}
use Rattle.scripts.specs.Command.{word_named}
use Rattle.scripts.proofs.command.word_named.Goals as goal

pub returns-in-declare : goal.returns-in-declare
returns-in-declare c = ap word_named (sym (text_from_reads c.args.word.now (codes "declare") (search rules) (search rules)))
