use Rattle.std.proofs.Common.{codes, sym, ap, rules}
use Rattle.std.proofs.lemmas.Slice.Eq.{text_from_reads}
use Rattle.graph.specs.Line.{kind_named}
use Rattle.graph.proofs.line.kind_named.Goals as goal

pub returns-in-source : goal.returns-in-source
returns-in-source c = ap kind_named (sym (text_from_reads c.args.word.now (codes "source") (search rules) (search rules)))

pub returns-in-spread : goal.returns-in-spread
returns-in-spread c = ap kind_named (sym (text_from_reads c.args.word.now (codes "spread") (search rules) (search rules)))

pub returns-in-window : goal.returns-in-window
returns-in-window c = ap kind_named (sym (text_from_reads c.args.word.now (codes "window") (search rules) (search rules)))
