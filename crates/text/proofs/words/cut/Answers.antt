use Rattle.std.proofs.Common.{length, sym, ap, ◌∙◌, take_all, arith}
use Rattle.text.specs.Laws.{lacks}
use Rattle.text.proofs.Parts.{lacks_below}
use Rattle.text.proofs.words.cut.Goals as goal

pub returns-then-byte-end-clause-lacks : goal.returns-then-byte-end-clause-lacks
returns-then-byte-end-clause-lacks c = lacks_below c.args.end c.loop-n.n c.args.bytes.now (λ k l m. c.loop-n.invariant k l)

pub returns-clause-lacks : goal.returns-clause-lacks
returns-clause-lacks c =
    let bs = c.args.bytes.now in
    let all = c.loop-n-test.false in
    ap (lacks c.args.end) (sym (take_all (length bs) bs (omega arith)))
    ∙ lacks_below c.args.end (length bs) bs (λ k l m. c.loop-n.invariant k (omega (arith, m, all)))
