use Rattle.std.proofs.Common.{ℕ, get_or, ap, ◌∙◌, arith}
use Rattle.edges.proofs.Slots.{rest_moved}
use Rattle.edges.proofs.calls.advance.Goals as goal

pub returns-clause-here : goal.returns-clause-here
returns-clause-here c =
    rest_moved c.args.words.now c.copy_within.new.self c.args.e c.args.head.start c.args.head.len c.requires.1
    (λ p l u. c.copy_within.ensures.by_index.0 p 0 (omega arith) (omega arith) ∙ ap (λ (x : ℕ). get_or c.args.words.now x 0) (omega arith))
