use Rattle.std.proofs.Common.{◌≡◌, List, replicate, take, ap, ◌∙◌, arith}
use Rattle.std.proofs.lemmas.List.{take-replicate}
use Rattle.edges.specs.declared.head.Head.{Head}
use Rattle.edges.proofs.Numbered.{queues_none}
use Rattle.edges.proofs.state.Edges.new.Goals as goal

pub returns : goal.returns
returns c =
    let heads : c.truncate.new.self.items ≡ replicate c.args.count c.default.result =
    c.truncate.ensures.items ∙ ap (λ (hs : List Head). take c.args.count hs) c.from-heads.ensures.0
    ∙ take-replicate c.args.count 64 c.default.result (omega arith) in
    (omega arith, λ ws. rw heads (queues_none ws 0 c.default.result c.args.count c.default.ensures.1))
