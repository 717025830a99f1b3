use Rattle.std.proofs.Common.{ℕ, List, ◌++◌, take, drop, sym, ap, ◌∙◌, take-add}
use Rattle.std.proofs.lemmas.List.{take_at, take_rest}
use Rattle.sources.proofs.ends.MemorySource.read.Goals as goal

-- what follows is read into the front
pub returns-clause-handed : goal.returns-clause-handed
returns-clause-handed c =
    let at : ℕ = c.args.self.now.at in
    let bytes : List ℕ = c.args.self.now.bytes.items in
    let n : ℕ = c.in_ok-n.n in
    let read = c.in_ok-n.ensures in
    let rest = take_rest c.deref.result.now at ∙ ap (λ (bs : List ℕ). drop at bs) c.deref.ensures.value in
    (read.bound.0, take-add at n bytes ∙ ap (λ (bs : List ℕ). take at bytes ++ bs) (ap (λ (bs : List ℕ). take n bs) (sym rest ∙ read.bytes.0) ∙ take_at _ _ n (sym read.bound.1)))
