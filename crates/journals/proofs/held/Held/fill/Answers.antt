use Rattle.std.proofs.Common.{◌≡◌, ℕ, ◌+◌, ◌-◌, ◌≤◌, List, length, take, ap, ◌∙◌, arith, length-drop, length-take}
use Rattle.std.specs.List.{between}
use Rattle.std.proofs.lemmas.List.{length-take-le, with_items_is}
use Rattle.journals.proofs.Buffers.{length_put, moved, filled}
use Rattle.journals.proofs.held.Held.fill.Goals as goal

pub returns-clause-came : goal.returns-clause-came
returns-clause-came g c =
    let s = c.self.inside in
    let h : ℕ = s.end - s.start in
    let n : ℕ = c.in_ok-n.n in
    let into : List ℕ = c.read.new.into in
    let xs : List ℕ = c.deref_mut.result.now in
    let handed = c.in_ok-n.ensures.handed in
    let old = s.buffer.ok.0 in
    let new = c.copy_within.new.self.ok.0 in
    let inside = c.self.invariant in
    let front = ap (λ (bs : List ℕ). take h bs) (c.deref_mut.ensures.value ∙ c.copy_within.ensures.items) ∙ moved s.start s.end s.buffer.items (omega arith) ∙ c.self.view_is in
    let le : h ≤ length xs = omega (arith, c.copy_within.ensures.len, c.deref_mut.ensures.len) in
    let came : length into ≡ length xs - h = let k = simp (length-take, length-drop) at c.read.auto.into in omega arith in
    let l = length_put h xs into le came in (
      take n into,
      length-take-le n into handed.0,
      ap (λ (bs : List ℕ). between 0 (h + n) bs) (with_items_is c.copy_within.new.self _ (omega (arith, l, c.deref_mut.ensures.len))) ∙ filled h n _ xs into c.args.self.now le handed.0 front,
      handed.1,
    )
