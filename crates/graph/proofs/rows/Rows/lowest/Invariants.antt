use Rattle.std.proofs.Common.{◌≡◌, ℕ, Bool, drop}
use Rattle.graph.specs.Faults.{lowest}
use Rattle.graph.specs.Rows.{items_of, line_numbers}
use Rattle.graph.proofs.rows.Rows.lowest.Given as goal

abbrev pub invariant-loop-i : goal.invariant-loop-i
invariant-loop-i g l =
    (test : ℕ → _ → Bool) → ((i : ℕ) (item : _) (r : Bool) → goal.F-post g l.proper i item r → r ≡ test i item)
    → lowest test (line_numbers l.self) l.i (drop l.i l.item-items) l.best ≡ lowest test (line_numbers l.self) 0 (items_of l.self) l.fn.best
