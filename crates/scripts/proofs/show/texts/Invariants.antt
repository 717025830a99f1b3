use Rattle.std.proofs.Common.{◌≡◌, ℕ, List, ◌++◌, drop, string_bytes}
use Rattle.scripts.specs.Show.{Spells, texts_from}
use Rattle.scripts.proofs.show.texts.Given as goal

abbrev pub invariant-loop-i : goal.invariant-loop-i
invariant-loop-i g l =
    (said : ℕ → _ → List ℕ) → ((i : ℕ) (item : _) (r : _) → goal.F-post g l.text i item r → Spells r (said i item))
    → string_bytes l.out ++ texts_from said l.i (drop l.i l.items) ≡ texts_from said 0 l.items
