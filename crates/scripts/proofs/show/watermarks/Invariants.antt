use Rattle.std.proofs.Common.{◌≡◌, true, ◌++◌, drop, length, string_bytes, nat_eq}
use Rattle.scripts.specs.Show.{zeros}
use Rattle.scripts.proofs.show.watermarks.Given as goal

abbrev pub invariant-loop-edge : goal.invariant-loop-edge
invariant-loop-edge l = string_bytes l.out ++ zeros (nat_eq (length (string_bytes l.out)) 0) l.w (drop l.edge-index l.ends) ≡ zeros true l.w l.ends
