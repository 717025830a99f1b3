use Rattle.std.proofs.Common.{◌≡◌, Some, take}
use Rattle.text.specs.Number.{digits}
use Rattle.text.proofs.digits.value_of.Given as goal

abbrev pub invariant-loop-byte : goal.invariant-loop-byte
invariant-loop-byte l = Some l.value ≡ digits (Some 0) (take l.byte-index l.word)
