-- How a call on an edge is refused.
use Rattle.std.specs.Prelude.{Some, None, Option}
use Rattle.items.specs.declared.Refusal.{Refusal}
use Rattle.edges.specs.declared.fault.Fault.{Fault}
use Rattle.edges.specs.declared.fault.Fault.TheVariants.{Refused, ShortMemory}

abbrev pub refusal_of : Fault → Option Refusal
refusal_of (Refused r) = Some r
refusal_of ShortMemory = None
