-- The number of each refusal.
use Rattle.std.specs.Prelude.{◌≡◌, ℕ, ◌≤◌}
use Rattle.items.specs.declared.Refusal.{Refusal}
use Rattle.items.specs.declared.Refusal.TheVariants.{BadLine, BadGraph, NothingToTake, NoRoom, NotThere, NotAligned, NotCommittable, UnknownItem, BadCheckpoint, CounterFull}

abbrev pub number_of : Refusal → ℕ
number_of BadLine = 1
number_of BadGraph = 2
number_of NothingToTake = 3
number_of NoRoom = 4
number_of NotThere = 5
number_of NotAligned = 6
number_of NotCommittable = 7
number_of UnknownItem = 8
number_of BadCheckpoint = 9
number_of CounterFull = 10

-- A number from 1 to 10 says which refusal it is.
abbrev pub NumbersTell : Type 0
NumbersTell = (r s : Refusal) → (1 ≤ number_of r) × (number_of r ≤ 10) × (number_of r ≡ number_of s → r ≡ s)
