-- How a source that finds no item is refused.
use Rattle.std.specs.Prelude.{Some, None, Option}
use Rattle.items.specs.declared.Refusal.{Refusal}
use Rattle.items.specs.declared.Refusal.TheVariants.{NothingToTake, UnknownItem, CounterFull}
use Rattle.journals.specs.declared.stop.Stop.{Stop}
use Rattle.journals.specs.declared.stop.Stop.TheVariants.{NotYet, Unknown, TooMany, Failed}

abbrev pub refusal_of : Stop → Option Refusal
refusal_of NotYet = Some NothingToTake
refusal_of Unknown = Some UnknownItem
refusal_of TooMany = Some CounterFull
refusal_of (Failed code) = None
