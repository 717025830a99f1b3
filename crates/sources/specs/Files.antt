-- What came of the last question to a file.
use Rattle.std.specs.Prelude.{Bool, true, false}
use Rattle.sources.specs.declared.ends.Last.{Last}
use Rattle.sources.specs.declared.ends.Last.TheVariants.{Gave, Ended, Failed}

abbrev pub has_ended : Last → Bool
has_ended Gave = false
has_ended Ended = true
has_ended Failed = false

abbrev pub has_failed : Last → Bool
has_failed Gave = false
has_failed Ended = false
has_failed Failed = true
