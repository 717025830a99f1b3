-- What a reader holds of a journal, and where it stands in it.
use Rattle.std.specs.Prelude.{◌≡◌, ℕ, ◌+◌, Bool, true, false, List, ◌++◌, length, Ok, Err, Result, is_some}
use Rattle.items.specs.declared.Item.{Item}
use Rattle.items.specs.declared.journal.NoItem.{NoItem}
use Rattle.items.specs.declared.journal.NoItem.TheVariants.{NotYet, Unknown}
use Rattle.items.specs.Journal.{Reading, reading_at, rest_at}
use Rattle.journals.specs.declared.stop.Stop.{Stop}
use Rattle.journals.specs.declared.stop.Stop.TheVariants.{NotYet as StopNotYet, Unknown as StopUnknown, TooMany, Failed}

-- bytes came from a source, behind those that were held
abbrev pub Filled : {E : Type 0} → Result ℕ E → (held held' given given' : List ℕ) → Type 0
Filled (Ok n) held held' given given' = (more : List ℕ) × (length more ≡ n) × (held' ≡ held ++ more) × (given' ≡ given ++ more)
Filled (Err e) held held' given given' = (held' ≡ held) × (given' ≡ given)

-- n items of a journal are there
abbrev pub has : ℕ → List ℕ → Bool
has n journal = is_some (rest_at n journal)

-- a journal grew by what its source gave
abbrev pub Grew : (journal given journal' given' : List ℕ) → Type 0
Grew journal given journal' given' = (more : List ℕ) × (journal' ≡ journal ++ more) × (given' ≡ given ++ more)

-- what comes first was found; a failure says nothing
abbrev pub Found : Result (Item × ℕ) Stop → Reading → Type 0
Found (Ok p) first = first ≡ Ok p
Found (Err StopNotYet) first = first ≡ Err NotYet
Found (Err StopUnknown) first = first ≡ Err Unknown
Found (Err TooMany) first = ⊥
Found (Err (Failed code)) first = Unit {0}

-- why a reader stops where no item comes
abbrev pub stop_of : NoItem → Stop
stop_of NotYet = StopNotYet
stop_of Unknown = StopUnknown

-- what stands in a journal under number n: an item, or why there is none
abbrev pub told : Reading → Result Item Stop
told (Ok p) = Ok p.0
told (Err none) = Err (stop_of none)

abbrev pub entry_at : ℕ → List ℕ → Result Item Stop
entry_at n journal = told (reading_at n journal)

-- what stands in a journal under number n was read, and which number comes next; a failure says and takes nothing,
-- and items of higher numbers than 64 bits hold aren't read
abbrev pub Took : Result Item Stop → (n : ℕ) (journal : List ℕ) (next : ℕ) → Type 0
Took (Ok i) n journal next = (entry_at n journal ≡ Ok i) × (next ≡ n + 1)
Took (Err StopNotYet) n journal next = (entry_at n journal ≡ Err StopNotYet) × (next ≡ n)
Took (Err StopUnknown) n journal next = (entry_at n journal ≡ Err StopUnknown) × (next ≡ n)
Took (Err TooMany) n journal next = (n ≡ 18446744073709551615) × (next ≡ n)
Took (Err (Failed code)) n journal next = next ≡ n

-- the item with number n comes next; or so many items aren't there; a failure says nothing
abbrev pub Reached : Result Unit Stop → (n : ℕ) (journal : List ℕ) (next : ℕ) → Type 0
Reached (Ok u) n journal next = next ≡ n
Reached (Err StopNotYet) n journal next = has n journal ≡ false
Reached (Err StopUnknown) n journal next = has n journal ≡ false
Reached (Err TooMany) n journal next = Unit {0}
Reached (Err (Failed code)) n journal next = Unit {0}

-- what a stop says of its source: one where an item isn't there yet had no more, and a failure is one of the source
abbrev pub Says : Stop → (failed ended : Bool) → Type 0
Says StopNotYet failed ended = ended ≡ true
Says StopUnknown failed ended = Unit {0}
Says TooMany failed ended = Unit {0}
Says (Failed code) failed ended = failed ≡ true

-- The item that a reader gave under a number is that of the whole journal, whatever is still to come.
abbrev pub ItemStays : Type 0
ItemStays = (n : ℕ) (journal more : List ℕ) (i : Item) → entry_at n journal ≡ Ok i → entry_at n (journal ++ more) ≡ Ok i
