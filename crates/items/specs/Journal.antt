-- What stands in the bytes of a journal.
use Rattle.std.specs.Prelude.{◌≡◌, ℕ, zero, suc, ◌+◌, ◌*◌, ◌/◌, ◌%◌, ◌<◌, Bool, true, false, if◌then◌else◌, ◌&&◌, List, [], ◌∷◌, ◌++◌, length, take, drop, Some, None, Option, Ok, Err, Result, ◌==◌, ◌≢◌, nat_lt, slice_index, slice_index_or}
use Rattle.items.specs.declared.Item.{Item}
use Rattle.items.specs.declared.Item.TheVariants.{Record as ARecord, Watermark, Barrier}
use Rattle.items.specs.declared.journal.NoItem.{NoItem}
use Rattle.items.specs.declared.journal.NoItem.TheVariants.{NotYet, Unknown}

-- the number in the four bytes from place p on, the high byte first
abbrev pub big_at : List ℕ → ℕ → ℕ
big_at bs p = slice_index bs p * 16777216 + slice_index bs (p + 1) * 65536 + slice_index bs (p + 2) * 256 + slice_index bs (p + 3)

-- what is read: an item, with how many bytes it took, or why there is none
abbrev pub Reading : Type 0
Reading = Result (Item × ℕ) NoItem

-- a record, or a watermark, behind the byte that says so
abbrev pub record_in : List ℕ → Reading
record_in bs = if nat_lt (length bs) 12 then Err NotYet else Ok (ARecord (record { key = big_at bs 0; time = big_at bs 4; amount = big_at bs 8 }), 13)

abbrev pub watermark_in : List ℕ → Reading
watermark_in bs = if nat_lt (length bs) 4 then Err NotYet else Ok (Watermark (big_at bs 0), 5)

-- what comes first: an item; one that is cut short; or one of an unknown kind
abbrev pub first_of : List ℕ → Reading
first_of [] = Err NotYet
first_of (kind ∷ bs) =
    if kind == 1 then record_in bs
    else if kind == 2 then watermark_in bs
    else Err Unknown

-- what comes first behind an item
abbrev pub behind : (List ℕ → Reading) → List ℕ → Reading → Reading
behind next bs (Ok p) = next (drop p.1 bs)
behind next bs (Err none) = Err none

-- what stands under number n, items being numbered from 0; nothing can be read beyond an unknown kind
unfoldable pub reading_at : ℕ → List ℕ → Reading
reading_at zero bs = first_of bs
reading_at (suc n) bs = behind (reading_at n) bs (first_of bs)

-- the bytes behind the first n items, if so many are there
abbrev pub rest_behind : (List ℕ → Option (List ℕ)) → List ℕ → Reading → Option (List ℕ)
rest_behind next bs (Ok p) = next (drop p.1 bs)
rest_behind next bs (Err none) = None

unfoldable pub rest_at : ℕ → List ℕ → Option (List ℕ)
rest_at zero bs = Some bs
rest_at (suc n) bs = rest_behind (rest_at n) bs (first_of bs)

-- the bytes of a number, and of an item; barriers don't stand in journals
abbrev pub big : ℕ → List ℕ
big n = n / 16777216 ∷ n / 65536 % 256 ∷ n / 256 % 256 ∷ n % 256 ∷ []

abbrev pub bytes_of : Item → List ℕ
bytes_of (ARecord r) = 1 ∷ (big r.key ++ (big r.time ++ big r.amount))
bytes_of (Watermark t) = 2 ∷ big t
bytes_of (Barrier n) = []

unfoldable pub journal_of : List Item → List ℕ
journal_of [] = []
journal_of (i ∷ is) = bytes_of i ++ journal_of is

-- what a journal can hold: records and watermarks of 32 bits
abbrev pub small : ℕ → Bool
small n = nat_lt n 4294967296

abbrev pub can_stand : Item → Bool
can_stand (ARecord r) = small r.key && small r.time && small r.amount
can_stand (Watermark t) = small t
can_stand (Barrier n) = false

unfoldable pub all_stand : List Item → Bool
all_stand [] = true
all_stand (i ∷ is) = can_stand i && all_stand is

unfoldable pub are_bytes : List ℕ → Bool
are_bytes [] = true
are_bytes (b ∷ bs) = nat_lt b 256 && are_bytes bs

-- Items that were written are read back, each under its number, and behind them is left what was written behind them.
abbrev pub WrittenIsRead : Type 0
WrittenIsRead = (is : List Item) (more : List ℕ) → all_stand is ≡ true →
    ((n : ℕ) (none : Item) → n < length is → reading_at n (journal_of is ++ more) ≡ Ok (slice_index_or is n none, length (bytes_of (slice_index_or is n none))))
    × (rest_at (length is) (journal_of is ++ more) ≡ Some more)

-- What is read as an item was written as that item.
abbrev pub ReadWasWritten : Type 0
ReadWasWritten = (bs : List ℕ) (i : Item) (n : ℕ) → are_bytes bs ≡ true → first_of bs ≡ Ok (i, n) → (take n bs ≡ bytes_of i) × (can_stand i ≡ true)

-- A journal that grows keeps under its number whatever was there: items, and an unknown kind.
abbrev pub GrowingKeeps : Type 0
GrowingKeeps = (n : ℕ) (bs more : List ℕ) → (reading_at n bs ≢ Err NotYet) → reading_at n (bs ++ more) ≡ reading_at n bs

-- What isn't there yet in a journal was there in none that it has grown from.
abbrev pub NotYetBefore : Type 0
NotYetBefore = (n : ℕ) (bs more : List ℕ) → reading_at n (bs ++ more) ≡ Err NotYet → reading_at n bs ≡ Err NotYet
