-- The calls on edges, by the list of items on each edge: what each call comes to.
use Rattle.std.specs.Prelude.{ℕ, ◌+◌, ◌*◌, cond, List, [], ◌∷◌, ◌++◌, length, Ok, Err, Result, nat_le, nat_lt, slice_index_or, slice_set}
use Rattle.items.specs.declared.Item.{Item}
use Rattle.items.specs.declared.Refusal.TheVariants.{NothingToTake, NoRoom, NotThere}
use Rattle.edges.specs.declared.fault.Fault.{Fault}
use Rattle.edges.specs.declared.fault.Fault.TheVariants.{Refused, ShortMemory}

-- the items on each edge, by the number of the edge, the first to be taken first
abbrev pub Queues : Type 0
Queues = List (List Item)

abbrev pub on : Queues → ℕ → List Item
on qs e = slice_index_or qs e []

-- an edge that isn't there is refused by 5
abbrev pub there : {A : Type 0} → Queues → ℕ → Result A Fault → Result A Fault
there qs e then = cond (nat_lt e (length qs)) then (Err (Refused NotThere))

-- first of all, with too few words lent no call is done: an edge has 2064
abbrev pub asked : {A : Type 0} → (lent : ℕ) → Queues → ℕ → Result A Fault → Result A Fault
asked lent qs e then = cond (nat_lt lent (2064 * length qs)) (Err ShortMemory) (there qs e then)

abbrev pub first_on : List Item → Result Item Fault
first_on [] = Err (Refused NothingToTake)
first_on (x ∷ xs) = Ok x

abbrev pub peeked : ℕ → Queues → ℕ → Result Item Fault
peeked lent qs e = asked lent qs e (first_on (on qs e))

-- what is taken, and what is on the edges then
abbrev pub taken : Queues → ℕ → List Item → Result (Item × Queues) Fault
taken qs e [] = Err (Refused NothingToTake)
taken qs e (x ∷ xs) = Ok (x, slice_set qs e xs)

abbrev pub popped : ℕ → Queues → ℕ → Result (Item × Queues) Fault
popped lent qs e = asked lent qs e (taken qs e (on qs e))

-- some items more at the end of an edge, which holds at most 256
abbrev pub added : Queues → ℕ → List Item → Result Queues Fault
added qs e xs = cond (nat_le (length (on qs e) + length xs) 256) (Ok (slice_set qs e (on qs e ++ xs))) (Err (Refused NoRoom))

abbrev pub pushed : ℕ → Queues → ℕ → Item → Result Queues Fault
pushed lent qs e x = asked lent qs e (added qs e (x ∷ []))

abbrev pub taken_up : ℕ → Queues → ℕ → List Item → Result Queues Fault
taken_up lent qs e xs = asked lent qs e (added qs e xs)

abbrev pub counted : Queues → ℕ → Result ℕ Fault
counted qs e = there qs e (Ok (length (on qs e)))

abbrev pub cleared : Queues → ℕ → Result Queues Fault
cleared qs e = there qs e (Ok (slice_set qs e []))
