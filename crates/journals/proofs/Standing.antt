-- Where a reader stands in its journal.
use Rattle.std.proofs.Common.{◌≡◌, ℕ, suc, ◌+◌, ◌-◌, ◌<◌, false, List, ◌++◌, length, take, drop, Some, Ok, Err, is_some, sym, refl, ap, ◌∙◌, arith}
use Rattle.std.proofs.lemmas.List.{drop_at, take_rest}
use Rattle.items.specs.declared.journal.NoItem.{NoItem}
use Rattle.items.specs.Journal.{Reading, first_of, reading_at, rest_at}
use Rattle.items.proofs.Skipping.{rest_add, rest_grows, rest_reads}
use Rattle.journals.specs.Handing.{has, told, entry_at, Found, Took, Reached}
use Rattle.journals.specs.declared.stop.Stop.{Stop}
use Rattle.journals.specs.declared.stop.Stop.TheVariants.{NotYet as StopNotYet, Unknown as StopUnknown, TooMany, Failed}

-- what came behind what is held was noted behind the journal
pub grown : (n : ℕ) (journal held more before bytes journal' held' : List ℕ) → rest_at n journal ≡ Some held → held' ≡ held ++ more → before ≡ held → bytes ≡ held' →
    journal' ≡ journal ++ take (length bytes - length before) (drop (length before) bytes) → rest_at n journal' ≡ Some held'
grown n journal held more before bytes journal' held' h e b d j =
    let came : take (length bytes - length before) (drop (length before) bytes) ≡ more =
    take_rest bytes (length before) ∙ rw (d, e, b) (drop_at held more (length held) refl) in
    rw (j, came, e) (rest_grows n journal held more h)

-- what comes first in what is held is what stands under that number
pub held_told : (n : ℕ) (journal held : List ℕ) (r : Reading) → rest_at n journal ≡ Some held → first_of held ≡ r → entry_at n journal ≡ told r
held_told n journal held r h e = ap told (rest_reads n journal held h ∙ e)

-- where no item comes first, none is taken
pub took_none : (n m : ℕ) (journal held : List ℕ) (s : Stop) → rest_at n journal ≡ Some held → n ≡ m → Found (Err s) (first_of held) → Took (Err s) m journal n
took_none n m journal held StopNotYet h e f = (rw (← e) (held_told n journal held _ h f), e)
took_none n m journal held StopUnknown h e f = (rw (← e) (held_told n journal held _ h f), e)
took_none n m journal held TooMany h e f = absurd f
took_none n m journal held (Failed code) h e f = e

told_none : (r : Reading) (s : Stop) → told r ≡ Err s → (none : NoItem) × (r ≡ Err none)
told_none (Ok p) s h = absurd (cc)
told_none (Err none) s h = (none, refl)

-- where no item stands under number m, there are no more than m
no_more : (m n : ℕ) (journal bs : List ℕ) (s : Stop) → rest_at m journal ≡ Some bs → entry_at m journal ≡ Err s → m < n → has n journal ≡ false
unfolding rest_at
no_more m n journal bs s there none lt =
    let d : m + suc (n - m - 1) ≡ n = omega arith in
    let first = (told_none (reading_at m journal) s none).1 in
    let r = sym (rest_reads m journal bs there) ∙ first in
    ap (λ (k : ℕ). has k journal) (sym d) ∙ ap is_some (rest_add m (suc (n - m - 1)) journal bs there) ∙ rw r refl

-- a reader that is on its way to number n stops where no item comes
pub stops : (m n m' : ℕ) (journal bs : List ℕ) (s : Stop) → Took (Err s) m journal m' → rest_at m' journal ≡ Some bs → m < n → Reached (Err s) n journal m'
stops m n m' journal bs StopNotYet t there lt = no_more m n journal bs StopNotYet (rw t.1 at there) t.0 lt
stops m n m' journal bs StopUnknown t there lt = no_more m n journal bs StopUnknown (rw t.1 at there) t.0 lt
stops m n m' journal bs TooMany t there lt = tt
stops m n m' journal bs (Failed code) t there lt = tt
