-- What was written in a journal is read back, and nothing else.
use Rattle.std.proofs.Common.{◌≡◌, ℕ, zero, suc, ◌+◌, ◌*◌, ◌/◌, ◌%◌, ◌<◌, ◌≤◌, true, List, [], ◌∷◌, ◌++◌, length, get_or, take, drop, Some, Ok, Err, sym, refl, ap, ◌∙◌, subst, append_assoc, arith, length-append, length-drop, take-add}
use Rattle.std.proofs.lemmas.List.{drop-drop, drop_at, get_or-drop}
use Rattle.std.proofs.lemmas.Bool.Decides.{nat_tests}
use Rattle.std.proofs.lemmas.Bool.{and_parts, and_from}
use Rattle.items.specs.declared.Item.{Item}
use Rattle.items.specs.declared.Item.TheVariants.{Record as ARecord, Watermark, Barrier}
use Rattle.items.specs.Journal.{Reading, first_of, big_at, reading_at, big, bytes_of, journal_of, small, can_stand, all_stand, are_bytes, rest_at, WrittenIsRead, ReadWasWritten}

-- the number in four bytes is below 2^32, and they are its bytes
big_back : (n : ℕ) → n < 4294967296 → n / 16777216 * 16777216 + n / 65536 % 256 * 65536 + n / 256 % 256 * 256 + n % 256 ≡ n
big_back n h = omega arith

first_written : (i : Item) (more : List ℕ) → can_stand i ≡ true → first_of (bytes_of i ++ more) ≡ Ok (i, length (bytes_of i))
first_written (ARecord r) more h = grind (arith, nat_tests, length-append, big_back)
first_written (Watermark t) more h = grind (arith, nat_tests, length-append, big_back)
first_written (Barrier n) more h = cc

each_read : (is : List Item) (more : List ℕ) (n : ℕ) (none : Item) → all_stand is ≡ true → n < length is →
    reading_at n (journal_of is ++ more) ≡ Ok (get_or is n none, length (bytes_of (get_or is n none)))
unfolding reading_at journal_of all_stand
each_read [] more n none all lt = absurd (omega arith)
each_read (i ∷ is) more zero none all lt =
    rw (append_assoc (bytes_of i) (journal_of is) more) (first_written i (journal_of is ++ more) (and_parts (can_stand i) (all_stand is) all).0)
each_read (i ∷ is) more (suc n) none all lt =
    let p = and_parts (can_stand i) (all_stand is) all in
    let f = first_written i (journal_of is ++ more) p.0 in
    let d = drop_at (bytes_of i) (journal_of is ++ more) (length (bytes_of i)) refl in
    rw (append_assoc (bytes_of i) (journal_of is) more, f, d) (each_read is more n none p.1 (omega arith))

left_behind : (is : List Item) (more : List ℕ) → all_stand is ≡ true → rest_at (length is) (journal_of is ++ more) ≡ Some more
unfolding rest_at journal_of all_stand
left_behind [] more all = refl
left_behind (i ∷ is) more all =
    let p = and_parts (can_stand i) (all_stand is) all in
    let f = first_written i (journal_of is ++ more) p.0 in
    let d = drop_at (bytes_of i) (journal_of is ++ more) (length (bytes_of i)) refl in
    rw (append_assoc (bytes_of i) (journal_of is) more, f, d) (left_behind is more p.1)

pub written_is_read_lem : WrittenIsRead
written_is_read_lem is more all = (λ n none lt. each_read is more n none all lt, left_behind is more all)

bytes_parts : (b : ℕ) (bs : List ℕ) → are_bytes (b ∷ bs) ≡ true → (b < 256) × (are_bytes bs ≡ true)
unfolding are_bytes
bytes_parts b bs h = grind (arith, nat_tests)

-- four bytes are those of the number in them, which is small
big_is : (bs : List ℕ) → 4 ≤ length bs → are_bytes bs ≡ true → (take 4 bs ≡ big (big_at bs 0)) × (small (big_at bs 0) ≡ true) × (are_bytes (drop 4 bs) ≡ true)
big_is [] l h = absurd (omega arith)
big_is (a ∷ []) l h = absurd (omega arith)
big_is (a ∷ b ∷ []) l h = absurd (omega arith)
big_is (a ∷ b ∷ d ∷ []) l h = absurd (omega arith)
big_is (a ∷ b ∷ d ∷ e ∷ bs) l h = grind (arith, nat_tests, bytes_parts)

-- twelve bytes, four by four
take_fours : (bs : List ℕ) → take 12 bs ≡ take 4 bs ++ (take 4 (drop 4 bs) ++ take 4 (drop 8 bs))
take_fours bs = take-add 4 8 bs ∙ ap (λ (r : List ℕ). take 4 bs ++ r) (take-add 4 4 (drop 4 bs) ∙ simp drop-drop)

-- what comes first, if it is an item, was written so
abbrev Was : List ℕ → Reading → Type 0
Was bs (Ok p) = (take p.1 bs ≡ bytes_of p.0) × (can_stand p.0 ≡ true)
Was bs (Err none) = Unit {0}

-- the number in the four bytes from p on
big_at_lem : (bs : List ℕ) (p : ℕ) → p + 4 ≤ length bs → are_bytes (drop p bs) ≡ true →
    (take 4 (drop p bs) ≡ big (big_at bs p)) × (small (big_at bs p) ≡ true) × (are_bytes (drop (p + 4) bs) ≡ true)
big_at_lem bs p l all =
    let b = big_is (drop p bs) (simp length-drop (omega arith)) all in
    let e : big_at (drop p bs) 0 ≡ big_at bs p = grind (arith, get_or-drop) in
    let d : drop 4 (drop p bs) ≡ drop (p + 4) bs = drop-drop 4 p bs ∙ ap (λ (n : ℕ). drop n bs) (omega arith) in
    (b.0 ∙ ap big e, ap small (sym e) ∙ b.1, ap are_bytes (sym d) ∙ b.2)

was_record : (bs : List ℕ) → 12 ≤ length bs → are_bytes bs ≡ true →
    Was (1 ∷ bs) (Ok (ARecord (record { key = big_at bs 0; time = big_at bs 4; amount = big_at bs 8 }), 13))
was_record bs l all =
    let k = big_at_lem bs 0 (omega arith) all in
    let t = big_at_lem bs 4 (omega arith) k.2 in
    let a = big_at_lem bs 8 (omega arith) t.2 in
    (ap (λ (r : List ℕ). 1 ∷ r) (take_fours bs ∙ cc), and_from _ _ (and_from _ _ k.1 t.1) a.1)

was_watermark : (bs : List ℕ) → 4 ≤ length bs → are_bytes bs ≡ true → Was (2 ∷ bs) (Ok (Watermark (big_at bs 0), 5))
was_watermark bs l all = let t = big_at_lem bs 0 (omega arith) all in (ap (λ (r : List ℕ). 2 ∷ r) t.0, t.1)

was : (bs : List ℕ) → are_bytes bs ≡ true → Was bs (first_of bs)
was [] all = tt
was (kind ∷ bs) all = grind (arith, nat_tests, was_record, was_watermark, bytes_parts)

pub read_was_written_lem : ReadWasWritten
read_was_written_lem bs i n all h = subst (Was bs) h (was bs all)
