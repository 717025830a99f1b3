-- A file's name as one word: UTF-8, not empty, every byte above a space.
use Rattle.std.specs.Prelude.{ℕ, ◌<◌, Bool, false, cond, List, length, IsUtf8, Decides, ◌==◌, nat_lt, slice_index}
use Rattle.std.specs.List.{list_all}
use Rattle.std.specs.Str.{is_utf8}

abbrev pub visible : List ℕ → Bool
visible bs = list_all (λ b. nat_lt 32 b) bs

abbrev pub is_name : List ℕ → Bool
is_name bs = cond (length bs == 0) false (cond (visible bs) (is_utf8 bs) false)

-- A name is not empty, has every byte above a space, and is UTF-8.
abbrev pub NameIs : Type 0
NameIs = (w : List ℕ) → Decides (is_name w) ((0 < length w) × (((i : ℕ) → i < length w → 32 < slice_index w i) × IsUtf8 w))
