-- What rows have.
use Rattle.std.specs.Prelude.{ℕ, List, take}
use Rattle.graph.specs.declared.rows.Rows.{Rows}

abbrev pub items_of : {T : Type 0} {N : ℕ} → Rows T N → List T
items_of rows = take rows.len rows.items

abbrev pub line_numbers : {T : Type 0} {N : ℕ} → Rows T N → List ℕ
line_numbers rows = take rows.len rows.lines
