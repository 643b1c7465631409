-- A statement as records of comma-separated fields, one a row.
use Rattle.std.specs.Prelude.{ℕ, ℤ, List, [], ◌∷◌, Option, Some, None, flat_map, slice_get}
use Rattle.csv.specs.Writing.{default_writer, row_text}
use Rattle.cf_calls.specs.declared.reply.Row.{Row}
use Rattle.cf_base.specs.Common.{money_of}

abbrev pub amount_field : Option ℤ → List ℕ
amount_field None = []
amount_field (Some amount) = money_of amount

abbrev pub field_at : List ℤ → ℕ → List ℕ
field_at amounts place = amount_field (slice_get amounts place)

-- the label and five amounts; those that the row lacks are empty
abbrev pub record_of : Row → List (List ℕ)
record_of row = row.label ∷ field_at row.amounts 0 ∷ field_at row.amounts 1 ∷ field_at row.amounts 2
    ∷ field_at row.amounts 3 ∷ field_at row.amounts 4 ∷ []

abbrev pub record_line : Row → List ℕ
record_line row = row_text default_writer (record_of row)

abbrev pub records_text : List Row → List ℕ
records_text rows = flat_map record_line rows
