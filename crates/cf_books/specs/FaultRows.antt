-- The id of the row that a chart's fault is in.
use Rattle.std.specs.Prelude.{ℕ, Bool, true, false, ◌&&◌, not, if◌then◌else◌, List, codes, Option, Some, None, option_and_then, Ok, Err}
use Rattle.std.specs.Str.{bytes_eq}
use Rattle.toml.specs.Data.{Data, at as item_at, get}
use Rattle.cf_model.specs.Common.{ChartFault, KeyName, TableName}
use Rattle.cf_chart.specs.declared.fault.ChartFault.TheVariants as fault
use Rattle.cf_chart.specs.declared.fault.TableName.TheVariants as table
use Rattle.cf_chart.specs.Common.{Checked, table_word, word_of, value_of}
use Rattle.cf_books_grants.specs.FaultIds.{id_in}
use Rattle.cf_books.specs.declared.fault_rows.FaultRow.{FaultRow}

-- ---- which row

-- a line is known by its place alone
abbrev pub has_ids : TableName → Bool
has_ids table.Top = false
has_ids table.Line = false
has_ids _ = true

-- the key isn't the id itself, and not the table's own name, whose fault is that the table is no
-- list of rows
abbrev pub is_beside_id : TableName → KeyName → Bool
is_beside_id t k = not (bytes_eq (word_of k) (codes "id"))
    && not (bytes_eq (word_of k) (table_word t))

-- this row, where it is wanted and has an id
abbrev pub row_if : Bool → TableName → ℕ → Option FaultRow
row_if wanted t at = if wanted && has_ids t then Some (record { table = t; at = at }) else None

-- the row that a fault is in, where its id can say so
abbrev pub row_of : ChartFault → Option FaultRow
row_of (fault.Missing t at k) = row_if (is_beside_id t k) t at
row_of (fault.Bad t at k) = row_if (is_beside_id t k) t at
row_of (fault.Twice t at) = row_if true t at
row_of _ = None

-- ---- its id

abbrev pub id_at : FaultRow → Data → Option ℕ
id_at row d = option_and_then id_in
    (option_and_then (item_at row.at) (get (table_word row.table) d))

-- the same of a document's bytes
abbrev pub id_under : FaultRow → Checked Data → Option ℕ
id_under row (Ok d) = id_at row d
id_under row (Err f) = None

-- the id of the row that a fault of a chart is in
abbrev pub fault_id : List ℕ → ChartFault → Option ℕ
fault_id bytes f = option_and_then (λ row. id_under row (value_of bytes)) (row_of f)
