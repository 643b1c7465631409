-- The running numbers of control lines through a day.
use Rattle.std.specs.Prelude.{◌≡◌, ℕ, ◌==◌, ◌&&◌, if◌then◌else◌, unwrap_or}
use Rattle.cf_model.specs.Common.{Day}
use Rattle.cf_budget.specs.declared.changes.LineChange.{LineChange}
use Rattle.cf_budget.specs.declared.row.Row.{Row}
use Rattle.cf_budget.specs.Changes.{change_at}
use Rattle.cf_budget.specs.Tables.{row_plus, zero_row}
use Rattle.cf_register_parts.specs.Pairs.{value_of}
use Rattle.cf_books_days.specs.declared.lines.DayLines.{DayLines}
use Rattle.cf_books_days.specs.declared.gathered.DatedChange.{DatedChange}
use Rattle.cf_books_days.specs.Through.{held_row, is_through}

-- the row of a line and year, zero where there is none
abbrev pub row_in : DayLines → ℕ → ℕ → Row
row_in lines line year = unwrap_or (value_of lines.rows.entries line year) zero_row

-- a change of one line and year is added, and the others stay
abbrev pub Adds : DayLines → DayLines → LineChange → Type 0
Adds old new c = (line year : ℕ) →
    row_in new line year
    ≡ (if (c.line.number == line) && (c.year == year)
    then held_row (row_plus (row_in old line year) c.by) else row_in old line year)

-- a change is added where it is dated through a day, whatever is still to be added
abbrev pub AddsThrough : Day → DayLines → DayLines → DatedChange → Type 0
AddsThrough day old new d = (line year : ℕ) (later : Row) →
    held_row (row_plus (row_in new line year) later)
    ≡ held_row (row_plus (row_in old line year)
    (row_plus (if is_through day d.on then change_at d.change line year else zero_row) later))
