-- What the roll of a fiscal year changes of line numbers, line by line (own rule; GFOA Blue Book:
-- encumbrances).
use Rattle.std.specs.Prelude.{ℕ, zero, suc, ◌+◌, List, [], ◌∷◌, ◌++◌, pos, ◌-ℤ◌}
use Rattle.cf_model.specs.Common.{Entry, encumbered, documents_of, carried_to}
use Rattle.cf_chart.specs.Common.{Plan}
use Rattle.cf_budget.specs.declared.changes.LineChange.{LineChange}
use Rattle.cf_budget.specs.declared.row.Row.{Row}
use Rattle.cf_budget.specs.Tables.{carry_row, zero_row}
use Rattle.cf_model.specs.LineNumbers.{held}
use Rattle.cf_registers.specs.Moved.{change_of}

-- nothing of the year stays held or encumbered
abbrev pub cleared_row : ℕ → ℕ → Row
cleared_row held encumbered =
    record zero_row { held = pos 0 -ℤ pos held; encumbered = pos 0 -ℤ pos encumbered }

abbrev pub line_changes : Plan → List Entry → ℕ → ℕ → List LineChange
line_changes plan history year line =
    change_of line year
    (cleared_row (held plan line year history) (encumbered plan line year history))
    ∷ change_of line (year + 1)
    (carry_row (carried_to plan line year (documents_of plan history).items))
    ∷ []

-- of the first so many lines
abbrev pub changes_to : Plan → List Entry → ℕ → ℕ → List LineChange
changes_to plan history year zero = []
changes_to plan history year (suc n) =
    changes_to plan history year n ++ line_changes plan history year n
