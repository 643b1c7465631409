use Rattle.std.proofs.Common.{◌≡◌, ℕ, drop}
use Rattle.cf_budget.specs.Tables.{row_plus}
use Rattle.cf_books_days.specs.Gathered.{changed_through}
use Rattle.cf_books_days.specs.Lines.{row_in}
use Rattle.cf_books_days.specs.Through.{held_row}
use Rattle.cf_books_days.proofs.lines.lines_through.Given as goal

-- what was added, and what is still to come
abbrev pub invariant-loop-change : goal.invariant-loop-change
invariant-loop-change l = (line year : ℕ) →
    held_row (row_plus (row_in l.lines line year) (changed_through l.day line year (drop l.change-index l.changes))) ≡ held_row (changed_through l.day line year l.changes)
