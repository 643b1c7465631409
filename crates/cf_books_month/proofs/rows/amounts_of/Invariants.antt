use Rattle.std.proofs.Common.{◌≡◌, ◌++◌, drop}
use Rattle.cf_books_month.specs.Rows.{amounts_of}
use Rattle.cf_books_month.proofs.rows.amounts_of.Given as goal

-- what was taken, and what is still to come
abbrev pub invariant-loop-row : goal.invariant-loop-row
invariant-loop-row l = l.amounts.items ++ amounts_of l.dept (drop l.row-index l.rows) ≡ amounts_of l.dept l.rows
