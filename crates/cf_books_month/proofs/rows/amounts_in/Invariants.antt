use Rattle.std.proofs.Common.{◌≡◌, ◌++◌, drop}
use Rattle.cf_books_month.specs.Rows.{amounts_in}
use Rattle.cf_books_month.proofs.rows.amounts_in.Given as goal

-- what was taken, and what is still to come
abbrev pub invariant-loop-row : goal.invariant-loop-row
invariant-loop-row l = l.amounts.items ++ amounts_in (drop l.row-index l.rows) ≡ amounts_in l.rows
