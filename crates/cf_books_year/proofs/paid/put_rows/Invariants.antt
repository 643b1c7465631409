use Rattle.std.proofs.Common.{◌≡◌, None, drop}
use Rattle.cf_books_lists.specs.Rows.{added}
use Rattle.cf_books_payments.specs.Entering.{sum_at}
use Rattle.cf_books_year.specs.Paid.{rows_text}
use Rattle.cf_books_year.proofs.paid.put_rows.Given as goal

-- what was written, and what is still to come
abbrev pub invariant-loop-row : goal.invariant-loop-row
invariant-loop-row l =
    added l.out (rows_text l.out.csv l.entries (sum_at l.totals) l.before (drop l.row-index l.rows))
    ≡ added l.initial.out (rows_text l.initial.out.csv l.entries (sum_at l.totals) None l.rows)
