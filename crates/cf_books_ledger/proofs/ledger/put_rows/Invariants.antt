use Rattle.std.proofs.Common.{◌≡◌, drop}
use Rattle.cf_books_lists.specs.Rows.{added}
use Rattle.cf_books_ledger.specs.Ledger.{asked_rows, nothing}
use Rattle.cf_books_ledger.proofs.ledger.put_rows.Given as goal

-- what was written, and what is still to come
abbrev pub invariant-loop-row : goal.invariant-loop-row
invariant-loop-row l =
    added l.sheet.out (asked_rows l.sheet.out.csv l.filter l.parties l.entries l.sheet.totals (drop l.row-index l.rows))
    ≡ added l.initial.sheet.out (asked_rows l.initial.sheet.out.csv l.filter l.parties l.entries nothing l.rows)
