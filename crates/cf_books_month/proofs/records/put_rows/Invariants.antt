use Rattle.std.proofs.Common.{◌≡◌, drop}
use Rattle.cf_books_lists.specs.Rows.{added}
use Rattle.cf_books_month.specs.Records.{rows_text}
use Rattle.cf_books_month.proofs.records.put_rows.Given as goal

-- what was written, and what is still to come
abbrev pub invariant-loop-row : goal.invariant-loop-row
invariant-loop-row l =
    added l.out (rows_text l.out.csv l.chart (drop l.row-index l.rows)) ≡ added l.initial.out (rows_text l.initial.out.csv l.chart l.rows)
