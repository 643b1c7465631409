use Rattle.std.proofs.Common.{◌≡◌, false, drop}
use Rattle.cf_books.specs.Lines.{line_rows}
use Rattle.cf_books_lists.specs.Records.{rows_text}
use Rattle.cf_books_lists.specs.Rows.{added, none_written}
use Rattle.cf_books.proofs.lines.lines_text.Given as goal

-- what was written, and what is still to come
abbrev pub invariant-loop-line : goal.invariant-loop-line
invariant-loop-line l = record {
  text : added l.out (rows_text l.out.csv (line_rows l.chart l.number (drop l.line-index l.chart.lines))) ≡ added (none_written false) (rows_text false (line_rows l.chart 0 l.chart.lines));
  number : l.number ≡ l.line-index;
}
