use Rattle.std.proofs.Common.{◌≡◌, ◌++◌, drop}
use Rattle.cf_books_month.specs.Rows.{line_rows}
use Rattle.cf_books_month.proofs.rows.line_rows.Given as goal

-- what was taken, and what is still to come
abbrev pub invariant-loop-line : goal.invariant-loop-line
invariant-loop-line l = record {
  rows : l.rows.items ++ line_rows l.sums.rest.now.plan l.sums.rest.now.entries l.sums.month l.year l.fund l.number (drop l.line-index l.lines)
      ≡ line_rows l.sums.rest.now.plan l.sums.rest.now.entries l.sums.month l.year l.fund 0 l.lines;
  number : l.number ≡ l.line-index;
}
