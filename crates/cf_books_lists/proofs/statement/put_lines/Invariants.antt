use Rattle.std.proofs.Common.{◌≡◌, ◌++◌, drop}
use Rattle.cf_books_lists.specs.Statement.{fund_lines}
use Rattle.cf_books_lists.proofs.statement.put_lines.Given as goal

-- what was appended, and what is still to come
abbrev pub invariant-loop-line : goal.invariant-loop-line
invariant-loop-line l = record {
  text : l.out.items ++ fund_lines l.chart l.year l.fund l.number (drop l.line-index l.lines) ≡ l.initial.out.items ++ fund_lines l.chart l.year l.fund 0 l.lines;
  number : l.number ≡ l.line-index;
}
