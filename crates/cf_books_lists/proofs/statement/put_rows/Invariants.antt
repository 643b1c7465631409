use Rattle.std.proofs.Common.{◌≡◌, [], drop}
use Rattle.cf_books_lists.specs.Statement.{rows_text}
use Rattle.cf_books_lists.specs.Rows.{added}
use Rattle.cf_books_lists.proofs.statement.put_rows.Given as goal

-- what was written, and what is still to come
abbrev pub invariant-loop-row : goal.invariant-loop-row
invariant-loop-row l = record {
  text : added l.out (rows_text l.out.csv l.chart l.kind l.lines l.section l.place (drop l.row-index l.rows)) ≡ added l.initial.out (rows_text l.initial.out.csv l.chart l.kind l.lines [] 0 l.rows);
  place : l.place ≡ l.row-index;
}
