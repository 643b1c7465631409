use Rattle.std.proofs.Common.{◌≡◌, ◌++◌, drop}
use Rattle.cf_books_lists.specs.Statement.{sections_lines}
use Rattle.cf_books_lists.proofs.statement.put_sections.Given as goal

-- what was appended, and what is still to come
abbrev pub invariant-loop-fund : goal.invariant-loop-fund
invariant-loop-fund l = l.out.items ++ sections_lines l.chart l.year (drop l.fund-index l.funds) ≡ l.initial.out.items ++ sections_lines l.chart l.year l.funds
