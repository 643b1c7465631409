use Rattle.std.proofs.Common.{◌≡◌, ◌++◌, drop, flat_map}
use Rattle.cf_text.specs.Statement.{row_line}
use Rattle.cf_text.proofs.lines.put_statement.Given as goal

-- what was added, and what is still to come
abbrev pub invariant-loop-row : goal.invariant-loop-row
invariant-loop-row l = l.out.items ++ flat_map row_line (drop l.row-index l.rows) ≡ l.initial.out.items ++ flat_map row_line l.rows
