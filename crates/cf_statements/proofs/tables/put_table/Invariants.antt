use Rattle.std.proofs.Common.{◌≡◌, ◌++◌, drop}
use Rattle.cf_statements.specs.Tables.{balance, rows_of}
use Rattle.cf_statements.proofs.tables.put_table.Given as goal

-- what was added, and what is still to come
abbrev pub invariant-loop-row : goal.invariant-loop-row
invariant-loop-row g l = l.rows.items ++ rows_of (balance (g.F.Figures.sums l.figures) l.year l.of) (drop l.row-index l.table)
    ≡ l.initial.rows.items ++ rows_of (balance (g.F.Figures.sums l.figures) l.year l.of) l.table
