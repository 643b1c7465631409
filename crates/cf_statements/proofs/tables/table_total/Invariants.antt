use Rattle.std.proofs.Common.{◌≡◌, ◌≤◌, ◌*◌, ◌^◌, ◌+ℤ◌, drop, unsigned_abs}
use Rattle.cf_statements.specs.Tables.{balance, total_of}
use Rattle.cf_statements.proofs.tables.table_total.Given as goal

-- what was summed, and what is still to come; each summand is small
abbrev pub invariant-loop-row : goal.invariant-loop-row
invariant-loop-row g l = (l.total +ℤ total_of (balance (g.F.Figures.sums l.figures) l.year l.of) (drop l.row-index l.table)
    ≡ total_of (balance (g.F.Figures.sums l.figures) l.year l.of) l.table)
    × (unsigned_abs l.total ≤ l.row-index * 2 ^ 105)
