use Rattle.std.proofs.Common.{◌≡◌, ◌≤◌, ◌*◌, ◌^◌, ◌+ℤ◌, drop, unsigned_abs}
use Rattle.cf_statements.specs.Operating.{total_revenues}
use Rattle.cf_statements.proofs.operating.total_revenues.Given as goal

-- what was summed, and what is still to come; each summand is small
abbrev pub invariant-loop-source : goal.invariant-loop-source
invariant-loop-source g l = (l.total +ℤ total_revenues (g.F.Figures.sums l.figures) l.year l.fund (drop l.source-index l.sources)
    ≡ total_revenues (g.F.Figures.sums l.figures) l.year l.fund l.sources)
    × (unsigned_abs l.total ≤ l.source-index * 2 ^ 105)
