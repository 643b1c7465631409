use Rattle.std.proofs.Common.{◌≡◌, ◌≤◌, ◌*◌, ◌^◌, ◌+ℤ◌, drop, unsigned_abs}
use Rattle.cf_statements.specs.Activities as spec
use Rattle.cf_statements.proofs.activity.revenues.Given as goal

-- what was summed, and what is still to come; each summand is small
abbrev pub invariant-loop-source : goal.invariant-loop-source
invariant-loop-source g l = (l.total +ℤ spec.revenues (g.F.Figures.sums l.figures) l.year l.class (drop l.source-index l.sources)
    ≡ spec.revenues (g.F.Figures.sums l.figures) l.year l.class l.sources)
    × (unsigned_abs l.total ≤ l.source-index * 2 ^ 105)
