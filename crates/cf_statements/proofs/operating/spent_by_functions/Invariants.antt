use Rattle.std.proofs.Common.{◌≡◌, ◌≤◌, ◌*◌, ◌^◌, ◌+ℤ◌, drop, unsigned_abs}
use Rattle.cf_statements.specs.Operating.{spent_by_functions}
use Rattle.cf_statements.proofs.operating.spent_by_functions.Given as goal

-- what was summed, and what is still to come; each summand is small
abbrev pub invariant-loop-function : goal.invariant-loop-function
invariant-loop-function g l = (l.total +ℤ spent_by_functions (g.F.Figures.sums l.figures) l.year l.fund (drop l.function-index l.functions)
    ≡ spent_by_functions (g.F.Figures.sums l.figures) l.year l.fund l.functions)
    × (unsigned_abs l.total ≤ l.function-index * 2 ^ 105)
