use Rattle.std.proofs.Common.{◌≡◌, ◌*◌, ◌^◌, drop}
use Rattle.cf_statements.specs.Activities as spec
use Rattle.cf_statements.specs.Activities.{AreWithin}
use Rattle.cf_statements.proofs.activity.of_functions.Given as goal

-- what was summed, and what is still to come; each summand is small
abbrev pub invariant-loop-function : goal.invariant-loop-function
invariant-loop-function g l = (spec.plus l.total (spec.of_functions (g.F.Figures.sums l.figures) l.year l.sources (drop l.function-index l.functions))
    ≡ spec.of_functions (g.F.Figures.sums l.figures) l.year l.sources l.functions)
    × AreWithin (l.function-index * (257 * 2 ^ 105)) l.total
