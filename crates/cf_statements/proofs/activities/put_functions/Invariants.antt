use Rattle.std.proofs.Common.{◌≡◌, ◌++◌, drop}
use Rattle.cf_statements.specs.Activities.{function_rows}
use Rattle.cf_statements.proofs.activities.put_functions.Given as goal

-- what was added, and what is still to come
abbrev pub invariant-loop-function : goal.invariant-loop-function
invariant-loop-function g l = l.rows.items ++ function_rows (g.F.Figures.sums l.figures) l.year l.sources (drop l.function-index l.functions)
    ≡ l.initial.rows.items ++ function_rows (g.F.Figures.sums l.figures) l.year l.sources l.functions
