use Rattle.std.proofs.Common.{◌≡◌, ◌++◌, drop}
use Rattle.cf_statements.specs.Operating.{function_rows}
use Rattle.cf_statements.proofs.operating.put_functions.Given as goal

-- what was added, and what is still to come
abbrev pub invariant-loop-function : goal.invariant-loop-function
invariant-loop-function g l = l.rows.items ++ function_rows (g.F.Figures.sums l.figures) l.year l.fund (drop l.function-index l.functions)
    ≡ l.initial.rows.items ++ function_rows (g.F.Figures.sums l.figures) l.year l.fund l.functions
