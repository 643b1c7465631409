use Rattle.std.proofs.Common.{◌≡◌, ◌++◌, drop, flat_map}
use Rattle.cf_statements.specs.Budget.{fund_rows}
use Rattle.cf_statements.proofs.budget.comparison.Given as goal

-- what was added, and what is still to come
abbrev pub invariant-loop-fund : goal.invariant-loop-fund
invariant-loop-fund g l = l.rows.items ++ flat_map (fund_rows (g.F.Figures.plan l.figures) (g.F.Figures.sums l.figures) l.year) (drop l.fund-index l.funds)
    ≡ flat_map (fund_rows (g.F.Figures.plan l.figures) (g.F.Figures.sums l.figures) l.year) l.funds
