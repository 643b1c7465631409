use Rattle.std.proofs.Common.{◌≡◌, ◌++◌, drop, flat_map}
use Rattle.cf_statements.specs.Operating.{fund_rows}
use Rattle.cf_statements.proofs.operating.put_funds.Given as goal

-- what was added, and what is still to come
abbrev pub invariant-loop-fund : goal.invariant-loop-fund
invariant-loop-fund g l = l.rows.items ++ flat_map (fund_rows (g.F.Figures.plan l.figures) (g.F.Figures.sums l.figures) l.year) (drop l.fund-index l.funds)
    ≡ l.initial.rows.items ++ flat_map (fund_rows (g.F.Figures.plan l.figures) (g.F.Figures.sums l.figures) l.year) l.funds
