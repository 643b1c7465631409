use Rattle.std.proofs.Common.{◌≡◌, ◌++◌, drop}
use Rattle.cf_statements.specs.Operating.{revenue_rows}
use Rattle.cf_statements.proofs.operating.put_revenues.Given as goal

-- what was added, and what is still to come
abbrev pub invariant-loop-source : goal.invariant-loop-source
invariant-loop-source g l = l.rows.items ++ revenue_rows (g.F.Figures.sums l.figures) l.year l.fund (drop l.source-index l.sources)
    ≡ l.initial.rows.items ++ revenue_rows (g.F.Figures.sums l.figures) l.year l.fund l.sources
