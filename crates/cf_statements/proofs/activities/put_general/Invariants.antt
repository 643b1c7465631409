use Rattle.std.proofs.Common.{◌≡◌, ◌++◌, drop}
use Rattle.cf_statements.specs.Activities.{general_rows}
use Rattle.cf_statements.proofs.activities.put_general.Given as goal

-- what was added, and what is still to come
abbrev pub invariant-loop-source : goal.invariant-loop-source
invariant-loop-source g l = l.rows.items ++ general_rows (g.F.Figures.sums l.figures) l.year (drop l.source-index l.sources)
    ≡ l.initial.rows.items ++ general_rows (g.F.Figures.sums l.figures) l.year l.sources
