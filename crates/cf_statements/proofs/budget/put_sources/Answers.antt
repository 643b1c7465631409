use Rattle.std.proofs.Common.{[], ◌∷◌, if◌then◌else◌, ◌==◌, rules}
use Rattle.cf_chart.specs.declared.rows.RevenueSource.{RevenueSource}
use Rattle.cf_statements.specs.Budget.{source_row}
use Rattle.cf_statements.proofs.Next.{next_flat}
use Rattle.cf_statements.proofs.budget.put_sources.Goals as goal
use Rattle.cf_statements.proofs.budget.put_sources.Goals.{then-source-fund+in_ok-put_source, else-source-fund}

pub loop-source-preserved : goal.loop-source-preserved
loop-source-preserved g c =
    let f = λ (s : RevenueSource). if s.fund == c.args.fund then source_row (g.F.Figures.sums c.args.figures.now) c.args.year s ∷ [] else [] in
    let i = c.loop-source.source-index in
    elim c.if-source-fund.branch [
      | then-source-fund+in_ok-put_source w ↦ rw w.rows-is
          (next_flat f c.args.sources.now i c.source-item.result c.loop-source.rows.items w.put_source.new.rows.items _ c.loop-source-test.true c.source-item.is (search rules) c.loop-source.invariant)
      | else-source-fund w ↦ rw w.rows-is
          (next_flat f c.args.sources.now i c.source-item.result c.loop-source.rows.items c.loop-source.rows.items _ c.loop-source-test.true c.source-item.is (search rules) c.loop-source.invariant)
    ]
