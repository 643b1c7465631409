use Rattle.std.proofs.Common.{rules, ◌==◌}
use Rattle.cf_chart.specs.declared.rows.RevenueSource.{RevenueSource}
use Rattle.cf_statements.specs.Budget.{fund_revenue}
use Rattle.cf_statements.proofs.Next.{next_counted, next_passed}
use Rattle.cf_statements.proofs.operating.total_revenues.Goals as goal
use Rattle.cf_statements.proofs.operating.total_revenues.Goals.{then-source-fund, else-source-fund}

pub loop-source-preserved : goal.loop-source-preserved
loop-source-preserved g c =
    let test = λ (s : RevenueSource). s.fund == c.args.fund in
    let f = fund_revenue (g.F.Figures.sums c.args.figures.now) c.args.year in
    let i = c.loop-source.source-index in
    elim c.if-source-fund.branch [
      | then-source-fund w ↦ (next_counted test f c.args.sources.now i c.source-item.result _ _ _ c.loop-source-test.true c.source-item.is (search rules) (search rules) c.loop-source.invariant.0, search rules)
      | else-source-fund w ↦ rw w.total-is (next_passed test f c.args.sources.now i c.source-item.result _ _ c.loop-source-test.true c.source-item.is (search rules) c.loop-source.invariant.0, search rules)
    ]
