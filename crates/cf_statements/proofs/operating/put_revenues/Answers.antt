use Rattle.std.proofs.Common.{[], ◌∷◌, rules, if◌then◌else◌, ◌==◌}
use Rattle.cf_chart.specs.declared.rows.RevenueSource.{RevenueSource}
use Rattle.cf_statements.specs.Sums.{single}
use Rattle.cf_statements.specs.Budget.{fund_revenue}
use Rattle.cf_statements.proofs.Next.{next_flat}
use Rattle.cf_statements.proofs.operating.put_revenues.Goals as goal
use Rattle.cf_statements.proofs.operating.put_revenues.Goals.{then-source-fund+in_ok-put_single, else-source-fund}

pub loop-source-preserved : goal.loop-source-preserved
loop-source-preserved g c =
    let f = λ (s : RevenueSource). if s.fund == c.args.fund then single s.name (fund_revenue (g.F.Figures.sums c.args.figures.now) c.args.year s) ∷ [] else [] in
    let i = c.loop-source.source-index in
    elim c.if-source-fund.branch [
      | then-source-fund+in_ok-put_single w ↦ rw w.rows-is
          (next_flat f c.args.sources.now i c.source-item.result c.loop-source.rows.items w.put_single.new.rows.items _ c.loop-source-test.true c.source-item.is (search rules) c.loop-source.invariant)
      | else-source-fund w ↦ rw w.rows-is
          (next_flat f c.args.sources.now i c.source-item.result c.loop-source.rows.items c.loop-source.rows.items _ c.loop-source-test.true c.source-item.is (search rules) c.loop-source.invariant)
    ]
