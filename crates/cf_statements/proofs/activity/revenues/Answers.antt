use Rattle.std.proofs.Common.{rules}
use Rattle.cf_chart.specs.declared.rows.RevenueSource.{RevenueSource}
use Rattle.cf_statements.specs.Activities.{is_in, revenue}
use Rattle.cf_statements.proofs.Next.{next_counted, next_passed}
use Rattle.cf_statements.proofs.activity.revenues.Goals as goal
use Rattle.cf_statements.proofs.activity.revenues.Goals.{then-is_in, else-is_in}

pub loop-source-preserved : goal.loop-source-preserved
loop-source-preserved g c =
    let test = λ (s : RevenueSource). is_in c.args.class s.kind in
    let f = revenue (g.F.Figures.sums c.args.figures.now) c.args.year in
    let i = c.loop-source.source-index in
    elim c.if-is_in.branch [
      | then-is_in w ↦ (next_counted test f c.args.sources.now i c.source-item.result _ _ _ c.loop-source-test.true c.source-item.is (search rules) (search rules) c.loop-source.invariant.0, search rules)
      | else-is_in w ↦ rw w.total-is (next_passed test f c.args.sources.now i c.source-item.result _ _ c.loop-source-test.true c.source-item.is (search rules) c.loop-source.invariant.0, search rules)
    ]
