use Rattle.std.proofs.Common.{rules}
use Rattle.cf_chart.specs.declared.rows.Function.{Function}
use Rattle.cf_statements.specs.Activities.{activity_of, activity_row}
use Rattle.cf_statements.proofs.Next.{next_mapped}
use Rattle.cf_statements.proofs.activities.put_functions.Goals as goal

pub loop-function-preserved : goal.loop-function-preserved
loop-function-preserved g c =
    let f = λ (x : Function). activity_row x.name (activity_of (g.F.Figures.sums c.args.figures.now) c.args.year c.args.sources.now x.id) in
    next_mapped f c.args.functions.now c.loop-function.function-index c.function-item.result c.loop-function.rows.items c.put_activity.new.rows.items _ c.loop-function-test.true c.function-item.is
    (search rules) c.loop-function.invariant
