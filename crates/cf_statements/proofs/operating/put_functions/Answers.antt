use Rattle.std.proofs.Common.{rules}
use Rattle.cf_chart.specs.declared.rows.Function.{Function}
use Rattle.cf_statements.specs.Operating.{spent_on}
use Rattle.cf_statements.specs.Sums.{single}
use Rattle.cf_statements.proofs.Next.{next_mapped}
use Rattle.cf_statements.proofs.operating.put_functions.Goals as goal

pub loop-function-preserved : goal.loop-function-preserved
loop-function-preserved g c =
    let f = λ (x : Function). single x.name (spent_on (g.F.Figures.sums c.args.figures.now) c.args.year c.args.fund x) in
    next_mapped f c.args.functions.now c.loop-function.function-index c.function-item.result c.loop-function.rows.items c.put_single.new.rows.items _ c.loop-function-test.true c.function-item.is
    (search rules) c.loop-function.invariant
