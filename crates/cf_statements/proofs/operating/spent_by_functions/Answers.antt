use Rattle.std.proofs.Common.{true, refl, rules}
use Rattle.cf_chart.specs.declared.rows.Function.{Function}
use Rattle.cf_statements.specs.Operating.{spent_on}
use Rattle.cf_statements.proofs.Next.{next_counted}
use Rattle.cf_statements.proofs.operating.spent_by_functions.Goals as goal

pub loop-function-preserved : goal.loop-function-preserved
loop-function-preserved g c =
    let f = spent_on (g.F.Figures.sums c.args.figures.now) c.args.year c.args.fund in (
      next_counted (λ (x : Function). true) f c.args.functions.now c.loop-function.function-index c.function-item.result _ _ _ c.loop-function-test.true c.function-item.is refl (search rules)
          c.loop-function.invariant.0,
      search rules,
    )
