use Rattle.std.proofs.Common.{arith}
use Rattle.cf_claims.proofs.Claiming.{part_fits}
use Rattle.cf_claims.proofs.eligible.eligible_sum.Goals as goal

pub overflow_add-sum : goal.overflow_add-sum
overflow_add-sum c =
    let fits = part_fits c.args.chart.now c.args.lines.now c.args.year c.args.items.now c.loop-item.item-index _ c.loop-item.sum c.eligible_item-sum.result c.loop-item-test.true
    c.loop-item.invariant c.eligible_item-sum.ensures.part c.requires in
    omega (arith, fits)
