use Rattle.cf_office_rows.specs.Rolls.{order_rows}
use Rattle.cf_office_rows.proofs.Gathered.{numbers_more}
use Rattle.cf_office_rows.proofs.rolls.put_orders.Goals as goal

pub loop-before-preserved : goal.loop-before-preserved
loop-before-preserved c = numbers_more (order_rows c.args.chart.now c.args.place c.args.year c.args.orders.now.documents.items) c.loop-before.before c.loop-before.out.items c.put_order.new.out.items _ c.loop-before.invariant c.in_ok-put_order.ensures
