use Rattle.std.proofs.Common.{arith}
use Rattle.cf_orders.proofs.Ranges.{changed_start, changed_more, changed_end}
use Rattle.cf_orders.proofs.order_items.cancel_all.Goals as goal

pub loop-k-init : goal.loop-k-init
loop-k-init c = changed_start _ _ _

pub loop-k-preserved : goal.loop-k-preserved
loop-k-preserved c = changed_more _ _ c.loop-k.k _ _ c.index.result.now _ c.loop-k.invariant c.loop-k.auto.k (omega (arith, c.loop-k-test.true, c.requires.within)) c.index.ensures (c.cancelled.ensures)

pub returns : goal.returns
returns c = changed_end _ c.args.extent _ _ _ (omega (arith, c.requires.ordered)) c.loop-k.invariant
