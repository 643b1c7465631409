use Rattle.cf_orders.specs.Steps.{IsChangedIn, cancelled_row}
use Rattle.cf_orders.proofs.order_items.cancel_all.Given as goal

abbrev pub invariant-loop-k : goal.invariant-loop-k
invariant-loop-k l = IsChangedIn (cancelled_row) (record { first = l.fn.extent.first; end = l.k }) l.fn.items.items l.items.items
