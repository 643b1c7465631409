use Rattle.cf_orders.specs.Steps.{IsChangedIn}
use Rattle.cf_orders.specs.RowRolls.{ended_in}
use Rattle.cf_orders.proofs.rolling.roll_extent.Given as goal

abbrev pub invariant-loop-k : goal.invariant-loop-k
invariant-loop-k l = IsChangedIn (ended_in l.chart l.year) (record { first = l.fn.extent.first; end = l.k }) l.fn.items.items l.items.items
