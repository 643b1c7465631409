use Rattle.std.proofs.Common.{◌≡◌, ◌≤◌, ◌+◌, length, drop, filter}
use Rattle.cf_chart.specs.Common.{object_at}
use Rattle.cf_model.specs.Common.{is_capital}
use Rattle.cf_registers.proofs.made.capital_items.Given as goal

abbrev pub invariant-loop-item : goal.invariant-loop-item
invariant-loop-item l = record {
  count :
      l.count + length (filter (λ i. is_capital (object_at l.chart i.account.object)) (drop l.item-index l.items))
      ≡ length (filter (λ i. is_capital (object_at l.chart i.account.object)) l.items);
  few : l.count ≤ l.item-index;
}
