use Rattle.std.proofs.Common.{◌≡◌, ℕ, ◌*◌, ◌<◌, ◌≤◌, length, take, get_or}
use Rattle.cf_model.specs.Common.{carried_to}
use Rattle.cf_orders.specs.Rows.{view_items}
use Rattle.cf_orders.proofs.orders.Orders.carried_amounts.Given as goal

-- what the rows so far carry, each at most what fits 64 bits
abbrev pub invariant-loop-k : goal.invariant-loop-k
invariant-loop-k l = record {
  len : length l.amounts.items ≡ length l.chart.lines;
  each : (n : ℕ) → n < length l.chart.lines → get_or l.amounts.items n 0 ≡ carried_to l.chart n l.year (view_items l.self-inside.charges.items (take l.k l.self-inside.items.items));
  most : (n : ℕ) → n < length l.chart.lines → get_or l.amounts.items n 0 ≤ l.k * 18446744073709551615;
}
