use Rattle.std.proofs.Common.{◌≡◌, ◌+◌, ◌≤◌, ◌++◌, ℕ, length, drop}
use Rattle.cf_assets.specs.declared.rows.Acquired.TheVariants.{Bought}
use Rattle.cf_model.specs.Common.{bought}
use Rattle.cf_assets.proofs.steps.buy_all.Given as goal

abbrev pub invariant-loop-item : goal.invariant-loop-item
invariant-loop-item l = record {
  assets : (n : ℕ) → l.title.acquired ≡ Bought n →
      l.inventory.assets ++ bought l.chart n l.title.on l.title.year (length l.inventory.assets + 1) (drop l.item-index l.items)
      ≡ l.fn.inventory.assets ++ bought l.chart n l.title.on l.title.year (length l.fn.inventory.assets + 1) l.items;
  closed : l.inventory.closed ≡ l.fn.inventory.closed;
  room : length l.items ≤ l.inventory.room + l.item-index;
  most : length l.inventory.assets ≤ length l.fn.inventory.assets + l.item-index;
}
