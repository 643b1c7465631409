-- The rows of capital assets and right-to-use assets in the change of a fiscal year (GASB Statement
-- 34).
use Rattle.std.specs.Prelude.{ℕ, List, pos, ◌-ℤ◌}
use Rattle.cf_assets.specs.declared.changes.AssetChanges.{AssetChanges}
use Rattle.cf_chart.specs.Common.{Plan}
use Rattle.cf_model.specs.Common.{Asset, leased, owned, outlay, donated, leased_in, depreciated_in, book_value, int_sum}

-- each row as it is added
abbrev pub asset_changes : Plan → ℕ → ℕ → List Asset → AssetChanges
asset_changes plan closed year assets = record {
  outlay = int_sum (outlay year) assets;
  donated = int_sum (donated year) assets;
  right_to_use = int_sum (leased_in year) assets;
  depreciation = pos 0 -ℤ int_sum (depreciated_in plan closed year) (owned assets);
  amortization = pos 0 -ℤ int_sum (depreciated_in plan closed year) (leased assets);
  disposals = pos 0 -ℤ int_sum (book_value closed year) assets;
}
