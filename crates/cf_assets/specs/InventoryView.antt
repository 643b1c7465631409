-- What the fields stand for.
use Rattle.std.specs.Prelude.{◌≡◌, ℕ, ◌+◌, ◌-◌, ◌<◌, ◌≤◌, min, List, length, map, slice_index_or, sum_by}
use Rattle.std.specs.Vec.{vec_capacity}
use Rattle.cf_base.specs.Common.{most_entries}
use Rattle.cf_assets.specs.declared.inventory.Inventory.TheInside.{Inside}
use Rattle.cf_assets.specs.Inventory.{Inventory}
use Rattle.cf_assets.specs.Rows.{view_asset, AreRows}
use Rattle.cf_assets.specs.Serving.{ServeAll}
use Rattle.cf_model.specs.Common.{Asset, depreciation}
use Rattle.cf_assets.specs.Years.{bought_in, given_in, let_in, book_in}
use Rattle.cf_register_parts.specs.Years.{AreYears}
use Rattle.cf_register_parts.specs.Limits.{most_items}

abbrev pub inventory_of : Inside → Inventory
inventory_of a = record {
  assets = map view_asset a.rows.items;
  closed = length a.accumulated.items;
  room = min (vec_capacity a.rows - length a.rows.items)
      (vec_capacity a.serving - length a.serving.items);
  months = vec_capacity a.accumulated - length a.accumulated.items;
}

-- the number after so many closed months is the depreciation of all assets over them
abbrev pub AreAccumulated : List Asset → List ℕ → Type 0
AreAccumulated assets accumulated = (n : ℕ) → n < length accumulated
    → slice_index_or accumulated n 0 ≡ sum_by (depreciation (n + 1)) assets

pub record IsSound (a : Inside) : Type 0 where
  pub few : length a.rows.items ≤ most_items
  pub months : length a.accumulated.items ≤ most_entries
  pub rows : AreRows (length a.accumulated.items) a.rows.items
  pub serving : ServeAll (length a.accumulated.items) a.rows.items a.serving.items
  pub accumulated : AreAccumulated (map view_asset a.rows.items) a.accumulated.items
  pub outlay : AreYears (λ year. sum_by (bought_in year) (map view_asset a.rows.items)) a.outlay
  pub donated : AreYears (λ year. sum_by (given_in year) (map view_asset a.rows.items)) a.donated
  pub leased : AreYears (λ year. sum_by (let_in year) (map view_asset a.rows.items)) a.leased
  pub disposals : AreYears
      (λ year. sum_by (book_in (length a.accumulated.items) year) (map view_asset a.rows.items))
      a.disposals
