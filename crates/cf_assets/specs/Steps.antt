-- What the register's parts ask.
use Rattle.std.specs.Prelude.{◌≡◌, ℕ, ◌<◌, ◌≤◌, true, if◌then◌else◌, ◌==◌, List, length, slice_index_or, is_some, None}
use Rattle.cf_assets.specs.Inventory.{Inventory, staged}
use Rattle.cf_assets.specs.declared.steps.Title.{Title}
use Rattle.cf_model.specs.Common.{VoucherItem, Asset, void, disposed, voucher_of, is_number, number_of_day, voided_asset}
use Rattle.cf_chart.specs.Common.{Plan}
use Rattle.cf_base.specs.Common.{most_cents}

-- no amount is above the largest one
abbrev pub AreMost : List VoucherItem → Type 0
AreMost items = (k : ℕ) (d : VoucherItem) → k < length items
    → (slice_index_or items k d).account.amount ≤ most_cents

-- an asset serves from the month of its day
abbrev pub IsTitled : Plan → Title → Type 0
IsTitled plan title = title.service ≡ number_of_day plan title.on

-- the asset at a place is a voucher's, and the rules let it be voided
pub record CanVoid (at : ℕ) (i : Inventory) : Type 0 where
  pub bought : (d : Asset) → is_some (voucher_of (slice_index_or i.assets at d).origin) ≡ true
  pub allowed : (d : Asset) → voided_asset i.closed (slice_index_or i.assets at d) ≡ None

-- what a void of a voucher makes of an asset, and a disposal in a year, when so many months are
-- closed
abbrev pub voids : ℕ → Asset → Asset
voids voucher a = if is_number (voucher_of a.origin) voucher then staged void a else a

abbrev pub disposes : ℕ → ℕ → ℕ → Asset → Asset
disposes number year closed a = if a.number == number then staged (disposed year closed) a else a
