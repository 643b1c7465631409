-- What contracts see of the assets by number, and what they keep.
use Rattle.std.specs.Prelude.{◌≡◌, ℕ, ◌+◌, ◌<◌, ◌≤◌, true, List, length, slice_index_or, slice_set, is_some, zero, suc}
use Rattle.cf_base.specs.Common.{last_fiscal_year, most_cents}
use Rattle.cf_assets.specs.declared.rows.AssetRow.{AssetRow}
use Rattle.cf_assets.specs.declared.rows.StageNow.TheVariants.{Held}
use Rattle.cf_model.specs.Common.{Asset, Stage, depreciation, voucher_of}
use Rattle.cf_model.specs.Assets.{held}

pub record Inventory : Type 0 where
  pub assets : List Asset
  -- how many months are closed
  pub closed : ℕ
  -- for how many assets, and for how many months, there is memory
  pub room : ℕ
  pub months : ℕ

-- assets have the numbers 1, 2, 3 ..
abbrev pub AreNumbered : List Asset → Type 0
AreNumbered assets = (k : ℕ) (d : Asset) → k < length assets
    → (slice_index_or assets k d).number ≡ k + 1

-- no cost is above the largest amount
abbrev pub AreCheap : List Asset → Type 0
AreCheap assets = (k : ℕ) (d : Asset) → k < length assets
    → (slice_index_or assets k d).cost ≤ most_cents

-- each is of a fiscal year that is kept
abbrev pub AreKept : List Asset → Type 0
AreKept assets = (k : ℕ) (d : Asset) → k < length assets → 1970 ≤ (slice_index_or assets k d).year

-- the asset at a place, in another stage
abbrev pub staged : Stage → Asset → Asset
staged stage a = record a { stage = stage }

-- one asset is in another stage, and all else stays
abbrev pub StagesOne : ℕ → Stage → List Asset → List Asset → Type 0
StagesOne at stage old new = (d : Asset)
    → new ≡ slice_set old at (staged stage (slice_index_or old at d))

-- a new asset: it has the next number, is held, and serves from a month that isn't closed
pub record IsNew (r : AssetRow) (i : Inventory) : Type 0 where
  pub number : r.number ≡ length i.assets + 1
  pub held : r.stage ≡ Held
  pub cost : r.cost ≤ most_cents
  pub from : 1970 ≤ r.year
  pub to : r.year ≤ last_fiscal_year
  pub early : i.closed ≤ r.service

-- the asset at a place is held
abbrev pub IsHeldAt : ℕ → Inventory → Type 0
IsHeldAt at i = (d : Asset) → (slice_index_or i.assets at d).stage ≡ held

-- .. was bought by a voucher, and nothing was charged for it
pub record IsFreshAt (at : ℕ) (i : Inventory) : Type 0 where
  pub held : IsHeldAt at i
  pub bought : (d : Asset) → is_some (voucher_of (slice_index_or i.assets at d).origin) ≡ true
  pub none : (d : Asset) → depreciation i.closed (slice_index_or i.assets at d) ≡ 0

-- what stands for so many closed months; for none, nothing
abbrev pub accumulated_at : List ℕ → ℕ → ℕ
accumulated_at accumulated zero = 0
accumulated_at accumulated (suc n) = slice_index_or accumulated n 0
