-- What the register tells of an asset.
use Rattle.std.specs.Prelude.{ℕ, List, Option, None, option_map}
use Rattle.cf_assets.specs.declared.assets.AssetNow.{AssetNow}
use Rattle.cf_model.specs.Common.{Read, Shown, Asset, depreciation, asset_shown, asset_at}
use Rattle.cf_calls.specs.declared.read.Read.TheVariants as read

-- an asset's cost and function, and its depreciation over the closed months
abbrev pub asset_now : ℕ → Asset → AssetNow
asset_now closed a =
    record { cost = a.cost; depreciation = depreciation closed a; function = a.function }

abbrev pub asset_now_at : ℕ → ℕ → List Asset → Option AssetNow
asset_now_at closed number assets = option_map (asset_now closed) (asset_at number assets)

-- what a look at an asset shows
abbrev pub look_shown : ℕ → List Asset → Read → Option Shown
look_shown closed assets (read.Asset number) = asset_shown number closed assets
look_shown closed assets _ = None
