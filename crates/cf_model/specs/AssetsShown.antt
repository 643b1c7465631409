-- What a look at an asset shows.
use Rattle.std.specs.Prelude.{ℕ, List, Option, option_map}
use Rattle.cf_calls.specs.declared.shown.AssetState.{AssetState}
use Rattle.cf_calls.specs.declared.shown.AssetState.TheVariants as state
use Rattle.cf_calls.specs.declared.shown.Shown.{Shown}
use Rattle.cf_calls.specs.declared.shown.Shown.TheVariants as shown
use Rattle.cf_model.specs.Assets.{Asset, Stage, held, void, disposed, depreciation}
use Rattle.cf_model.specs.RegisterRules.{asset_at}

abbrev pub state_of : Stage → AssetState
state_of held = state.Held
state_of void = state.Void
state_of (disposed year closed) = state.Disposed

-- an asset's cost, its depreciation of closed months, and its state
abbrev pub asset_shown : ℕ → ℕ → List Asset → Option Shown
asset_shown number closed assets =
    option_map (λ a. shown.Asset a.cost (depreciation closed a) (state_of a.stage))
    (asset_at number assets)
