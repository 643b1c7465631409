-- What the register's rows stand for.
use Rattle.std.specs.Prelude.{◌≡◌, ℕ, ◌+◌, ◌<◌, ◌≤◌, List, length, slice_index_or}
use Rattle.cf_base.specs.Common.{last_fiscal_year, most_cents}
use Rattle.cf_assets.specs.declared.rows.AssetRow.{AssetRow}
use Rattle.cf_assets.specs.declared.rows.Acquired.{Acquired}
use Rattle.cf_assets.specs.declared.rows.Acquired.TheVariants.{Bought, Given, Leased}
use Rattle.cf_assets.specs.declared.rows.StageNow.{StageNow}
use Rattle.cf_assets.specs.declared.rows.StageNow.TheVariants.{Held, Void, Disposed}
use Rattle.cf_model.specs.Common.{Asset, Origin, purchase, gift, lease, Stage, void, disposed}
use Rattle.cf_model.specs.Assets.{held}

abbrev pub view_stage : StageNow → Stage
view_stage Held = held
view_stage Void = void
view_stage (Disposed year closed) = disposed year closed

abbrev pub view_origin : Acquired → Origin
view_origin (Bought voucher) = purchase voucher
view_origin Given = gift
view_origin Leased = lease

abbrev pub view_asset : AssetRow → Asset
view_asset r = record {
  number = r.number;
  origin = view_origin r.acquired;
  function = r.function;
  cost = r.cost;
  life = r.life;
  on = r.on;
  year = r.year;
  service = r.service;
  stage = view_stage r.stage;
}

-- an asset is disposed of when at most the months that are closed now were closed
abbrev pub IsStage : ℕ → StageNow → Type 0
IsStage closed (Disposed year months) = months ≤ closed
IsStage closed _ = Unit {0}

-- a row stands where its number says
pub record IsRow (closed k : ℕ) (r : AssetRow) : Type 0 where
  pub number : r.number ≡ k + 1
  pub cost : r.cost ≤ most_cents
  pub from : 1970 ≤ r.year
  pub to : r.year ≤ last_fiscal_year
  pub stage : IsStage closed r.stage

abbrev pub AreRows : ℕ → List AssetRow → Type 0
AreRows closed rows = (k : ℕ) (d : AssetRow) → k < length rows
    → IsRow closed k (slice_index_or rows k d)

-- no cost is above the largest amount
abbrev pub AreSmall : List AssetRow → Type 0
AreSmall rows = (k : ℕ) (d : AssetRow) → k < length rows
    → (slice_index_or rows k d).cost ≤ most_cents

-- a row of nothing
abbrev pub no_row : AssetRow
no_row = record {
  cost = 0;
  number = 0;
  acquired = Given;
  function = 0;
  life = 0;
  on = record { year = 0; month = 0; day = 0 };
  year = 0;
  service = 0;
  stage = Held;
}
