-- What contracts see of the register.
use Rattle.std.specs.Prelude.{◌≡◌, ℕ, ◌+◌, ◌≤◌, List, length}
use Rattle.cf_model.specs.Common.{Day, Act, AssetAct, Donate, Dispose, Period, Drawn, Asset, document_year, number_of_day, Registers}
use Rattle.cf_calls.specs.declared.acts.Act.TheVariants as act
use Rattle.cf_calls.specs.declared.acts.Period.TheVariants as period
use Rattle.cf_chart.specs.Common.{Plan}

-- for how many assets, vouchers and closes of a month there is memory
pub record Room : Type 0 where
  pub assets : ℕ
  pub vouchers : ℕ
  pub months : ℕ

pub record Register : Type 0 where
  pub assets : List Asset
  -- the closed months are the first so many
  pub closed : ℕ
  -- the vouchers that were entered
  pub vouchers : ℕ
  -- the acts that were applied
  pub acts : ℕ
  pub room : Room

-- registers that have these assets, and as many closed months
pub record IsOf (s : Registers) (r : Register) : Type 0 where
  pub assets : s.assets ≡ r.assets
  pub closed : s.closed ≡ r.closed

pub record HasRoomForVoucher (items : ℕ) (room : Room) : Type 0 where
  pub assets : items ≤ room.assets
  pub voucher : 1 ≤ room.vouchers

abbrev pub HasRoomForAsset : AssetAct → Room → Type 0
HasRoomForAsset (Donate d) room = 1 ≤ room.assets
HasRoomForAsset (Dispose d) room = Unit {0}

abbrev pub HasRoomForClose : Period → Room → Type 0
HasRoomForClose (period.Month m) room = 1 ≤ room.months
HasRoomForClose (period.Year y) room = Unit {0}

-- there is memory for what an act adds
abbrev pub HasRoomFor : Act → Room → Type 0
HasRoomFor (act.Voucher v) room = HasRoomForVoucher (length v.items) room
HasRoomFor (act.Asset what) room = HasRoomForAsset what room
HasRoomFor (act.Close p) room = HasRoomForClose p room
HasRoomFor (act.Lease l) room = 1 ≤ room.assets
HasRoomFor _ room = Unit {0}

-- ---- numbers

pub record IsNextVoucher (drawn : Drawn) (r : Register) : Type 0 where
  pub voucher : drawn.number ≡ r.vouchers + 1
  pub asset : drawn.second ≡ length r.assets + 1

abbrev pub IsNextAsset : AssetAct → Drawn → Register → Type 0
IsNextAsset (Donate d) drawn r = drawn.number ≡ length r.assets + 1
IsNextAsset (Dispose d) drawn r = Unit {0}

-- a voucher has the next voucher's number and the next asset's, and a gift and a lease the next
-- asset's
abbrev pub IsNext : Act → Drawn → Register → Type 0
IsNext (act.Voucher v) drawn r = IsNextVoucher drawn r
IsNext (act.Asset what) drawn r = IsNextAsset what drawn r
IsNext (act.Lease l) drawn r = drawn.number ≡ length r.assets + 1
IsNext _ drawn r = Unit {0}

abbrev pub asset_number : AssetAct → ℕ → ℕ
asset_number (Donate d) next = next
asset_number (Dispose d) next = 0

-- the numbers that an act draws of assets: a gift and a lease their own, and a voucher that of its
-- first asset, or of the next one where it has none
abbrev pub asset_draws : List Asset → Act → Drawn
asset_draws assets (act.Voucher v) = record { number = 0; second = length assets + 1 }
asset_draws assets (act.Asset what) =
    record { number = asset_number what (length assets + 1); second = 0 }
asset_draws assets (act.Lease l) = record { number = length assets + 1; second = 0 }
asset_draws assets _ = record { number = 0; second = 0 }

-- ---- days

-- the month of an act's day isn't closed, and its document's year is one that the office keeps
pub record IsTimely (plan : Plan) (closed : ℕ) (on : Day) (act : Act) : Type 0 where
  pub early : closed ≤ number_of_day plan on
  pub year : plan.first_year ≤ document_year plan on act
