-- What the close of a month charges, function by function.
use Rattle.std.specs.Prelude.{◌≡◌, ◌≢◌, ℕ, ◌+◌, ◌==◌, ◌<◌, Bool, true, false, not, if◌then◌else◌, List, length, slice_index_or}
use Rattle.std.specs.List.{filter}
use Rattle.cf_model.specs.Common.{Function, Asset, charge, is_leased, function_charge}

-- the assets that are leased, or those that aren't
abbrev pub is_kind : Bool → Asset → Bool
is_kind true a = is_leased a.origin
is_kind false a = not (is_leased a.origin)

abbrev pub of_kind : Bool → List Asset → List Asset
of_kind is_lease assets = filter (is_kind is_lease) assets

-- what the close of the next month charges for an asset of the kind
abbrev pub charge_in : Bool → ℕ → Asset → ℕ
charge_in is_lease closed a = if is_kind is_lease a then charge closed a else 0

-- the sum of the function of this id is an amount more, and the others stay
abbrev pub AddsTo : ℕ → ℕ → List Function → List ℕ → List ℕ → Type 0
AddsTo id amount functions old new = (k : ℕ) (d : Function) → k < length functions
    → slice_index_or new k 0
    ≡ slice_index_or old k 0 + (if id == (slice_index_or functions k d).id then amount else 0)

-- each sum is what is charged to the function of its place in the chart's table (GASB Statement 34:
-- depreciation by function)
abbrev pub AreCharges : ℕ → List Asset → List Function → List ℕ → Type 0
AreCharges closed assets functions sums = (k : ℕ) (d : Function) → k < length functions
    → slice_index_or sums k 0 ≡ function_charge closed assets (slice_index_or functions k d).id

-- no function has an id, or the one at a place has it
abbrev pub HasNot : ℕ → List Function → Type 0
HasNot id functions = (k : ℕ) (d : Function) → k < length functions
    → (slice_index_or functions k d).id ≢ id

pub record StandsAt (id : ℕ) (functions : List Function) (place : ℕ) : Type 0 where
  pub within : place < length functions
  pub is : (d : Function) → (slice_index_or functions place d).id ≡ id
