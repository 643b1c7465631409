-- What each asset adds to the amounts of the fiscal years, in cents (GASB Statement 34: the rows of
-- the reconciliation).
use Rattle.std.specs.Prelude.{ℕ, ◌+◌, ◌-◌, Bool, List, not, if◌then◌else◌, ◌==◌, ◌&&◌, is_some}
use Rattle.cf_assets.specs.declared.rows.AssetRow.{AssetRow}
use Rattle.cf_register_parts.specs.Years.{cell_of, with_cell}
use Rattle.cf_model.specs.Common.{Asset, depreciation, voucher_of, is_given, is_leased, is_void, is_disposed_in}

-- what a voucher bought in a year, if it isn't void
abbrev pub bought_in : ℕ → Asset → ℕ
bought_in year a = if is_some (voucher_of a.origin) && (a.year == year) && not (is_void a.stage)
    then a.cost else 0

-- what was given in a year
abbrev pub given_in : ℕ → Asset → ℕ
given_in year a = if is_given a.origin && (a.year == year) then a.cost else 0

-- what was leased in a year
abbrev pub let_in : ℕ → Asset → ℕ
let_in year a = if is_leased a.origin && (a.year == year) then a.cost else 0

-- the book value of what was disposed of in a year
abbrev pub book_in : ℕ → ℕ → Asset → ℕ
book_in closed year a = if is_disposed_in year a.stage then a.cost - depreciation closed a else 0

-- the amounts with the cost of a row in its year, where it counts among them
abbrev pub with_cost : Bool → AssetRow → List ℕ → List ℕ
with_cost counts r cells =
    if counts then with_cell cells r.year (cell_of cells r.year + r.cost) else cells
