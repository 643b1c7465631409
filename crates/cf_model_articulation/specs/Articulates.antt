-- How the statements of a fiscal year articulate: in accounting, statements articulate where the
-- same amounts stand in them (GASB Statement 34).
use Rattle.std.specs.Prelude.{◌≡◌, ℕ, ◌-◌, ◌≤◌, ℤ, pos, ◌+ℤ◌, ◌-ℤ◌, List, [], ◌∷◌, take}
use Rattle.cf_base.specs.declared.statement.Kind.TheVariants as kind
use Rattle.cf_model.specs.Common.{Entry, Row, report_rows, sums_of, int_sum}
use Rattle.cf_chart.specs.declared.rows.Fund.{Fund}
use Rattle.cf_chart.specs.Common.{Plan}
use Rattle.cf_statements.specs.Balance as balance
use Rattle.cf_statements.specs.Operating as operating
use Rattle.cf_statements.specs.Position as position
use Rattle.cf_statements.specs.Sums.{heading}
use Rattle.cf_model_articulation.specs.Comparison.{Compares}
use Rattle.cf_model_articulation.specs.ItemAccounts.{ItemsAreAccounts}
use Rattle.cf_model_articulation.specs.OpenBills.{BillsAreReceivable}
use Rattle.cf_model_articulation.specs.OpenVouchers.{VouchersAreOwed}

-- ---- rows

-- the first amount of a row
abbrev pub first_amount : List ℤ → ℤ
first_amount [] = pos 0
first_amount (a ∷ amounts) = a

abbrev pub amount_of : Row → ℤ
amount_of row = first_amount row.amounts

abbrev pub first_row : List Row → Row
first_row [] = heading []
first_row (r ∷ rows) = r

abbrev pub last_row : List Row → Row
last_row [] = heading []
last_row (r ∷ []) = r
last_row (r ∷ s ∷ rows) = last_row (s ∷ rows)

-- what rows end with, as fund balance, net position or a change of them
abbrev pub bottom_line : List Row → ℤ
bottom_line rows = amount_of (last_row rows)

abbrev pub rows_sum : List Row → ℤ
rows_sum rows = int_sum amount_of rows

-- what stands above the last row
abbrev pub rows_above : List Row → List Row
rows_above [] = []
rows_above (r ∷ []) = []
rows_above (r ∷ s ∷ rows) = r ∷ rows_above (s ∷ rows)

-- .. adds up to it
abbrev pub AddUp : List Row → Type 0
AddUp rows = rows_sum (rows_above rows) ≡ bottom_line rows

-- ---- the parts of the fund statements

-- a fund's part of the balance sheet, and that of the operating statement
abbrev pub balance_part : Plan → List Entry → ℕ → Fund → List Row
balance_part plan history year fund = balance.fund_rows (sums_of plan history) year fund

abbrev pub operating_part : Plan → List Entry → ℕ → Fund → List Row
operating_part plan history year fund = operating.fund_rows plan (sums_of plan history) year fund

abbrev pub fund_assets : Plan → List Entry → ℕ → Fund → List Row
fund_assets plan history year fund = balance.asset_rows (sums_of plan history) year fund.id

-- liabilities, and the deferred inflow of resources
abbrev pub fund_liabilities : Plan → List Entry → ℕ → Fund → List Row
fund_liabilities plan history year fund = balance.liability_rows (sums_of plan history) year fund.id

abbrev pub city_assets : Plan → List Entry → ℕ → List Row
city_assets plan history year = position.asset_rows (sums_of plan history) year

abbrev pub city_liabilities : Plan → List Entry → ℕ → List Row
city_liabilities plan history year = position.liability_rows (sums_of plan history) year

-- ---- the statements of a year

pub record Articulates (plan : Plan) (history : List Entry) (year : ℕ) : Type 0 where
  -- on the balance sheet a fund's assets are its liabilities, its deferred inflow and its fund
  -- balance ..
  pub balance_sheet : (fund : Fund) →
      rows_sum (fund_assets plan history year fund)
      ≡ rows_sum (fund_liabilities plan history year fund) +ℤ bottom_line
      (balance_part plan history year fund)
  -- .. its receivables, over all years, are what is left of its bills, and its vouchers payable the
  -- items of its open vouchers ..
  pub bills : BillsAreReceivable plan history
  pub vouchers : VouchersAreOwed plan history
  -- .. and total fund balances are those of the chart's funds
  pub total_balances : bottom_line (report_rows plan history year kind.Balance)
      ≡ int_sum (λ f. bottom_line (balance_part plan history year f)) plan.funds
  -- a fund's net change in fund balance is its fund balance less that of the balance sheet of the
  -- year before
  pub net_change : (fund : Fund) →
      bottom_line (operating_part plan history year fund)
      ≡ bottom_line (balance_part plan history year fund) -ℤ bottom_line
      (balance_part plan history (year - 1) fund)
  -- the actual amounts of the budgetary comparison are those of the operating statement
  pub comparison : Compares plan history year
  -- the city's assets are its liabilities and its net position
  pub net_position : rows_sum (city_assets plan history year)
      ≡ rows_sum (city_liabilities plan history year) +ℤ bottom_line
      (report_rows plan history year kind.Position)
  -- the change in net position is net position less that of the year before
  pub activities :
      bottom_line (report_rows plan history year kind.Activities)
      ≡ bottom_line (report_rows plan history year kind.Position) -ℤ bottom_line
      (report_rows plan history (year - 1) kind.Position)
  -- the summary reconciliation leads from the last row of the balance sheet to that of net position
  -- ..
  pub reconcile_first : first_row (report_rows plan history year kind.Reconcile)
      ≡ last_row (report_rows plan history year kind.Balance)
  pub reconcile_last : last_row (report_rows plan history year kind.Reconcile)
      ≡ last_row (report_rows plan history year kind.Position)
  pub reconcile : AddUp (report_rows plan history year kind.Reconcile)
  -- .. and each item between is what its own accounts have
  pub items : ItemsAreAccounts plan history year
  -- .. and that of the changes from the net changes of the chart's funds to the last row of the
  -- activities
  pub changes_first : amount_of (first_row (report_rows plan history year kind.Changes))
      ≡ int_sum (λ f. bottom_line (operating_part plan history year f)) plan.funds
  pub changes_last : last_row (report_rows plan history year kind.Changes)
      ≡ last_row (report_rows plan history year kind.Activities)
  pub changes : 1 ≤ year → AddUp (report_rows plan history year kind.Changes)

-- at every place of a history the statements of each fiscal year articulate
abbrev pub AllArticulate : Plan → List Entry → Type 0
AllArticulate plan history = (n year : ℕ) → Articulates plan (take n history) year
