-- The balance sheet of the funds (GASB Statement 34: current financial resources): sums through the
-- year.
use Rattle.std.specs.Prelude.{ℕ, List, [], ◌∷◌, ◌++◌, flat_map, neg_ℤ, codes}
use Rattle.cf_calls.specs.declared.reply.Row.{Row}
use Rattle.cf_chart.specs.Common.{Plan}
use Rattle.cf_chart.specs.declared.rows.Fund.{Fund}
use Rattle.cf_statements.specs.Sums.{Sums, heading, single}

-- an account's row, and that of an account which is usually a credit, with its sign turned
abbrev pub debit_row : Sums → ℕ → ℕ → List ℕ → ℕ → Row
debit_row sums year fund label account = single label (sums.through year fund account)

abbrev pub credit_row : Sums → ℕ → ℕ → List ℕ → ℕ → Row
credit_row sums year fund label account = single label (neg_ℤ (sums.through year fund account))

abbrev pub asset_rows : Sums → ℕ → ℕ → List Row
asset_rows sums year fund =
    debit_row sums year fund (codes "Cash") 100000
    ∷ debit_row sums year fund (codes "Receivables") 110000
    ∷ debit_row sums year fund (codes "Due from other funds") 120000
    ∷ []

-- liabilities, and the deferred inflow of resources (GASB Statement 65)
abbrev pub liability_rows : Sums → ℕ → ℕ → List Row
liability_rows sums year fund =
    credit_row sums year fund (codes "Vouchers payable") 200000
    ∷ credit_row sums year fund (codes "Debt due") 210000
    ∷ credit_row sums year fund (codes "Due to other funds") 220000
    ∷ credit_row sums year fund (codes "Unavailable revenue") 290000
    ∷ []

abbrev pub balance_row : Sums → ℕ → ℕ → List ℕ → Row
balance_row sums year fund label = single label (sums.fund_balance year fund)

abbrev pub fund_rows : Sums → ℕ → Fund → List Row
fund_rows sums year fund =
    heading fund.name ∷ (asset_rows sums year fund.id ++ (liability_rows sums year fund.id
    ++ balance_row sums year fund.id (codes "Fund balance") ∷ []))

abbrev pub total_row : Sums → ℕ → List ℕ → Row
total_row sums year label = single label (sums.total year)

abbrev pub balance_rows : Plan → Sums → ℕ → List Row
balance_rows plan sums year =
    flat_map (fund_rows sums year) plan.funds ++ total_row sums year (codes "Total fund balances")
    ∷ []
