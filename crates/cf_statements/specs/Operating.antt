-- Revenues, expenditures and changes in fund balances (GASB Statement 34: current financial
-- resources): the posts of the year alone.
use Rattle.std.specs.Prelude.{ℕ, ℤ, true, ◌+◌, ◌==◌, ◌+ℤ◌, ◌-ℤ◌, if◌then◌else◌, List, [], ◌∷◌, ◌++◌, map, flat_map, neg_ℤ, codes}
use Rattle.cf_calls.specs.declared.reply.Row.{Row}
use Rattle.cf_chart.specs.Common.{Plan}
use Rattle.cf_chart.specs.declared.rows.Function.{Function}
use Rattle.cf_chart.specs.declared.rows.Fund.{Fund}
use Rattle.cf_chart.specs.declared.rows.RevenueSource.{RevenueSource}
use Rattle.cf_statements.specs.Budget.{fund_revenue}
use Rattle.cf_statements.specs.Sums.{Sums, heading, in_year, single, sum_where}

-- an account's row, and that of an account which is usually a credit, with its sign turned
abbrev pub use_row : Sums → ℕ → ℕ → List ℕ → ℕ → Row
use_row sums year fund label account = single label (in_year sums year fund account)

abbrev pub source_of : Sums → ℕ → ℕ → ℕ → ℤ
source_of sums year fund account = neg_ℤ (in_year sums year fund account)

abbrev pub source_row : Sums → ℕ → ℕ → List ℕ → ℕ → Row
source_row sums year fund label account = single label (source_of sums year fund account)

-- ---- revenues

abbrev pub revenue_rows : Sums → ℕ → ℕ → List RevenueSource → List Row
revenue_rows sums year fund sources =
    flat_map (λ s. if s.fund == fund then single s.name (fund_revenue sums year s) ∷ [] else [])
    sources

abbrev pub total_revenues : Sums → ℕ → ℕ → List RevenueSource → ℤ
total_revenues sums year fund sources =
    sum_where (λ s. s.fund == fund) (fund_revenue sums year) sources

-- ---- expenditures, by function and by what else a fund spends on

abbrev pub spent_on : Sums → ℕ → ℕ → Function → ℤ
spent_on sums year fund function = in_year sums year fund (500000 + function.id)

abbrev pub function_rows : Sums → ℕ → ℕ → List Function → List Row
function_rows sums year fund functions =
    map (λ f. single f.name (spent_on sums year fund f)) functions

abbrev pub outlay_rows : Sums → ℕ → ℕ → List Row
outlay_rows sums year fund =
    use_row sums year fund (codes "Capital outlay") 510000
    ∷ use_row sums year fund (codes "Debt principal") 520000
    ∷ use_row sums year fund (codes "Debt interest") 530000
    ∷ []

abbrev pub spent_by_functions : Sums → ℕ → ℕ → List Function → ℤ
spent_by_functions sums year fund functions =
    sum_where (λ f. true) (spent_on sums year fund) functions

abbrev pub other_expenditures : Sums → ℕ → ℕ → ℤ
other_expenditures sums year fund =
    in_year sums year fund 510000 +ℤ
    (in_year sums year fund 520000 +ℤ in_year sums year fund 530000)

abbrev pub total_expenditures : Sums → ℕ → ℕ → List Function → ℤ
total_expenditures sums year fund functions =
    spent_by_functions sums year fund functions +ℤ other_expenditures sums year fund

-- ---- other financing sources and uses: transfers out are a debit, and are subtracted

abbrev pub financing_rows : Sums → ℕ → ℕ → List Row
financing_rows sums year fund =
    source_row sums year fund (codes "Transfers in") 600001
    ∷ use_row sums year fund (codes "Transfers out") 610001
    ∷ source_row sums year fund (codes "Debt proceeds") 600002
    ∷ source_row sums year fund (codes "Leases issued") 600004
    ∷ source_row sums year fund (codes "Sale of capital assets") 600003
    ∷ []

abbrev pub net_transfers : Sums → ℕ → ℕ → ℤ
net_transfers sums year fund = source_of sums year fund 600001 -ℤ in_year sums year fund 610001

-- debt, sales of capital assets, and leases (GASB Statement 87)
abbrev pub other_sources : Sums → ℕ → ℕ → ℤ
other_sources sums year fund =
    (source_of sums year fund 600002 +ℤ source_of sums year fund 600003) +ℤ source_of sums year fund
    600004

abbrev pub total_financing : Sums → ℕ → ℕ → ℤ
total_financing sums year fund = net_transfers sums year fund +ℤ other_sources sums year fund

-- ---- the statement

abbrev pub net_change : Plan → Sums → ℕ → ℕ → ℤ
net_change plan sums year fund =
    (total_revenues sums year fund plan.sources -ℤ total_expenditures sums year fund plan.functions)
    +ℤ total_financing sums year fund

abbrev pub fund_rows : Plan → Sums → ℕ → Fund → List Row
fund_rows plan sums year fund =
    heading fund.name ∷ (revenue_rows sums year fund.id plan.sources
    ++ (single (codes "Total revenues") (total_revenues sums year fund.id plan.sources)
    ∷ (function_rows sums year fund.id plan.functions ++ (outlay_rows sums year fund.id
    ++ (single (codes "Total expenditures") (total_expenditures sums year fund.id plan.functions)
    ∷ (financing_rows sums year fund.id
    ++ single (codes "Net change in fund balance") (net_change plan sums year fund.id) ∷ []))))))

abbrev pub operating_rows : Plan → Sums → ℕ → List Row
operating_rows plan sums year = flat_map (fund_rows plan sums year) plan.funds
