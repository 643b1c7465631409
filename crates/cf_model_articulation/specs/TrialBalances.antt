-- The accounts of a trial balance, and that it balances: on either basis debits and credits are
-- equal (GASB Statement 34).
use Rattle.std.specs.Prelude.{◌≡◌, ℕ, ◌==◌, List, [], ◌∷◌, ◌++◌, map, pos}
use Rattle.std.specs.List.{filter}
use Rattle.cf_model.specs.Common.{Entry, Gov as GovBasis, balance_of, int_sum}
use Rattle.cf_calls.specs.declared.read.Basis.TheVariants.{Fund as FundBasis}
use Rattle.cf_chart.specs.Common.{Plan}
use Rattle.cf_post.specs.Accounts.{cash, receivables, due_from_funds, capital_assets, depreciation, right_to_use, amortization, payables, debt_due, due_to_funds, bonds, leases, accrued_interest, leave, unavailable, revenue_of, donated_to, gain, current_of, capital_outlay, principal, interest, transfers_in, proceeds, asset_sales, leases_issued, transfers_out}

-- what a fund has and owes, its revenues, its expenditures, and its other financing sources and
-- uses
abbrev pub fund_accounts : Plan → ℕ → List ℕ
fund_accounts plan fund =
    (cash ∷ receivables ∷ due_from_funds ∷ payables ∷ debt_due ∷ due_to_funds ∷ unavailable ∷ [])
    ++ (map (λ s. revenue_of s.id) (filter (λ s. s.fund == fund) plan.sources)
    ++ (map (λ f. current_of f.id) plan.functions
    ++ capital_outlay ∷ principal ∷ interest ∷ transfers_in ∷ transfers_out ∷ proceeds ∷ asset_sales
    ∷ leases_issued ∷ []))

-- what the city has and owes, its revenues, its expenses, and its gifts, interest and gains
abbrev pub gov_accounts : Plan → List ℕ
gov_accounts plan =
    (cash ∷ receivables ∷ capital_assets ∷ depreciation ∷ right_to_use ∷ amortization ∷ payables
    ∷ debt_due ∷ bonds ∷ leases ∷ accrued_interest ∷ leave ∷ [])
    ++ (map (λ s. revenue_of s.id) plan.sources
    ++ (map (λ f. current_of f.id) plan.functions
    ++ (map (λ f. donated_to f.id) plan.functions ++ interest ∷ gain ∷ [])))

-- the balances of a fund's accounts through a year sum to zero, and so do those of the city, which
-- are of no fund
pub record Balances (plan : Plan) (history : List Entry) (year : ℕ) : Type 0 where
  pub funds : (fund : ℕ)
      → int_sum (λ a. balance_of FundBasis plan year fund a history) (fund_accounts plan fund)
      ≡ pos 0
  pub whole : int_sum (λ a. balance_of GovBasis plan year 0 a history) (gov_accounts plan) ≡ pos 0
