-- The items between fund balances and net position (GASB Statement 34: the summary reconciliation),
-- each as the accounts that it is made of.
use Rattle.std.specs.Prelude.{◌≡◌, ℕ, List, ℤ, pos, ◌+ℤ◌, ◌-ℤ◌}
use Rattle.cf_model.specs.Common.{Entry, recon_shown, sums_of, int_sum}
use Rattle.cf_chart.specs.declared.rows.Fund.{Fund}
use Rattle.cf_chart.specs.Common.{Plan}

-- a government-wide account through a year, and an account of all the chart's funds
abbrev pub city_account : Plan → List Entry → ℕ → ℕ → ℤ
city_account plan history year account = (sums_of plan history).gov year account

abbrev pub funds_account : Plan → List Entry → ℕ → ℕ → ℤ
funds_account plan history year account =
    int_sum (λ (f : Fund). (sums_of plan history).through year f.id account) plan.funds

-- each item that the reconciliation shows, which is read from the registers, is what its own
-- accounts
-- of the ledger have: assets with what was depreciated or amortised of them; what is owed with its
-- sign
-- turned, as it is shown; unavailable revenue is the funds', which the city as a whole doesn't have
pub record ItemsAreAccounts (plan : Plan) (history : List Entry) (year : ℕ) : Type 0 where
  pub capital_assets : (recon_shown plan year history).capital_assets
      ≡ city_account plan history year 150000 +ℤ city_account plan history year 159000
  pub right_to_use : (recon_shown plan year history).right_to_use
      ≡ city_account plan history year 151000 +ℤ city_account plan history year 159100
  pub unavailable : (recon_shown plan year history).unavailable
      ≡ pos 0 -ℤ funds_account plan history year 290000
  pub bonds : (recon_shown plan year history).bonds ≡ city_account plan history year 250000
  pub leases : (recon_shown plan year history).leases ≡ city_account plan history year 251000
  pub accrued_interest : (recon_shown plan year history).accrued_interest
      ≡ city_account plan history year 260000
  pub leave : (recon_shown plan year history).leave ≡ city_account plan history year 270000
