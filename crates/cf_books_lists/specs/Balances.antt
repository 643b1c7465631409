-- A trial balance as records: on either basis, each account with its balance through a fiscal year
-- (GASB Statement 34).
use Rattle.std.specs.Prelude.{ℕ, Bool, ◌==◌, if◌then◌else◌, ℤ, unsigned_abs, List, [], ◌∷◌, ◌++◌, codes, decimal, flat_map}
use Rattle.cf_model_articulation.specs.TrialBalances.{fund_accounts, gov_accounts}
use Rattle.cf_base.specs.Common.{money_of}
use Rattle.cf_model.specs.Common.{Entry, Basis, Gov as GovBasis, balance_of}
use Rattle.cf_calls.specs.declared.read.Basis.TheVariants.{Fund as FundBasis}
use Rattle.cf_chart.specs.declared.rows.Fund.{Fund}
use Rattle.cf_chart.specs.Common.{Plan, fund_at}
use Rattle.cf_books_lists.specs.Names.{account_text as name_of, basis_word, fund_name}
use Rattle.cf_books_lists.specs.Records.{head_text, record_text}

-- the names of the columns
abbrev pub head : List (List ℕ)
head = codes "basis" ∷ codes "fund" ∷ codes "fund_name" ∷ codes "account" ∷ codes "account_name"
    ∷ codes "balance" ∷ []

abbrev pub balance_row : Plan → Basis → ℕ → ℕ → ℤ → List (List ℕ)
balance_row plan basis fund account balance =
    basis_word basis ∷ decimal fund ∷ fund_name (fund_at plan fund) ∷ decimal account
    ∷ name_of plan account ∷ money_of balance ∷ []

-- a balance of zero is left out
abbrev pub balance_text : Bool → Plan → Basis → ℕ → ℕ → ℤ → List ℕ
balance_text csv plan basis fund account balance = if unsigned_abs balance == 0 then []
    else record_text csv (balance_row plan basis fund account balance)

-- what an account comes to, by basis, fiscal year, fund and account
abbrev pub OfAccounts : Type 0
OfAccounts = Basis → ℕ → ℕ → ℕ → ℤ

abbrev pub account_text : Bool → Plan → OfAccounts → Basis → ℕ → ℕ → ℕ → List ℕ
account_text csv plan balances basis year fund account =
    balance_text csv plan basis fund account (balances basis year fund account)

abbrev pub accounts_text : Bool → Plan → OfAccounts → Basis → ℕ → ℕ → List ℕ → List ℕ
accounts_text csv plan balances basis year fund accounts =
    flat_map (account_text csv plan balances basis year fund) accounts

-- the accounts of a fund, and those of the city as a whole, which is of no fund
abbrev pub fund_text : Bool → Plan → OfAccounts → ℕ → ℕ → List ℕ
fund_text csv plan balances year fund =
    accounts_text csv plan balances FundBasis year fund (fund_accounts plan fund)

abbrev pub funds_text : Bool → Plan → OfAccounts → ℕ → List Fund → List ℕ
funds_text csv plan balances year funds =
    flat_map (λ f. fund_text csv plan balances year f.id) funds

abbrev pub trial_balance : Bool → ℕ → Plan → OfAccounts → List ℕ
trial_balance csv year plan balances =
    head_text csv head ++
    (funds_text csv plan balances year plan.funds
    ++ accounts_text csv plan balances GovBasis year 0 (gov_accounts plan))

abbrev pub balances_of : Bool → ℕ → Plan → List Entry → List ℕ
balances_of csv year plan history =
    trial_balance csv year plan
    (λ basis through fund account. balance_of basis plan through fund account history)
