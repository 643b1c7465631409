-- The trial balance of a fiscal year alone, as records: what is had and owed through the year,
-- revenues and expenditures in the year, and what they begin with (GASB Statement 34).
use Rattle.std.specs.Prelude.{◌≡◌, ℕ, ◌-◌, nat_lt, ◌==◌, Bool, if◌then◌else◌, ℤ, pos, ◌+ℤ◌, ◌-ℤ◌, unsigned_abs, List, [], ◌∷◌, ◌++◌, codes, decimal, flat_map}
use Rattle.cf_model_articulation.specs.TrialBalances.{fund_accounts, gov_accounts}
use Rattle.cf_base.specs.Common.{money_of}
use Rattle.cf_model.specs.Common.{Entry, Basis, Gov as GovBasis, balance_of, int_sum}
use Rattle.cf_calls.specs.declared.read.Basis.TheVariants.{Fund as FundBasis}
use Rattle.cf_chart.specs.declared.rows.Fund.{Fund}
use Rattle.cf_chart.specs.Common.{Plan, fund_at}
use Rattle.cf_books_lists.specs.Balances.{balance_text, head}
use Rattle.cf_books_lists.specs.Names.{basis_word, fund_name}
use Rattle.cf_books_lists.specs.Records.{head_text, record_text}

-- ---- amounts

-- accounts below 300000 go on from year to year; all others begin each year with nothing
abbrev pub goes_on : ℕ → Bool
goes_on account = nat_lt account 300000

abbrev pub year_balance : Basis → Plan → ℕ → ℕ → List Entry → ℕ → ℤ
year_balance basis plan year fund history account =
    if goes_on account then balance_of basis plan year fund account history
    else balance_of basis plan year fund account history -ℤ balance_of basis plan
    (year - 1) fund account history

-- what the accounts that go on come to through a year: the fund balance, or the net position
abbrev pub kept_balance : Basis → Plan → ℕ → ℕ → List Entry → ℕ → ℤ
kept_balance basis plan year fund history account = if goes_on account
    then balance_of basis plan year fund account history else pos 0

abbrev pub kept : Basis → Plan → ℕ → ℕ → List Entry → List ℕ → ℤ
kept basis plan year fund history accounts =
    int_sum (kept_balance basis plan year fund history) accounts

-- what the year begins with, a credit below zero
abbrev pub opening : Basis → Plan → ℕ → ℕ → List Entry → List ℕ → ℤ
opening basis plan year fund history accounts =
    pos 0 -ℤ kept basis plan (year - 1) fund history accounts

-- all of it sums to zero, in each fund and for the city as a whole
abbrev pub year_sum : Basis → Plan → ℕ → ℕ → List Entry → List ℕ → ℤ
year_sum basis plan year fund history accounts =
    opening basis plan year fund history accounts +ℤ int_sum
    (year_balance basis plan year fund history) accounts

pub record YearBalances (plan : Plan) (history : List Entry) (year : ℕ) : Type 0 where
  pub funds : (fund : ℕ)
      → year_sum FundBasis plan year fund history (fund_accounts plan fund) ≡ pos 0
  pub whole : year_sum GovBasis plan year 0 history (gov_accounts plan) ≡ pos 0

-- ---- records

abbrev pub opening_name : Basis → List ℕ
opening_name FundBasis = codes "Opening fund balance"
opening_name GovBasis = codes "Opening net position"

abbrev pub opening_row : Plan → Basis → ℕ → ℤ → List (List ℕ)
opening_row plan basis fund amount =
    basis_word basis ∷ decimal fund ∷ fund_name (fund_at plan fund) ∷ decimal 300000
    ∷ opening_name basis ∷ money_of amount ∷ []

-- an amount of zero is left out
abbrev pub opening_text : Bool → Plan → Basis → ℕ → ℤ → List ℕ
opening_text csv plan basis fund amount = if unsigned_abs amount == 0 then []
    else record_text csv (opening_row plan basis fund amount)

abbrev pub account_text : Bool → Plan → List Entry → Basis → ℕ → ℕ → ℕ → List ℕ
account_text csv plan history basis year fund account =
    balance_text csv plan basis fund account (year_balance basis plan year fund history account)

abbrev pub kept_row : Bool → Plan → List Entry → Basis → ℕ → ℕ → ℕ → List ℕ
kept_row csv plan history basis year fund account = if goes_on account
    then account_text csv plan history basis year fund account else []

abbrev pub changed_row : Bool → Plan → List Entry → Basis → ℕ → ℕ → ℕ → List ℕ
changed_row csv plan history basis year fund account = if goes_on account then []
    else account_text csv plan history basis year fund account

abbrev pub kept_text : Bool → Plan → List Entry → Basis → ℕ → ℕ → List ℕ → List ℕ
kept_text csv plan history basis year fund accounts =
    flat_map (kept_row csv plan history basis year fund) accounts

abbrev pub changed_text : Bool → Plan → List Entry → Basis → ℕ → ℕ → List ℕ → List ℕ
changed_text csv plan history basis year fund accounts =
    flat_map (changed_row csv plan history basis year fund) accounts

-- the accounts that go on, what the year begins with, and the other accounts
abbrev pub section_text : Bool → Plan → List Entry → Basis → ℕ → ℕ → List ℕ → List ℕ
section_text csv plan history basis year fund accounts =
    kept_text csv plan history basis year fund accounts
    ++ (opening_text csv plan basis fund (opening basis plan year fund history accounts)
    ++ changed_text csv plan history basis year fund accounts)

abbrev pub funds_text : Bool → Plan → List Entry → ℕ → List Fund → List ℕ
funds_text csv plan history year funds =
    flat_map (λ f. section_text csv plan history FundBasis year f.id (fund_accounts plan f.id))
    funds

abbrev pub year_text : Bool → ℕ → Plan → List Entry → List ℕ
year_text csv year plan history =
    head_text csv head ++
    (funds_text csv plan history year plan.funds
    ++ section_text csv plan history GovBasis year 0 (gov_accounts plan))
