-- What a fund has, and what it owes, on the modified accrual basis.
use Rattle.std.specs.Prelude.{ℕ, List, ℤ, ◌+ℤ◌}
use Rattle.cf_model.specs.Common.{Entry, balance_of}
use Rattle.cf_calls.specs.declared.read.Basis.TheVariants.{Fund as FundBasis}
use Rattle.cf_chart.specs.Common.{Plan}

-- cash, receivables, what other funds owe
abbrev pub assets_of : Plan → ℕ → ℕ → List Entry → ℤ
assets_of plan year fund history =
    (balance_of FundBasis plan year fund 100000 history +ℤ balance_of FundBasis plan year fund
    110000 history) +ℤ balance_of FundBasis plan year fund 120000 history

-- vouchers payable, debt due, what is owed to other funds
abbrev pub debts_of : Plan → ℕ → ℕ → List Entry → ℤ
debts_of plan year fund history =
    (balance_of FundBasis plan year fund 200000 history +ℤ balance_of FundBasis plan year fund
    210000 history) +ℤ balance_of FundBasis plan year fund 220000 history

-- these, and unavailable revenue
abbrev pub liabilities_of : Plan → ℕ → ℕ → List Entry → ℤ
liabilities_of plan year fund history =
    debts_of plan year fund history +ℤ balance_of FundBasis plan year fund 290000 history
