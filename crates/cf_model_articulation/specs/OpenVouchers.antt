-- What is open of vouchers, fund by fund, and the account that has it.
use Rattle.std.specs.Prelude.{◌≡◌, ℕ, ℤ, pos, ◌-ℤ◌, ◌==◌, if◌then◌else◌, List}
use Rattle.cf_model.specs.Common.{Entry, VoucherState, Expenditure, documents_of, posts_in, int_sum}
use Rattle.cf_calls.specs.declared.read.Basis.TheVariants.{Fund as FundBasis}
use Rattle.cf_calls.specs.declared.shown.VoucherState.TheVariants as voucher
use Rattle.cf_chart.specs.Common.{Plan}
use Rattle.cf_ledger.specs.Posts.{is_of, sum_where}

-- what is neither paid nor void
abbrev pub open_amount : VoucherState → ℕ → ℕ
open_amount voucher.Open amount = amount
open_amount _ amount = 0

abbrev pub open_part : ℕ → Expenditure → ℤ
open_part fund x = if x.account.fund == fund then pos (open_amount x.state x.account.amount)
    else pos 0

-- the items of open vouchers of a fund are what its vouchers payable have, over all years: a credit
abbrev pub VouchersAreOwed : Plan → List Entry → Type 0
VouchersAreOwed plan history = (fund : ℕ) →
    sum_where (is_of fund 200000) (posts_in FundBasis plan history)
    ≡ pos 0 -ℤ int_sum (open_part fund) (documents_of plan history).expenditures
