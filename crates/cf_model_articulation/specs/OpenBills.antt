-- What is left of bills, fund by fund, and the account that has it.
use Rattle.std.specs.Prelude.{◌≡◌, ℕ, ℤ, pos, ◌==◌, if◌then◌else◌, List}
use Rattle.cf_model.specs.Common.{Entry, fund_of, posts_in, Receivables, left_of, registers_of, int_sum}
use Rattle.cf_calls.specs.declared.read.Basis.TheVariants.{Fund as FundBasis}
use Rattle.cf_chart.specs.Common.{Plan}
use Rattle.cf_ledger.specs.Posts.{is_of, sum_where}
use Rattle.cf_model.specs.Receivables.{Bill}

-- what is left of a bill, where its source is of the fund
abbrev pub left_part : Plan → ℕ → Receivables → Bill → ℤ
left_part plan fund s b = if fund_of plan b.source == fund then pos (left_of s.settlements b)
    else pos 0

abbrev pub left_sum : Plan → ℕ → Receivables → ℤ
left_sum plan fund s = int_sum (left_part plan fund s) s.bills

-- what is left of a fund's bills is what its receivables have, over all years
abbrev pub BillsAreReceivable : Plan → List Entry → Type 0
BillsAreReceivable plan history = (fund : ℕ) →
    sum_where (is_of fund 110000) (posts_in FundBasis plan history)
    ≡ left_sum plan fund (registers_of plan history).receivables
