-- What the sums of a legal history keep to, so that 128 bits hold what is made of them.
use Rattle.std.specs.Prelude.{ℕ, ◌<◌, ◌^◌, length, unsigned_abs}
use Rattle.cf_model.specs.Common.{ReconShown}
use Rattle.cf_chart.specs.Common.{Plan}
use Rattle.cf_statements.specs.Sums.{Sums}

-- the fund balances of a year, and the encumbrances of its lines
pub record AreSmall (plan : Plan) (sums : Sums) (year : ℕ) : Type 0 where
  pub encumbered : (line : ℕ) → line < length plan.lines
      → unsigned_abs (sums.numbers line year).encumbered < 2 ^ 111
  pub balances : (fund : ℕ) → unsigned_abs (sums.fund_balance year fund) < 2 ^ 108

-- what is capital of a reconciliation, and net position
pub record IsSmallRecon (r : ReconShown) : Type 0 where
  pub capital_assets : unsigned_abs r.capital_assets < 2 ^ 108
  pub right_to_use : unsigned_abs r.right_to_use < 2 ^ 108
  pub bonds : unsigned_abs r.bonds < 2 ^ 108
  pub leases : unsigned_abs r.leases < 2 ^ 108
  pub net_position : unsigned_abs r.net_position < 2 ^ 108
