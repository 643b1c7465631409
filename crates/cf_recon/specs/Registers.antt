-- The registers that a reconciliation is read from.
use Rattle.std.specs.Prelude.{◌≡◌}
use Rattle.cf_assets.specs.Register.{Register as Assets, IsOf}
use Rattle.cf_debt.specs.Register.{Register as Debt, debts_of}
use Rattle.cf_model.specs.Common.{Registers}
use Rattle.cf_revenue.specs.Register.{Register as Revenue}

-- these are the registers' parts
pub record AreOf (s : Registers) (a : Assets) (r : Revenue) (d : Debt) : Type 0 where
  pub assets : IsOf s a
  pub receivables : s.receivables ≡ r.receivables
  pub debts : debts_of s ≡ d.debts
