-- The rule on levy years gives what the register asks: a bill is collected and written off in its
-- levy year or later.
use Rattle.std.proofs.Common.{◌≡◌, ◌⊎◌, inl, inr, ℕ, suc, ◌<◌, ◌≤◌, Bool, true, false, nat_lt, Option, Some, None, IfSome, arith}
use Rattle.cf_base.proofs.Common.{leb_tells}
use Rattle.cf_model.specs.Common.{Day, Act, Collect, WriteOff, year_of_day, bill_at, later_levy, levy_refusal, Registers}
use Rattle.cf_calls.specs.declared.refusal.Refusal.TheVariants as refusal
use Rattle.cf_chart.specs.Common.{Plan}
use Rattle.cf_model.specs.Receivables.{Bill}
use Rattle.cf_model.proofs.Common.{refuse_none}
use Rattle.cf_revenue.specs.Register.{IsLevied}

levied : (year : ℕ) (o : Option Bill) → later_levy year o ≡ None → IfSome o (λ b. b.levy_year ≤ year)
levied year None e = tt
levied year (Some b) e = not_less (nat_lt year b.levy_year) (leb_tells (suc year) b.levy_year) (refuse_none (nat_lt year b.levy_year) (refusal.YearNotOpen b.levy_year) e)
  where
    not_less : (t : Bool) → ((t ≡ true) × (suc year ≤ b.levy_year)) ⊎ ((t ≡ false) × (b.levy_year < suc year)) → t ≡ false → b.levy_year ≤ year
    not_less t (inl h) e = cc
    not_less t (inr h) e = omega (arith, h.1)

pub levied_by_rule : (plan : Plan) (s : Registers) (on : Day) (act : Act) → levy_refusal plan s on act ≡ None → IsLevied plan s.receivables on act
levied_by_rule plan s on (Collect c) e = levied (year_of_day plan on) (bill_at c.bill s.receivables.bills) e
levied_by_rule plan s on (WriteOff w) e = levied (year_of_day plan on) (bill_at w.bill s.receivables.bills) e
levied_by_rule plan s on _ e = tt
