use Rattle.std.proofs.Common.{◌≡◌, ◌*◌, ◌≤◌, sum_by, take}
use Rattle.cf_debt.specs.Charges.{bond_of}
use Rattle.cf_debt.specs.Rows.{view_payments}
use Rattle.cf_model.specs.Common.{Due, days_by, interest_for}
use Rattle.cf_debt.proofs.look.earned_of.Given as goal
use Rattle.cf_base.specs.Common.{most_cents}

abbrev pub invariant-loop-payment : goal.invariant-loop-payment
invariant-loop-payment l = record {
  is : l.earned ≡ sum_by (λ (p : Due). interest_for (bond_of l.terms) p (days_by l.closed (bond_of l.terms) p)) (take l.payment-index (view_payments l.payments));
  most : l.earned ≤ most_cents * l.payment-index;
}
