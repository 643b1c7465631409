use Rattle.std.proofs.Common.{◌≡◌, ◌*◌, ◌≤◌, sum_by, take}
use Rattle.cf_debt.specs.Rows.{view_payments}
use Rattle.cf_model.specs.Common.{Due}
use Rattle.cf_debt.proofs.look.principal_of.Given as goal
use Rattle.cf_base.specs.Common.{most_cents}

abbrev pub invariant-loop-payment : goal.invariant-loop-payment
invariant-loop-payment l = record {
  is : l.principal ≡ sum_by (λ (p : Due). p.principal) (take l.payment-index (view_payments l.payments));
  most : l.principal ≤ most_cents * l.payment-index;
}
