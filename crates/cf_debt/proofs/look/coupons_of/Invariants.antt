use Rattle.std.proofs.Common.{◌≡◌, ◌*◌, ◌≤◌, sum_by, take}
use Rattle.cf_debt.specs.Charges.{bond_of}
use Rattle.cf_debt.specs.Rows.{view_payments}
use Rattle.cf_model.specs.Common.{coupon}
use Rattle.cf_debt.proofs.look.coupons_of.Given as goal
use Rattle.cf_base.specs.Common.{most_cents}

abbrev pub invariant-loop-payment : goal.invariant-loop-payment
invariant-loop-payment l = record {
  is : l.coupons ≡ sum_by (coupon (bond_of l.terms)) (take l.payment-index (view_payments l.payments));
  most : l.coupons ≤ most_cents * l.payment-index;
}
