use Rattle.std.proofs.Common.{◌+◌}
use Rattle.cf_debt.proofs.debt.due_of.Goals as goal

pub returns : goal.returns
returns c all = λ i. record {
  is_lease = c.args.bond.now.is_lease;
  payment = c.args.bond.now.paid + 1;
  day = c.due_day.ensures all i;
  year = c.year_at.ensures i;
  principal = c.args.payment.now.principal;
  interest = c.coupon.ensures.value i;
}
