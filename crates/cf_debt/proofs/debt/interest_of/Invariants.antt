use Rattle.std.proofs.Common.{◌≡◌, ◌*◌, ◌≤◌, sum_by, take}
use Rattle.cf_debt.specs.Rows.{view_payments}
use Rattle.cf_debt.proofs.Lasting.{charge_of_number}
use Rattle.cf_debt.proofs.debt.interest_of.Given as goal
use Rattle.cf_base.specs.Common.{most_cents}

abbrev pub invariant-loop-number : goal.invariant-loop-number
invariant-loop-number l = record {
  is : l.interest ≡ sum_by (charge_of_number l.closed (view_payments l.payments) l.bonds) (take l.number-index l.live);
  most : l.interest ≤ 2 * most_cents * l.number-index;
}
