use Rattle.std.proofs.Common.{◌≡◌, ◌+◌, ◌*◌, ◌≤◌, drop, sum_by}
use Rattle.cf_model.specs.Common.{fund_sum, spent_by}
use Rattle.cf_office_rules.proofs.cash.paid_of.Given as goal
use Rattle.cf_base.specs.Common.{most_cents}

abbrev pub invariant-loop-voucher : goal.invariant-loop-voucher
invariant-loop-voucher l = record {
  sum : l.taken + sum_by (λ n. fund_sum l.fund (spent_by n l.orders.documents.expenditures)) (drop l.voucher-index l.vouchers)
      ≡ sum_by (λ n. fund_sum l.fund (spent_by n l.orders.documents.expenditures)) l.vouchers;
  most : l.taken ≤ 32 * most_cents * l.voucher-index;
}
