use Rattle.std.proofs.Common.{◌≡◌, ◌≤◌, ◌*◌, ◌^◌, take, sum_by, nat_cmp}
use Rattle.cf_base.proofs.Common.{get}
use Rattle.cf_books_payments.specs.Payments.{voucher_in}
use Rattle.cf_books_payments.proofs.payments.Tables.paid.Given as goal

abbrev pub invariant-loop-number : goal.invariant-loop-number
invariant-loop-number l = record {
  value : l.total ≡ sum_by (voucher_in (get nat_cmp l.self.vouchers)) (take l.number-index l.numbers);
  small : l.total ≤ 2 ^ 76 * l.number-index;
}
