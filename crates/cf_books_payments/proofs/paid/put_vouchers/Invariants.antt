use Rattle.std.proofs.Common.{◌≡◌, ◌≤◌, ◌+◌, ◌++◌, length, drop, flat_map, nat_cmp}
use Rattle.cf_base.proofs.Common.{get}
use Rattle.cf_books_payments.specs.Entering.{AreSmall}
use Rattle.cf_books_payments.specs.Paid.{paid_voucher}
use Rattle.cf_books_payments.proofs.paid.put_vouchers.Given as goal

-- what was added, and what is still to come
abbrev pub invariant-loop-number : goal.invariant-loop-number
invariant-loop-number l = record {
  rows : l.rows.items ++ flat_map (paid_voucher l.entries (get nat_cmp l.known.vouchers) l.by) (drop l.number-index l.numbers)
      ≡ l.initial.rows.items ++ flat_map (paid_voucher l.entries (get nat_cmp l.known.vouchers) l.by) l.numbers;
  small : AreSmall l.initial.rows.items → AreSmall l.rows.items;
  few : length l.rows.items ≤ length l.initial.rows.items + l.number-index;
}
