use Rattle.std.proofs.Common.{◌∙◌, ◌++◌, ap, arith, option_to_list, nat_cmp}
use Rattle.cf_base.proofs.Common.{get}
use Rattle.cf_books_payments.specs.Paid.{paid_voucher}
use Rattle.cf_books_payments.proofs.Added.{added_more}
use Rattle.cf_books_payments.proofs.paid.put_vouchers.Goals as goal

pub loop-number-preserved : goal.loop-number-preserved
loop-number-preserved c =
    let inv = c.loop-number.invariant in
    let was = c.loop-number.rows.items in
    let put = c.in_ok-put_some.ensures in
    record {
      rows =
          added_more (paid_voucher c.args.entries.now (get nat_cmp c.args.known.now.vouchers) c.args.by) was c.put_some.new.rows.items _ c.args.numbers.now
          c.loop-number.number-index c.loop-number-test.true (put.rows ∙ ap (λ o. was ++ option_to_list o) c.voucher.ensures.value) inv.rows;
      small = λ smalls. put.small (inv.small smalls);
      few = omega (arith, inv.few, put.few);
    }
