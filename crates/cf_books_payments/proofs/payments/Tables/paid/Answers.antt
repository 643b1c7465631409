use Rattle.std.proofs.Common.{arith, ◌≡◌, ◌+◌, ◌∙◌, ap, sym, sum_by, take, get_or, nat_cmp}
use Rattle.cf_base.proofs.Common.{sum_by_more, get}
use Rattle.cf_books_payments.specs.Payments.{voucher_in}
use Rattle.cf_books_payments.proofs.payments.Tables.paid.Goals as goal

pub loop-number-preserved : goal.loop-number-preserved
loop-number-preserved c =
    let inv = c.loop-number.invariant in
    let amount = voucher_in (get nat_cmp c.args.self.now.vouchers) in
    let numbers = c.args.numbers.now in
    let i = c.loop-number.number-index in
    let more : sum_by amount (take (i + 1) numbers) ≡ sum_by amount (take i numbers) + amount (get_or numbers i 0) = sum_by_more amount numbers i 0 c.loop-number-test.true in
    record {
      value = ap (λ n. n + c.voucher-total.result) inv.value ∙ ap (λ n. sum_by amount (take i numbers) + n) c.voucher-total.ensures.value ∙ sym more;
      small = omega arith;
    }
