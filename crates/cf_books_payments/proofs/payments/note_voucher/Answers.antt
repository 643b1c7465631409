use Rattle.std.proofs.Common.{◌≡◌, ◌∙◌, ap, sum_by}
use Rattle.cf_base.proofs.Common.{on_ok_weaker}
use Rattle.cf_books_payments.proofs.Noted.{noted}
use Rattle.cf_books_payments.proofs.payments.note_voucher.Goals as goal

pub returns-in-Voucher : goal.returns-in-Voucher
returns-in-Voucher c =
    let amount : c.total-amount.result ≡ sum_by (λ i. i.account.amount) c.in-Voucher.voucher.items = c.total-amount.ensures.value ∙ ap (sum_by (λ i. i.account.amount)) c.as_slice.ensures in
    on_ok_weaker c.put_amount.result (noted c.args.entry.now c.in-Voucher.voucher c.total-amount.result _ _ c.in-Voucher.is amount c.total-amount.ensures.small) c.put_amount.ensures
