use Rattle.cf_base.proofs.Common.{on_ok_weaker}
use Rattle.cf_books_lists.specs.Records.{record_text}
use Rattle.cf_books_lists.proofs.Adding.{added_two}
use Rattle.cf_books_payments.specs.Entering.{sum_at}
use Rattle.cf_books_year.specs.Paid.{paid_row, total_text}
use Rattle.cf_books_year.proofs.paid.put_row.Goals as goal

pub returns : goal.returns
returns c =
    let p = c.args.paid.now in
    on_ok_weaker c.put_paid.result
    (λ put.
    added_two (λ csv. total_text csv (sum_at c.args.totals.now) c.args.before p.vendor) (λ csv. record_text csv (paid_row c.args.entries.now p)) c.args.out.now
    c.put_total_first.new.out c.put_paid.new.out c.in_ok-put_total_first.ensures put)
    c.put_paid.ensures
