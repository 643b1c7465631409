use Rattle.cf_books_payments.proofs.Added.{small_more, sum_more}
use Rattle.cf_books_payments.proofs.sums.totals_of.Goals as goal

pub loop-row-preserved : goal.loop-row-preserved
loop-row-preserved c =
    let inv = c.loop-row.invariant in
    let rows = c.args.rows.now in
    let i = c.loop-row.row-index in
    let below = c.loop-row-test.true in
    record {
      sums = λ vendor. sum_more vendor _ _ _ rows i _ below (c.in_ok-add.ensures vendor) (inv.sums vendor);
      small = λ vendor. small_more vendor _ _ rows i _ below (c.in_ok-add.ensures vendor) (inv.small vendor) c.requires.small;
    }
