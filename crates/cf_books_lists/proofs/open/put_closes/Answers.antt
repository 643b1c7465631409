use Rattle.cf_model.specs.Common.{Entry}
use Rattle.cf_books_lists.specs.Open.{close_by}
use Rattle.cf_books_lists.proofs.Next.{next_rows}
use Rattle.cf_books_lists.proofs.open.put_closes.Goals as goal

pub loop-entry-preserved : goal.loop-entry-preserved
loop-entry-preserved c =
    next_rows (λ csv (e : Entry). close_by csv e.change.act e) c.args.entries.now c.loop-entry.entry-index c.entry-item.result c.loop-entry.out c.put_close.new.out _ c.loop-entry-test.true c.entry-item.is
    c.in_ok-put_close.ensures c.loop-entry.invariant
