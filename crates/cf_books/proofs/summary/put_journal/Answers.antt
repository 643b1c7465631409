use Rattle.cf_base.proofs.Common.{on_ok_weaker}
use Rattle.cf_books.proofs.Steps.{two_texts}
use Rattle.cf_books.proofs.summary.put_journal.Goals as goal

pub returns : goal.returns
returns c =
    rw (← c.closed.ensures, ← c.closed-2.ensures)
    (on_ok_weaker c.put_counts.result (two_texts _ _ _ _ _ c.in_ok-put_last_day.ensures) c.put_counts.ensures)
