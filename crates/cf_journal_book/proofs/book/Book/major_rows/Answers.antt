use Rattle.cf_journal_book.proofs.book.Book.major_rows.Goals as goal

pub returns : goal.returns
returns g c = rw (← c.history.ensures.plan, ← c.history.ensures.entries) c.major_rows.ensures
