use Rattle.cf_journal_book.proofs.book.Book.close.Goals as goal

pub returns-clause-articulates : goal.returns-clause-articulates
returns-clause-articulates g c = rw (← c.self.view_is) c.close.ensures.articulates
