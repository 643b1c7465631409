use Rattle.cf_journal_book.proofs.book.Book.into_parts.Goals as goal

pub returns-clause-tables : goal.returns-clause-tables
returns-clause-tables g c = rw (← c.self.view_is) c.self.invariant.tables_of
