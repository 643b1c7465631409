use Rattle.cf_journal_book.proofs.book.Book.history.Goals as goal

pub new-requires : goal.new-requires
new-requires g c = rw (c.rest.ensures.plan, c.rest.ensures.entries) c.self.invariant.tables_of
