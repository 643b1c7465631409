use Rattle.cf_office.proofs.book.BookOffice.into_parts.Goals as goal

pub returns-clause-tables : goal.returns-clause-tables
returns-clause-tables c = rw (← c.self.view_is) c.self.invariant.tables
