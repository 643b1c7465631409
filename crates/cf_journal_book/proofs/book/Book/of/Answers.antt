use Rattle.cf_journal_book.proofs.book.Book.of.Goals as goal

pub invariant_of-result : goal.invariant_of-result
invariant_of-result g c =
    let parts = c.into_parts-lines.ensures in
    rw (c.of-archive.ensures, parts.plan, parts.entries) (record { tables_of = parts.tables; whole = parts.whole })
