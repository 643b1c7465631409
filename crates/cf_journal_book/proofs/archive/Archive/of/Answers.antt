use Rattle.cf_journal_book.proofs.archive.Archive.of.Goals as goal

pub invariant_of-result : goal.invariant_of-result
invariant_of-result g c = record { legal = c.entries-legal.ensures.legal; states = c.requires.states; kept = c.requires.settled; adds = tt }
