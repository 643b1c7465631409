use Rattle.cf_books_documents.proofs.told.told_of.Goals as goal

pub returns : goal.returns
returns c = λ i. record { events = λ n. c.in_ok-numbered.ensures n i; rolls = c.in_ok-rolls.ensures i }
