use Rattle.cf_journal_book.proofs.InForm.{legal_in_form}
use Rattle.cf_journal_book.proofs.book.Book.entries.Goals as goal

pub returns-clause-form : goal.returns-clause-form
returns-clause-form g c = legal_in_form c.rest.result.now.plan c.entries.result.now (rw c.entries.ensures.value c.entries.ensures.legal)
