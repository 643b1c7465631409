use Rattle.cf_journal_book.proofs.Opened.{ok_cause}
use Rattle.cf_journal_book.proofs.opening.open_office.Goals as goal

pub returns-in_ok-office-in-Ok-clause-cause : goal.returns-in_ok-office-in-Ok-clause-cause
returns-in_ok-office-in-Ok-clause-cause g c = ok_cause _ _ _ _ _ _ c.in-Ok.ensures.cause
