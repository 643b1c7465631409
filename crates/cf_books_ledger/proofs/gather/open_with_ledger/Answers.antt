use Rattle.std.proofs.Common.{◌∙◌}
use Rattle.cf_books_ledger.proofs.Gathering.{rows_are, sums_are}
use Rattle.cf_books_ledger.proofs.gather.open_with_ledger.Goals as goal

pub returns-in-Ok-clause-rows : goal.returns-in-Ok-clause-rows
returns-in-Ok-clause-rows g c = c.in-Ok.ensures.watched c.new.ensures.items ∙ rows_are c.in-Ok.book.plan c.in-Ok.book.entries

pub returns-in-Ok-clause-sums : goal.returns-in-Ok-clause-sums
returns-in-Ok-clause-sums g c =
    sums_are c.in-Ok.book.plan c.in-Ok.book.entries _ (c.in-Ok.ensures.watched c.new.ensures.items) c.in-Ok.ensures.sound.legal
