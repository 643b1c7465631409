use Rattle.std.proofs.Common.{◌≡◌, drop, fold}
use Rattle.cf_books_documents.specs.Wanted.{payment_after}
use Rattle.cf_books_documents.proofs.wanted.payment_place.Given as goal

abbrev pub invariant-loop-event : goal.invariant-loop-event
invariant-loop-event l = fold payment_after l.place (drop l.event-index l.events) ≡ fold payment_after 0 l.events
