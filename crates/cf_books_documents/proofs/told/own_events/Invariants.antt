use Rattle.std.proofs.Common.{◌≡◌, ◌++◌, drop, filter}
use Rattle.cf_books_documents.specs.Told.{is_own}
use Rattle.cf_books_documents.proofs.told.own_events.Given as goal

-- what was found, and what is still to come
abbrev pub invariant-loop-event : goal.invariant-loop-event
invariant-loop-event l = l.own.items ++ filter (is_own l.subject l.item) (drop l.event-index l.events) ≡ filter (is_own l.subject l.item) l.events
