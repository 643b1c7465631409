use Rattle.std.proofs.Common.{◌≡◌, ◌++◌, ℕ, drop, nat_cmp}
use Rattle.cf_base.proofs.Common.{get}
use Rattle.cf_books_documents.specs.Indexed.{list_in, numbered}
use Rattle.cf_books_documents.proofs.index.put_events.Given as goal

-- what was added, and what is still to come
abbrev pub invariant-loop-event : goal.invariant-loop-event
invariant-loop-event l = (n : ℕ) → list_in (get nat_cmp l.lists n) ++ numbered n (drop l.event-index l.events) ≡ list_in (get nat_cmp l.initial.lists n) ++ numbered n l.events
