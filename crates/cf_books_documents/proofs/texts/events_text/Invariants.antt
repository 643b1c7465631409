use Rattle.std.proofs.Common.{◌≡◌, ◌++◌, drop}
use Rattle.cf_books_documents.specs.Texts.{events_text}
use Rattle.cf_books_documents.proofs.texts.events_text.Given as goal

-- what was written, and what is still to come
abbrev pub invariant-loop-nth : goal.invariant-loop-nth
invariant-loop-nth l = l.text.items ++ events_text l.nth (drop l.nth l.events) ≡ events_text 0 l.events
