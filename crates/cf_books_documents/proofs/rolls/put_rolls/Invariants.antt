use Rattle.std.proofs.Common.{◌≡◌, drop, fold}
use Rattle.cf_books_documents.specs.Rolls.{with_roll}
use Rattle.cf_books_documents.proofs.rolls.put_rolls.Given as goal

-- what was put, and what is still to come
abbrev pub invariant-loop-roll : goal.invariant-loop-roll
invariant-loop-roll l = fold (with_roll l.facts) l.events.items (drop l.roll-index l.rolls) ≡ fold (with_roll l.facts) l.initial.events.items l.rolls
