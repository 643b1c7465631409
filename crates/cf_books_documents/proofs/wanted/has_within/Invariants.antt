use Rattle.std.proofs.Common.{◌≡◌, drop}
use Rattle.cf_books_documents.specs.Wanted.{has_within}
use Rattle.cf_books_documents.proofs.wanted.has_within.Given as goal

abbrev pub invariant-loop-at : goal.invariant-loop-at
invariant-loop-at l = has_within l.part (drop l.at l.text) ≡ has_within l.part l.text
