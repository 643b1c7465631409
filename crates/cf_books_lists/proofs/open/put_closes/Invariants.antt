use Rattle.std.proofs.Common.{◌≡◌, drop}
use Rattle.cf_books_lists.specs.Open.{closes_text}
use Rattle.cf_books_lists.specs.Rows.{added}
use Rattle.cf_books_lists.proofs.open.put_closes.Given as goal

-- what was written, and what is still to come
abbrev pub invariant-loop-entry : goal.invariant-loop-entry
invariant-loop-entry l = added l.out (closes_text l.out.csv (drop l.entry-index l.entries)) ≡ added l.initial.out (closes_text l.initial.out.csv l.entries)
