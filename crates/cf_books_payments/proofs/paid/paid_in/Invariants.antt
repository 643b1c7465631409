use Rattle.std.proofs.Common.{◌≡◌, ◌≤◌, ◌*◌, ◌++◌, length, drop}
use Rattle.cf_books_payments.specs.Entering.{AreSmall, places_in}
use Rattle.cf_books_payments.specs.Paid.{paid_after, paid_in}
use Rattle.cf_books_payments.proofs.paid.paid_in.Given as goal

-- what was paid so far, and what is still to come
abbrev pub invariant-loop-entry : goal.invariant-loop-entry
invariant-loop-entry l = record {
  rows : l.rows.items ++ paid_after l.year l.entries (places_in l.known) l.place (drop l.entry-index l.entries) ≡ paid_in l.year l.entries;
  small : AreSmall l.rows.items;
  few : length l.rows.items ≤ 64 * l.entry-index;
  place : l.place ≡ l.entry-index;
}
