use Rattle.std.proofs.Common.{◌≡◌, ◌++◌, ◌+◌, ℕ, drop, nat_cmp}
use Rattle.cf_base.proofs.Common.{get}
use Rattle.cf_register_parts.specs.Pairs.{amount_at}
use Rattle.cf_books_documents.specs.Events.{events_from, none_lent, voucher_in}
use Rattle.cf_books_documents.specs.Indexed.{list_in, numbered}
use Rattle.cf_books_documents.proofs.index.numbered_of.Given as goal

-- what was added, and what is still to come
abbrev pub invariant-loop-entry : goal.invariant-loop-entry
invariant-loop-entry l = record {
  place : l.place ≡ l.entry-index;
  events : (n : ℕ) → list_in (get nat_cmp l.lists n) ++ numbered n (events_from l.chart (voucher_in l.entries) (amount_at l.lent.entries) (l.place + 1) (drop l.entry-index l.entries))
      ≡ numbered n (events_from l.chart (voucher_in l.entries) none_lent 1 l.entries);
}
