use Rattle.std.proofs.Common.{◌≡◌, ◌+◌, drop}
use Rattle.cf_books.specs.Listing.{entry_rows, list_text}
use Rattle.cf_books_payments.specs.Payments.{Payable}
use Rattle.cf_books_payments.specs.Tables.{Knows}
use Rattle.cf_books_lists.specs.Records.{rows_text}
use Rattle.cf_books_lists.specs.Rows.{added, none_written}
use Rattle.cf_books.proofs.listing.list_text.Given as goal

-- what was written, what is still to come, and what the entries so far say of payments
abbrev pub invariant-loop-entry : goal.invariant-loop-entry
invariant-loop-entry l = record {
  payable : Payable;
  rest : added l.out (rows_text l.csv (entry_rows payable (l.place + 1) (drop l.entry-index l.entries))) ≡ added (none_written l.csv) (list_text l.csv l.entries);
  knows : Knows l.entries l.known payable;
  place : l.place ≡ l.entry-index;
}
