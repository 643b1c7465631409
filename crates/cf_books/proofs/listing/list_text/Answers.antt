use Rattle.std.proofs.Common.{arith, ◌≡◌, ◌<◌, ◌+◌, ◌∷◌, ◌∙◌, Some, ap, refl, length, drop, slice_get}
use Rattle.cf_books.specs.Listing.{entry_row, entry_rows, header}
use Rattle.cf_books_payments.specs.Payments.{amount_after, none_payable, payable_after}
use Rattle.cf_books_payments.proofs.Noted.{knows_next, knows_small}
use Rattle.cf_books_documents.proofs.Entering.{get-item}
use Rattle.cf_books.proofs.Steps.{drop-item, row_added}
use Rattle.cf_books_lists.specs.Records.{head_text, rows_text}
use Rattle.cf_books_lists.specs.Rows.{Written, added}
use Rattle.cf_books.proofs.listing.list_text.Goals as goal

pub loop-entry-init : goal.loop-entry-init
loop-entry-init c = record {
  payable = none_payable;
  rest =
      ap (λ (w : Written). added w (rows_text c.args.csv (entry_rows none_payable 1 c.args.entries.now)))
      (c.in_ok-put_header.ensures ∙ ap (λ (w : Written). added w (head_text w.csv header)) c.new-out.ensures);
  knows = c.new-known.ensures c.args.entries.now;
  place = refl;
}

pub amount-amount-requires-clause-small : goal.amount-amount-requires-clause-small
amount-amount-requires-clause-small c = let inv = c.loop-entry.invariant in knows_small c.args.entries.now c.loop-entry.known inv.payable inv.knows

pub loop-entry-preserved : goal.loop-entry-preserved
loop-entry-preserved c =
    let inv = c.loop-entry.invariant in
    let csv = c.args.csv in
    let entries = c.args.entries.now in
    let entry = c.entry-item.result in
    let n = c.loop-entry.place in
    let i = c.loop-entry.entry-index in
    let below : i < length entries = omega arith in
    let rest : entry ∷ drop (i + 1) entries ≡ drop i entries = drop-item entries i entry below c.entry-item.is in
    let found : slice_get entries n ≡ Some entry = ap (slice_get entries) inv.place ∙ get-item entries i entry below c.entry-item.is in
    let amount : c.amount-amount.result ≡ amount_after inv.payable entry.drawn entry.change.act = c.amount-amount.ensures inv.payable inv.knows in
    let next = payable_after inv.payable entry in
    let out = c.loop-entry.out in
    let csv_is : out.csv ≡ csv = ap (λ (w : Written). w.csv) inv.rest in
    let later = entry_rows next (n + 1 + 1) (drop (i + 1) entries) in
    record {
      payable = next;
      rest =
          row_added csv out c.put_entry.new.out (entry_row (n + 1) c.amount-amount.result entry) later csv_is c.in_ok-put_entry.ensures
          ∙ ap (λ a. added out (rows_text csv (entry_row (n + 1) a entry ∷ later))) amount
          ∙ ap (λ es. added out (rows_text csv (entry_rows inv.payable (n + 1) es))) rest ∙ inv.rest;
      knows = knows_next entries c.loop-entry.known c.note.new.self inv.payable entry n found inv.knows c.in_ok-note.ensures.vouchers c.in_ok-note.ensures.debts;
      place = omega arith;
    }
