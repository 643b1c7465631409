use Rattle.std.proofs.Common.{◌≡◌, ◌∙◌, ◌<◌, ◌+◌, ◌∷◌, ◌++◌, ℕ, List, length, drop, get_or, refl, ap, sym, arith, rules, add-one, drop-cons, nat_cmp}
use Rattle.cf_base.proofs.Common.{common_steps, get}
use Rattle.cf_model.specs.Common.{Entry}
use Rattle.cf_register_parts.specs.Pairs.{Pairs, amount_at}
use Rattle.cf_books_documents.specs.Events.{events_from, none_lent, voucher_in}
use Rattle.cf_books_documents.specs.Indexed.{list_in, numbered}
use Rattle.cf_books_documents.proofs.Indexing.{entry_more}
use Rattle.cf_books_documents.proofs.index.numbered_of.Goals as goal

pub loop-entry-init : goal.loop-entry-init
loop-entry-init c =
    let plan = c.args.chart.now in
    let entries = c.args.entries.now in
    record {
      place = refl;
      events = λ n.
          let none : list_in (get nat_cmp c.new-lists.result n) ++ numbered n (events_from plan (voucher_in entries) none_lent 1 entries)
          ≡ numbered n (events_from plan (voucher_in entries) none_lent 1 entries) = first_of (search rules, grind (arith, common_steps)) in
          ap (λ (t : Pairs ℕ). list_in (get nat_cmp c.new-lists.result n) ++ numbered n (events_from plan (voucher_in entries) (amount_at t) 1 entries)) c.new-lent.ensures.empty
          ∙ none;
    }

pub loop-entry-preserved : goal.loop-entry-preserved
loop-entry-preserved c =
    let plan = c.args.chart.now in
    let entries = c.args.entries.now in
    let i = c.loop-entry.entry-index in
    let e = c.entry-item.result in
    let below : i < length entries = c.loop-entry-test.true in
    let later : List Entry = drop (i + 1) entries in
    let next : drop i entries ≡ get_or entries i e ∷ later = rw add-one (drop-cons entries i e below) in
    let split : drop i entries ≡ e ∷ later = next ∙ ap (λ (x : Entry). x ∷ later) (sym c.entry-item.is) in
    record {
      place = ap (λ p. p + 1) c.loop-entry.invariant.place;
      events = λ n.
          entry_more plan (voucher_in entries) (amount_at c.loop-entry.lent.entries) (amount_at c.note_loan.new.lent.entries) (c.loop-entry.place + 1) n e (drop i entries) later
          _ _ _ split c.in_ok-note_loan.ensures (c.in_ok-put_entry.ensures n) (c.loop-entry.invariant.events n);
    }
