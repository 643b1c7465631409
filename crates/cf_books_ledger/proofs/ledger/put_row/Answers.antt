use Rattle.std.proofs.Common.{◌≡◌, ◌∙◌, ap, decimal}
use Rattle.cf_base.specs.Common.{money_of, day_text}
use Rattle.cf_json_calls.specs.CallText.{call_word}
use Rattle.cf_books_lists.specs.Records.{drawn_text, money_if, number_text}
use Rattle.cf_books_ledger.specs.Ledger.{running}
use Rattle.cf_books_ledger.specs.Parties.{party_by}
use Rattle.cf_books_ledger.proofs.ledger.put_row.Goals as goal

pub returns : goal.returns
returns c =
    let e = c.args.entry.now in
    let r = c.args.row.now in
    let parties = c.args.parties.now in
    let place : c.as_slice.result.now ≡ decimal r.of.place = c.as_slice.ensures.value ∙ c.in_ok-place.ensures in
    let day : c.as_slice-2.result.now ≡ day_text e.change.on = c.as_slice-2.ensures ∙ c.day_text-day.ensures in
    let desk : c.as_slice-3.result.now ≡ decimal e.change.desk = c.as_slice-3.ensures.value ∙ c.in_ok-desk.ensures in
    let key : c.as_bytes-2.result.now ≡ e.change.key = c.as_bytes-2.ensures.value ∙ c.as_str.ensures in
    let call : c.as_slice-4.result.now ≡ call_word e.change.act = c.as_slice-4.ensures.value ∙ c.in_ok-call.ensures.items ∙ c.as_bytes.ensures.value ∙ c.call_word.ensures.value in
    let document : c.as_slice-5.result.now ≡ drawn_text r.of.document = c.as_slice-5.ensures.value ∙ c.in_ok-names.ensures.document in
    let item : c.as_slice-6.result.now ≡ drawn_text r.of.item = c.as_slice-6.ensures.value ∙ c.in_ok-names.ensures.item in
    let party : c.as_slice-7.result.now ≡ drawn_text (party_by parties e.change.act r) = c.as_slice-7.ensures.value ∙ c.in_ok-names.ensures.party ∙ ap drawn_text c.party_of.ensures in
    let fund : c.as_slice-8.result.now ≡ drawn_text r.fund = c.as_slice-8.ensures.value ∙ c.in_ok-names.ensures.fund in
    let dept : c.as_slice-9.result.now ≡ drawn_text r.dept = c.as_slice-9.ensures.value ∙ c.in_ok-names.ensures.dept in
    let object : c.as_slice-10.result.now ≡ drawn_text r.object = c.as_slice-10.ensures.value ∙ c.in_ok-names.ensures.object in
    let line : c.as_slice-11.result.now ≡ number_text r.line = c.as_slice-11.ensures.value ∙ c.in_ok-names.ensures.line in
    let source : c.as_slice-12.result.now ≡ number_text r.source = c.as_slice-12.ensures.value ∙ c.in_ok-names.ensures.source in
    let year : c.as_slice-13.result.now ≡ decimal r.year = c.as_slice-13.ensures.value ∙ c.in_ok-names.ensures.year in
    let appropriated : c.as_bytes-3.result.now ≡ money_of r.by.appropriated = c.as_bytes-3.ensures.value ∙ c.as_str-2.ensures.value ∙ c.in_ok-moneys.ensures.appropriated in
    let ordered : c.as_bytes-4.result.now ≡ money_of r.by.ordered = c.as_bytes-4.ensures.value ∙ c.as_str-3.ensures.value ∙ c.in_ok-moneys.ensures.ordered in
    let held : c.as_bytes-5.result.now ≡ money_of r.by.held = c.as_bytes-5.ensures.value ∙ c.as_str-4.ensures.value ∙ c.in_ok-moneys.ensures.held in
    let spent : c.as_bytes-6.result.now ≡ money_of r.by.spent = c.as_bytes-6.ensures.value ∙ c.as_str-5.ensures.value ∙ c.in_ok-moneys.ensures.spent in
    let received : c.as_bytes-7.result.now ≡ money_of r.by.received = c.as_bytes-7.ensures.value ∙ c.as_str-6.ensures.value ∙ c.in_ok-moneys.ensures.received in
    let total : c.as_bytes-8.result.now ≡ money_if (running r.source c.args.totals) = c.as_bytes-8.ensures.value ∙ c.as_str-7.ensures.value ∙ c.in_ok-moneys.ensures.running ∙ ap money_if c.running.ensures in
    rw (← place, ← day, ← desk, ← key, ← call, ← document, ← item, ← party, ← fund, ← dept, ← object, ← line, ← source, ← year, ← appropriated, ← ordered, ← held, ← spent, ← received, ← total)
    (rw c.as_slice-14.ensures at c.put.ensures)
