use Rattle.std.proofs.Common.{◌≡◌, ◌∙◌, ap, decimal, option_copied}
use Rattle.cf_base.specs.Common.{money_of, day_text}
use Rattle.cf_books_documents.specs.Facts.{kind_word, state_word}
use Rattle.cf_books_lists.specs.Records.{drawn_text, number_text}
use Rattle.cf_books_documents.specs.Text.{line_by}
use Rattle.cf_books_documents.specs.Texts.{events_text, paid_text, run_text}
use Rattle.cf_books_documents.proofs.text.put_row.Goals as goal

pub returns : goal.returns
returns c =
    let e = c.args.entry.now in
    let f = c.args.facts.now in
    let plan = c.args.chart.now in
    let payment = option_copied c.args.payment in
    let kind : c.as_slice.result.now ≡ kind_word f.kind = c.as_slice.ensures.value ∙ c.in_ok-kind.ensures.items ∙ c.as_bytes.ensures.value ∙ c.kind_word.ensures in
    let number : c.as_slice-2.result.now ≡ drawn_text f.number = c.as_slice-2.ensures.value ∙ c.in_ok-number.ensures in
    let item : c.as_slice-3.result.now ≡ drawn_text f.item = c.as_slice-3.ensures.value ∙ c.in_ok-item.ensures in
    let day : c.as_slice-4.result.now ≡ day_text e.change.on = c.as_slice-4.ensures ∙ c.day_text-day.ensures in
    let desk : c.as_slice-5.result.now ≡ decimal e.change.desk = c.as_slice-5.ensures.value ∙ c.in_ok-desk.ensures ∙ ap decimal c.from.ensures in
    let key : c.as_bytes-4.result.now ≡ e.change.key = c.as_bytes-4.ensures.value ∙ c.as_str.ensures in
    let party : c.as_slice-6.result.now ≡ drawn_text f.party = c.as_slice-6.ensures.value ∙ c.in_ok-party.ensures ∙ ap drawn_text c.from-2.ensures in
    let fund : c.as_slice-7.result.now ≡ number_text f.account.fund = c.as_slice-7.ensures.value ∙ c.in_ok-fund.ensures in
    let dept : c.as_slice-8.result.now ≡ number_text f.account.dept = c.as_slice-8.ensures.value ∙ c.in_ok-dept.ensures in
    let object : c.as_slice-9.result.now ≡ number_text f.account.object = c.as_slice-9.ensures.value ∙ c.in_ok-object.ensures in
    let line : c.as_slice-10.result.now ≡ number_text (line_by plan f.account f.year) = c.as_slice-10.ensures.value ∙ c.in_ok-line.ensures ∙ ap number_text c.line_of.ensures in
    let source : c.as_slice-11.result.now ≡ number_text f.source = c.as_slice-11.ensures.value ∙ c.in_ok-source.ensures in
    let year : c.as_slice-12.result.now ≡ number_text f.year = c.as_slice-12.ensures.value ∙ c.in_ok-year.ensures in
    let amount : c.as_bytes-5.result.now ≡ money_of f.amount = c.as_bytes-5.ensures.value ∙ c.as_str-2.ensures.value ∙ c.in_ok-amount.ensures in
    let left : c.as_bytes-6.result.now ≡ money_of f.left = c.as_bytes-6.ensures.value ∙ c.as_str-3.ensures.value ∙ c.in_ok-left.ensures in
    let state : c.as_slice-13.result.now ≡ state_word f.state = c.as_slice-13.ensures.value ∙ c.in_ok-state.ensures.items ∙ c.as_bytes-2.ensures.value ∙ c.state_word.ensures in
    let paid : c.as_slice-14.result.now ≡ paid_text payment = c.as_slice-14.ensures.value ∙ c.in_ok-paid.ensures in
    let key_of : c.as_slice-15.result.now ≡ run_text payment = c.as_slice-15.ensures.value ∙ c.in_ok-run.ensures.items ∙ c.as_bytes-3.ensures.value ∙ c.run_text.ensures in
    let done : c.as_slice-16.result.now ≡ events_text 0 c.args.events.now = c.as_slice-16.ensures.value ∙ c.in_ok-done.ensures in
    rw (← kind, ← number, ← item, ← day, ← desk, ← key, ← party, ← fund, ← dept, ← object, ← line, ← source, ← year, ← amount, ← left, ← state, ← paid, ← key_of, ← done)
    (rw c.as_slice-17.ensures at c.put.ensures)
