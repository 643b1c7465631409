use Rattle.std.proofs.Common.{◌≡◌, ◌∙◌, ap, decimal, pos, [], ◌∷◌, List, ℕ, map}
use Rattle.cf_base.proofs.Common.{on_ok_weaker}
use Rattle.cf_base.specs.Common.{money_of, day_text}
use Rattle.cf_json_calls.specs.CallText.{call_word}
use Rattle.cf_books_lists.specs.Open.{due_text, interest_text, line_department, line_fund, line_of, next_text, number_of, part_row, party_of}
use Rattle.cf_books_lists.specs.Records.{drawn_text, number_text, record_text}
use Rattle.cf_books_lists.specs.Rows.{added}
use Rattle.cf_books_lists.proofs.open.put_part.Goals as goal

pub returns : goal.returns
returns c =
    let e = c.args.entry.now in
    let p = c.args.part in
    let plan = c.args.chart.now in
    let call : c.as_slice.result.now ≡ call_word e.change.act = c.as_slice.ensures.value ∙ c.in_ok-call.ensures.items ∙ c.as_bytes.ensures.value ∙ c.call_word.ensures.value in
    let number : c.as_slice-2.result.now ≡ decimal (number_of e) = c.as_slice-2.ensures.value ∙ c.in_ok-number.ensures ∙ ap decimal c.number_of.ensures in
    let item : c.as_slice-3.result.now ≡ drawn_text p.item = c.as_slice-3.ensures.value ∙ c.in_ok-item.ensures in
    let day : c.as_slice-4.result.now ≡ day_text e.change.on = c.as_slice-4.ensures ∙ c.day_text-day.ensures in
    let desk : c.as_slice-5.result.now ≡ decimal e.change.desk = c.as_slice-5.ensures.value ∙ c.in_ok-desk.ensures in
    let key : c.as_bytes-2.result.now ≡ e.change.key = c.as_bytes-2.ensures.value ∙ c.as_str.ensures in
    let party : c.as_slice-6.result.now ≡ drawn_text (party_of e.change.act) = c.as_slice-6.ensures.value ∙ c.in_ok-party.ensures ∙ ap drawn_text c.party_of.ensures in
    let year : c.as_slice-7.result.now ≡ number_text p.year = c.as_slice-7.ensures.value ∙ c.in_ok-year.ensures in
    let line : c.as_slice-8.result.now ≡ number_text p.line = c.as_slice-8.ensures.value ∙ c.in_ok-line.ensures in
    let fund : c.as_bytes-3.result.now ≡ line_fund plan (line_of plan p.line) = c.as_bytes-3.ensures.value ∙ c.line_fund.ensures ∙ ap (line_fund plan) c.line_of.ensures in
    let dept : c.as_bytes-4.result.now ≡ line_department plan (line_of plan p.line) = c.as_bytes-4.ensures.value ∙ c.line_department.ensures ∙ ap (line_department plan) c.line_of-2.ensures in
    let amount : c.as_bytes-5.result.now ≡ money_of (pos p.amount) = c.as_bytes-5.ensures.value ∙ c.as_str-2.ensures.value ∙ c.in_ok-amount.ensures in
    let next : c.as_slice-9.result.now ≡ next_text p.next = c.as_slice-9.ensures.value ∙ c.in_ok-next.ensures in
    let due : c.as_slice-10.result.now ≡ due_text p.due = c.as_slice-10.ensures.value ∙ c.in_ok-due.ensures in
    let interest : c.as_slice-11.result.now ≡ interest_text p.due = c.as_slice-11.ensures.value ∙ c.in_ok-interest.ensures in
    let closed : c.as_slice-12.result.now ≡ [] = c.as_slice-12.ensures.value ∙ c.new-closed.ensures.items in
    let row : map (λ f. f.now) c.as_slice-13.result.now ≡ part_row plan e p =
    ap (map (λ f. f.now)) c.as_slice-13.ensures
    ∙ (λ i. call i ∷ number i ∷ item i ∷ day i ∷ desk i ∷ key i ∷ party i ∷ year i ∷ line i ∷ fund i ∷ dept i ∷ amount i ∷ next i ∷ due i ∷ interest i ∷ closed i ∷ []) in
    let out = c.args.out.now in
    on_ok_weaker c.put.result (λ wrote. wrote ∙ ap (λ (fields : List (List ℕ)). added out (record_text out.csv fields)) row) c.put.ensures
