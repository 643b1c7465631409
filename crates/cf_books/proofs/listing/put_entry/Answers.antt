use Rattle.std.proofs.Common.{◌≡◌, ◌∙◌, decimal}
use Rattle.cf_base.specs.Common.{day_text}
use Rattle.cf_json_calls.specs.CallText.{call_word}
use Rattle.cf_books_lists.specs.Records.{drawn_text, money_if}
use Rattle.cf_books.proofs.listing.put_entry.Goals as goal

pub returns : goal.returns
returns c =
    let e = c.args.entry.now in
    let at : c.as_slice.result.now ≡ decimal c.args.place = c.as_slice.ensures.value ∙ c.in_ok-at.ensures in
    let day : c.as_slice-2.result.now ≡ day_text e.change.on = c.as_slice-2.ensures ∙ c.day_text-day.ensures in
    let desk : c.as_slice-3.result.now ≡ decimal e.change.desk = c.as_slice-3.ensures.value ∙ c.in_ok-desk.ensures in
    let key : c.as_bytes-2.result.now ≡ e.change.key = c.as_bytes-2.ensures.value ∙ c.as_str.ensures in
    let call : c.as_slice-4.result.now ≡ call_word e.change.act = c.as_slice-4.ensures.value ∙ c.in_ok-call.ensures.items ∙ c.as_bytes.ensures.value ∙ c.call_word.ensures.value in
    let amount : c.as_bytes-3.result.now ≡ money_if c.args.amount = c.as_bytes-3.ensures.value ∙ c.as_str-2.ensures.value ∙ c.in_ok-amount.ensures in
    let number : c.as_slice-5.result.now ≡ drawn_text e.drawn.number = c.as_slice-5.ensures.value ∙ c.in_ok-number.ensures in
    let second : c.as_slice-6.result.now ≡ drawn_text e.drawn.second = c.as_slice-6.ensures.value ∙ c.in_ok-second.ensures in
    rw (← at, ← day, ← desk, ← key, ← call, ← amount, ← number, ← second) (rw c.as_slice-7.ensures at c.put.ensures)
