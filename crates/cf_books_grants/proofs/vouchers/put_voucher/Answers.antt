use Rattle.std.proofs.Common.{◌≡◌, ◌∙◌, decimal}
use Rattle.cf_base.specs.Common.{day_text}
use Rattle.cf_books_grants.specs.Vouchers.{amount_text, bill_text, money, state_word}
use Rattle.cf_books_grants.proofs.vouchers.put_voucher.Goals as goal

pub returns : goal.returns
returns c =
    let v = c.args.voucher.now in
    let number : c.as_slice.result.now ≡ decimal v.number = c.as_slice.ensures.value ∙ c.in_ok-number.ensures in
    let day : c.as_slice-2.result.now ≡ day_text v.on = c.as_slice-2.ensures ∙ c.day_text-day.ensures in
    let year : c.as_slice-3.result.now ≡ decimal v.year = c.as_slice-3.ensures.value ∙ c.in_ok-year.ensures in
    let eligible : c.as_bytes.result.now ≡ money v.eligible = c.as_bytes.ensures.value ∙ c.as_str.ensures.value ∙ c.in_ok-eligible.ensures in
    let share : c.as_bytes-2.result.now ≡ money v.share = c.as_bytes-2.ensures.value ∙ c.as_str-2.ensures.value ∙ c.in_ok-share.ensures in
    let state : c.as_bytes-3.result.now ≡ state_word v.state = c.as_bytes-3.ensures.value ∙ c.state_word.ensures in
    let amount : c.as_bytes-4.result.now ≡ amount_text v.state = c.as_bytes-4.ensures.value ∙ c.as_str-3.ensures.value ∙ c.in_ok-amount.ensures in
    let bill : c.as_slice-4.result.now ≡ bill_text v.state = c.as_slice-4.ensures.value ∙ c.in_ok-bill.ensures in
    let left : c.as_bytes-5.result.now ≡ money v.left = c.as_bytes-5.ensures.value ∙ c.as_str-4.ensures.value ∙ c.in_ok-left.ensures in
    rw (← number, ← day, ← year, ← eligible, ← share, ← state, ← amount, ← bill, ← left) (rw c.as_slice-5.ensures at c.put.ensures)
