use Rattle.std.proofs.Common.{◌≡◌, ◌∙◌, decimal, [], codes}
use Rattle.cf_base.specs.Common.{day_text}
use Rattle.cf_books_lists.specs.Open.{period_text}
use Rattle.cf_books_lists.proofs.open.put_period.Goals as goal

pub returns : goal.returns
returns c =
    let e = c.args.entry.now in
    let none : c.as_slice-none.result.now ≡ [] = c.as_slice-none.ensures.value ∙ c.new-empty.ensures.items in
    let call : c.as_slice.result.now ≡ codes "close" = c.as_slice.ensures.value ∙ c.in_ok-call.ensures.items in
    let day : c.as_slice-2.result.now ≡ day_text e.change.on = c.as_slice-2.ensures ∙ c.day_text-day.ensures in
    let desk : c.as_slice-3.result.now ≡ decimal e.change.desk = c.as_slice-3.ensures.value ∙ c.in_ok-desk.ensures in
    let key : c.as_bytes.result.now ≡ e.change.key = c.as_bytes.ensures.value ∙ c.as_str.ensures in
    let closed : c.as_slice-4.result.now ≡ period_text c.args.period = c.as_slice-4.ensures.value ∙ c.in_ok-closed.ensures in
    rw (← day, ← desk, ← key, ← closed) (rw (c.as_slice-5.ensures, none, call) at c.put.ensures)
