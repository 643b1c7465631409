use Rattle.std.proofs.Common.{rules, ◌≡◌, ◌∙◌, ap, decimal}
use Rattle.cf_base.proofs.Common.{to_z-of_z}
use mir.Val.{SFits}
use mir.Syntax.{w128}
use Rattle.cf_base.specs.Common.{money_of}
use Rattle.cf_books_year.specs.Paid.{day_at, key_at, kind_word}
use Rattle.cf_books_year.proofs.paid.put_paid.Goals as goal

pub returns : goal.returns
returns c =
    let history = c.args.entries.now in
    let p = c.args.paid.now in
    let fits : SFits w128 p.amount = search rules in
    let vendor : c.as_slice.result.now ≡ decimal p.vendor = c.as_slice.ensures.value ∙ c.in_ok-vendor.ensures in
    let word : c.as_slice-2.result.now ≡ kind_word p.kind = c.as_slice-2.ensures.value ∙ c.in_ok-word.ensures.items ∙ c.as_bytes.ensures.value ∙ c.kind_word.ensures in
    let number : c.as_slice-3.result.now ≡ decimal p.number = c.as_slice-3.ensures.value ∙ c.in_ok-number.ensures in
    let key : c.as_bytes-2.result.now ≡ key_at history p.at = c.as_bytes-2.ensures.value ∙ c.key_at.ensures in
    let day : c.as_slice-4.result.now ≡ day_at history p.by = c.as_slice-4.ensures.value ∙ c.in_ok-day.ensures in
    let run : c.as_bytes-3.result.now ≡ key_at history p.by = c.as_bytes-3.ensures.value ∙ c.key_at-2.ensures in
    let amount : c.as_bytes-4.result.now ≡ money_of p.amount = c.as_bytes-4.ensures.value ∙ c.as_str.ensures.value ∙ c.in_ok-amount.ensures ∙ ap money_of (to_z-of_z w128 p.amount fits) in
    rw (← vendor, ← word, ← number, ← key, ← day, ← run, ← amount) (rw c.as_slice-5.ensures at c.put.ensures)
