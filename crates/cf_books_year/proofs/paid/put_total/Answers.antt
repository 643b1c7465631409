use Rattle.std.proofs.Common.{rules, ◌≡◌, ◌∙◌, ap, decimal}
use Rattle.cf_base.proofs.Common.{to_z-of_z}
use mir.Val.{SFits}
use mir.Syntax.{w128}
use Rattle.cf_base.specs.Common.{money_of}
use Rattle.cf_books_year.proofs.paid.put_total.Goals as goal

pub returns : goal.returns
returns c =
    let fits : SFits w128 c.args.total = search rules in
    let vendor : c.as_slice.result.now ≡ decimal c.args.vendor = c.as_slice.ensures.value ∙ c.in_ok-number.ensures in
    let amount : c.as_bytes.result.now ≡ money_of c.args.total = c.as_bytes.ensures.value ∙ c.as_str.ensures.value ∙ c.in_ok-amount.ensures ∙ ap money_of (to_z-of_z w128 c.args.total fits) in
    rw (← vendor, ← amount) (rw c.as_slice-2.ensures at c.put.ensures)
