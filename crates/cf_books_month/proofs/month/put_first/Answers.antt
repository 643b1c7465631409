use Rattle.std.proofs.Common.{◌≡◌, ◌∙◌}
use Rattle.cf_books_month.specs.Month.{first_fields, month_state}
use Rattle.cf_books_month.proofs.month.put_first.Goals as goal

pub returns : goal.returns
unfolding first_fields
returns c =
    let rest = c.args.rest.now in
    let state : c.as_slice.result.now ≡ month_state rest.plan rest.entries c.args.month = c.as_slice.ensures.value ∙ c.in_ok-state.ensures in
    rw (← state) (rw c.as_slice-2.ensures at c.put.ensures)
