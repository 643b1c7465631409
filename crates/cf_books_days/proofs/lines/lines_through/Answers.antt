use Rattle.std.proofs.Common.{◌∙◌, ◌+◌, ap, sym, drop, List}
use Rattle.cf_base.proofs.Common.{at_drop_more, at_drop_all}
use Rattle.cf_budget.specs.declared.row.Row.{Row}
use Rattle.cf_budget.specs.Tables.{row_plus}
use Rattle.cf_budget.proofs.Rows.{plus_zero, zero_plus}
use Rattle.cf_books_days.specs.declared.gathered.DatedChange.{DatedChange}
use Rattle.cf_books_days.specs.Gathered.{changed_through}
use Rattle.cf_books_days.specs.Lines.{row_in}
use Rattle.cf_books_days.specs.Through.{held_row}
use Rattle.cf_books_days.proofs.lines.lines_through.Goals as goal

pub loop-change-init : goal.loop-change-init
loop-change-init c = λ line year.
    let all = changed_through c.args.day line year c.args.changes.now in
    ap (λ (r : Row). held_row (row_plus r all)) (c.new-lines.ensures line year) ∙ ap held_row (zero_plus all)

pub loop-change-preserved : goal.loop-change-preserved
loop-change-preserved c = λ line year.
    let changes = c.args.changes.now in
    let i = c.loop-change.change-index in
    c.in_ok-add_through.ensures line year (changed_through c.args.day line year (drop (i + 1) changes))
    ∙ sym (at_drop_more (λ (ds : List DatedChange). held_row (row_plus (row_in c.loop-change.lines line year) (changed_through c.args.day line year ds))) changes i _ c.loop-change-test.true)
    ∙ c.loop-change.invariant line year

pub returns : goal.returns
returns c = λ line year.
    let changes = c.args.changes.now in
    sym (ap held_row (plus_zero (row_in c.loop-change.lines line year)))
    ∙ sym (at_drop_all (λ (ds : List DatedChange). held_row (row_plus (row_in c.loop-change.lines line year) (changed_through c.args.day line year ds))) changes c.loop-change.change-index c.loop-change-test.false)
    ∙ c.loop-change.invariant line year
