use Rattle.std.proofs.Common.{rules, ◌≡◌, ◌∙◌, ◌++◌, ap, Bool, ℕ, ℤ, List}
use Rattle.cf_base.proofs.Common.{to_z-of_z, on_ok_weaker}
use mir.Val.{SFits, of_z, to_z}
use mir.Syntax.{w128}
use Rattle.cf_chart.specs.Common.{Plan}
use Rattle.cf_books_lists.specs.Rows.{added}
use Rattle.cf_books_lists.proofs.Adding.{added_two}
use Rattle.cf_books_year.specs.YearBalances.{changed_text, kept_text, opening, opening_text}
use Rattle.cf_books_year.proofs.balances.put_section.Goals as goal

pub returns : goal.returns
returns c =
    let plan = c.args.rest.now.plan in
    let history = c.args.rest.now.entries in
    let accounts = c.args.accounts.now in
    let amount = opening c.args.basis plan c.args.year c.args.fund history accounts in
    let kept : Bool → List ℕ = λ csv. kept_text csv plan history c.args.basis c.args.year c.args.fund accounts in
    let opens : Bool → List ℕ = λ csv. opening_text csv plan c.args.basis c.args.fund amount in
    let changed : Bool → List ℕ = λ csv. changed_text csv plan history c.args.basis c.args.year c.args.fund accounts in
    let first = c.put_kept.new.out in
    let second = c.put_opening_unless_zero.new.out in
    let third = c.put_changed.new.out in
    let fits : SFits w128 c.opening-amount.result = search rules in
    let is : to_z w128 (of_z w128 c.opening-amount.result) ≡ amount = to_z-of_z w128 c.opening-amount.result fits ∙ c.opening-amount.ensures in
    let opened : second ≡ added first (opens first.csv) =
    c.in_ok-put_opening_unless_zero.ensures
    ∙ ap (λ (n : ℤ). added first (opening_text first.csv c.chart.result.now c.args.basis c.args.fund n)) is
    ∙ ap (λ (p : Plan). added first (opening_text first.csv p c.args.basis c.args.fund amount)) c.chart.ensures.value in
    on_ok_weaker c.put_changed.result
    (λ put.
    added_two kept (λ csv. opens csv ++ changed csv) c.args.out.now first third c.in_ok-put_kept.ensures
    (added_two opens changed first second third opened put))
    c.put_changed.ensures
