use Rattle.std.proofs.Common.{◌∙◌, ◌-ℤ◌, ap, rules}
use Rattle.cf_base.proofs.Common.{to_z-of_z}
use mir.Val.{SFits}
use mir.Syntax.{w128}
use Rattle.cf_model.specs.Common.{LineNumbers}
use Rattle.cf_books_month.specs.Amounts.{held}
use Rattle.cf_books_month.specs.Sums.{line_amounts}
use Rattle.cf_books_month.proofs.sums.MonthSums.line_amounts.Goals as goal

pub returns : goal.returns
unfolding line_amounts
returns c =
    let now : LineNumbers = c.numbers-now.result in
    let before : LineNumbers = c.numbers-before.result in
    let ago : LineNumbers = c.numbers-ago.result in
    let before_ago : LineNumbers = c.numbers-before_ago.result in
    let budget : SFits w128 now.appropriated = search rules in
    let on_order : SFits w128 now.encumbered = search rules in
    let holds : SFits w128 now.held = search rules in
    let left : SFits w128 now.room = search rules in
    let spent : SFits w128 now.expended = search rules in
    let spent_before : SFits w128 before.expended = search rules in
    let spent_ago : SFits w128 ago.expended = search rules in
    let spent_before_ago : SFits w128 before_ago.expended = search rules in
    let month : SFits w128 c.less.result = search rules in
    let month_ago : SFits w128 c.less-2.result = search rules in
    λ i. record {
      budget = (to_z-of_z w128 now.appropriated budget ∙ ap (λ (n : LineNumbers). n.appropriated) c.numbers-now.ensures) i;
      month = (to_z-of_z w128 c.less.result month ∙ c.less.ensures
          ∙ (λ j. held (to_z-of_z w128 now.expended spent j -ℤ to_z-of_z w128 before.expended spent_before j))
          ∙ (λ j. held ((c.numbers-now.ensures j).expended -ℤ (c.numbers-before.ensures j).expended))) i;
      year = (to_z-of_z w128 now.expended spent ∙ ap (λ (n : LineNumbers). n.expended) c.numbers-now.ensures) i;
      on_order = (to_z-of_z w128 now.encumbered on_order ∙ ap (λ (n : LineNumbers). n.encumbered) c.numbers-now.ensures) i;
      held = (to_z-of_z w128 now.held holds ∙ ap (λ (n : LineNumbers). n.held) c.numbers-now.ensures) i;
      left = (to_z-of_z w128 now.room left ∙ ap (λ (n : LineNumbers). n.room) c.numbers-now.ensures) i;
      month_ago = (to_z-of_z w128 c.less-2.result month_ago ∙ c.less-2.ensures
          ∙ (λ j. held (to_z-of_z w128 ago.expended spent_ago j -ℤ to_z-of_z w128 before_ago.expended spent_before_ago j))
          ∙ (λ j. held ((c.numbers-ago.ensures j).expended -ℤ (c.numbers-before_ago.ensures j).expended))) i;
      year_ago = (to_z-of_z w128 ago.expended spent_ago ∙ ap (λ (n : LineNumbers). n.expended) c.numbers-ago.ensures) i;
    }
