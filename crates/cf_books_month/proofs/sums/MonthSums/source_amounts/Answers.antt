use Rattle.std.proofs.Common.{◌∙◌, ◌-ℤ◌, ℤ, pos, rules}
use Rattle.cf_base.proofs.Common.{to_z-of_z}
use mir.Val.{SFits}
use mir.Syntax.{w128}
use Rattle.cf_books_month.specs.Amounts.{held}
use Rattle.cf_books_month.specs.Sums.{source_amounts}
use Rattle.cf_books_month.proofs.sums.MonthSums.source_amounts.Goals as goal

pub returns : goal.returns
unfolding source_amounts
returns c =
    let estimate : ℤ = c.estimated-estimate.result in
    let now : ℤ = c.received-now.result in
    let before : ℤ = c.received-before.result in
    let ago : ℤ = c.received-ago.result in
    let before_ago : ℤ = c.received-before_ago.result in
    let budget : SFits w128 estimate = search rules in
    let had : SFits w128 now = search rules in
    let had_before : SFits w128 before = search rules in
    let had_ago : SFits w128 ago = search rules in
    let had_before_ago : SFits w128 before_ago = search rules in
    let month : SFits w128 c.less.result = search rules in
    let left : SFits w128 c.less-2.result = search rules in
    let month_ago : SFits w128 c.less-3.result = search rules in
    λ i. record {
      budget = (to_z-of_z w128 estimate budget ∙ c.estimated-estimate.ensures) i;
      month = (to_z-of_z w128 c.less.result month ∙ c.less.ensures ∙ (λ j. held (to_z-of_z w128 now had j -ℤ to_z-of_z w128 before had_before j))
          ∙ (λ j. held (c.received-now.ensures j -ℤ c.received-before.ensures j))) i;
      year = (to_z-of_z w128 now had ∙ c.received-now.ensures) i;
      on_order = pos 0;
      held = pos 0;
      left = (to_z-of_z w128 c.less-2.result left ∙ c.less-2.ensures ∙ (λ j. held (to_z-of_z w128 estimate budget j -ℤ to_z-of_z w128 now had j))
          ∙ (λ j. held (c.estimated-estimate.ensures j -ℤ c.received-now.ensures j))) i;
      month_ago = (to_z-of_z w128 c.less-3.result month_ago ∙ c.less-3.ensures ∙ (λ j. held (to_z-of_z w128 ago had_ago j -ℤ to_z-of_z w128 before_ago had_before_ago j))
          ∙ (λ j. held (c.received-ago.ensures j -ℤ c.received-before_ago.ensures j))) i;
      year_ago = (to_z-of_z w128 ago had_ago ∙ c.received-ago.ensures) i;
    }
