use Rattle.std.proofs.Common.{◌∙◌, ap}
use Rattle.cf_books_month.specs.Days.{last_day, month_before}
use Rattle.cf_books_month.proofs.sums.month_sums.Goals as goal

pub invariant_of-result : goal.invariant_of-result
invariant_of-result c = record {
  last_is = record { same = c.in_ok-last.ensures.rest; through = c.in_ok-last.ensures.day ∙ c.last_day.ensures };
  before_is = record { same = c.in_ok-before.ensures.rest; through = c.in_ok-before.ensures.day ∙ c.last_day-2.ensures ∙ ap last_day c.month_before.ensures.value };
  last_ago_is = record { same = c.in_ok-last_ago.ensures.rest; through = c.in_ok-last_ago.ensures.day ∙ c.last_day-3.ensures ∙ ap last_day c.year_before-ago.ensures.value };
  before_ago_is = record {
    same = c.in_ok-before_ago.ensures.rest;
    through = c.in_ok-before_ago.ensures.day ∙ c.last_day-4.ensures ∙ ap last_day (c.month_before-2.ensures.value ∙ ap month_before c.year_before-ago.ensures.value);
  };
}
