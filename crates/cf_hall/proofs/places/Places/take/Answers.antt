use Rattle.std.proofs.Common.{◌≡◌, ℕ, ◌∙◌, arith}
use Rattle.cf_budget.specs.Tables.{has_stripe}
use Rattle.cf_model.specs.Common.{call_touches}
use Rattle.cf_hall_names.proofs.Eight.{eight}
use Rattle.cf_hall.proofs.places.Places.take.Goals as goal

pub returns-clause-exact : goal.returns-clause-exact
returns-clause-exact g c =
    let lines = c.of.result.lines in
    let there = c.of.ensures.there in
    let marks = c.taken_stripes-touched.ensures in
    eight (λ (k : ℕ). has_stripe lines k ≡ call_touches c.args.chart.now k c.args.call.now)
    (there 0 (omega arith) ∙ c.take_if-first.ensures ∙ marks 0 (omega arith))
    (there 1 (omega arith) ∙ c.take_if-second.ensures ∙ marks 1 (omega arith))
    (there 2 (omega arith) ∙ c.take_if-third.ensures ∙ marks 2 (omega arith))
    (there 3 (omega arith) ∙ c.take_if-fourth.ensures ∙ marks 3 (omega arith))
    (there 4 (omega arith) ∙ c.take_if-fifth.ensures ∙ marks 4 (omega arith))
    (there 5 (omega arith) ∙ c.take_if-sixth.ensures ∙ marks 5 (omega arith))
    (there 6 (omega arith) ∙ c.take_if-seventh.ensures ∙ marks 6 (omega arith))
    (there 7 (omega arith) ∙ c.take_if-eighth.ensures ∙ marks 7 (omega arith))
