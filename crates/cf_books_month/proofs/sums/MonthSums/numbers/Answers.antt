use Rattle.std.proofs.Common.{◌∙◌, ap}
use Rattle.cf_model.specs.Common.{Day}
use Rattle.cf_books_month.specs.Sums.{numbers_through}
use Rattle.cf_books_month.proofs.sums.MonthSums.numbers.Goals as goal

pub numbers_in-requires-clause-same : goal.numbers_in-requires-clause-same
numbers_in-requires-clause-same c = c.sums.ensures.same

pub returns : goal.returns
returns c =
    let s = c.args.self.now in
    c.numbers_in.ensures ∙ ap (λ (d : Day). numbers_through s.rest.now.plan s.rest.now.entries c.args.line c.args.year d) c.sums.ensures.through
