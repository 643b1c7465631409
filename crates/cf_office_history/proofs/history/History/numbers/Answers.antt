use Rattle.std.proofs.Common.{◌∙◌, ap}
use Rattle.cf_budget.specs.Tables.{numbers_of}
use Rattle.cf_office_history.proofs.Numbers.{numbers_are_of}
use Rattle.cf_office_history.proofs.history.History.numbers.Goals as goal

pub returns : goal.returns
returns c =
    rw (← c.self.view_is)
    (c.numbers.ensures ∙ ap numbers_of (c.self.invariant c.args.line c.args.year (rw (← c.self.view_is) at c.requires.lent)) ∙ numbers_are_of c.self.inside.rest.now.plan c.self.inside.rest.now.entries c.args.line c.args.year)
