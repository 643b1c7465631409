use Rattle.std.proofs.Common.{◌≤◌, sym, subst}
use Rattle.cf_model.proofs.Common.{years_are}
use Rattle.cf_office_history.proofs.rest.Rest.open_year.Goals as goal

pub returns-clause-value : goal.returns-clause-value
returns-clause-value c = rw (← c.self.view_is) c.self.invariant.years

pub returns-clause-within : goal.returns-clause-within
returns-clause-within c =
    subst (λ y. y ≤ 2200) (sym c.self.invariant.years) ((years_are c.self.inside.chart c.self.inside.entries.items c.self.invariant.legal).last c.self.invariant.first_year)
