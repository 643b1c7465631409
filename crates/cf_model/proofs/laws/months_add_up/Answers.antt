use Rattle.cf_model.proofs.MonthSums as law
use Rattle.cf_model.proofs.laws.months_add_up.Goals as goal

pub returns-clause-assets : goal.returns-clause-assets
returns-clause-assets c = law.charges_add_up

pub returns-clause-bonds : goal.returns-clause-bonds
returns-clause-bonds c = law.interest_adds_up
