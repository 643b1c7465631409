use Rattle.cf_model.proofs.MonthSums as law
use Rattle.cf_model.proofs.laws.interest_by_days.Goals as goal

pub returns : goal.returns
returns c = law.earns_by_days
