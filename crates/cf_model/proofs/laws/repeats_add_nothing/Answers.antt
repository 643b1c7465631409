use Rattle.cf_model.proofs.Repeats as law
use Rattle.cf_model.proofs.laws.repeats_add_nothing.Goals as goal

pub returns : goal.returns
returns c = law.repeats_add_nothing
