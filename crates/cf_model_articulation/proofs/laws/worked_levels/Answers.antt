use Rattle.std.proofs.Common.{refl}
use Rattle.cf_model_articulation.proofs.laws.worked_levels.Goals as goal

pub returns-clause-carried : goal.returns-clause-carried
returns-clause-carried c = (refl, refl, refl)

pub returns-clause-shown : goal.returns-clause-shown
returns-clause-shown c = (refl, refl, refl)

pub returns-clause-lapsed : goal.returns-clause-lapsed
returns-clause-lapsed c = (refl, refl, refl)

pub returns-clause-lines : goal.returns-clause-lines
returns-clause-lines c = (refl, refl, refl, refl, refl, refl, refl)

pub returns-clause-accounts : goal.returns-clause-accounts
returns-clause-accounts c = (refl, refl, refl, refl, refl)

pub returns-clause-stripes : goal.returns-clause-stripes
returns-clause-stripes c = (refl, refl, refl, refl, refl)
