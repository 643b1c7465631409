use Rattle.std.proofs.Common.{refl}
use Rattle.cf_classes.specs.Major.{is_tenth}
use Rattle.cf_classes.proofs.laws.worked_classes.Goals as goal

pub returns : goal.returns
unfolding is_tenth
returns c = (refl, refl, refl)
