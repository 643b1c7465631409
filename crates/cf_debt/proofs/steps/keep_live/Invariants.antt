use Rattle.cf_debt.proofs.Lasting.{lasts}
use Rattle.cf_base.proofs.Common.{FiltersInPlace}
use Rattle.cf_debt.proofs.steps.keep_live.Given as goal

abbrev pub invariant-loop-k : goal.invariant-loop-k
invariant-loop-k l = FiltersInPlace (lasts l.closed l.bonds) l.initial.live.items l.live.items l.kept l.k
