use Rattle.std.proofs.Common.{◌≡◌, ◌<◌, ◌==◌, ℕ, Bool, false, arith}
use Rattle.cf_base.proofs.Common.{common_steps}
use Rattle.cf_debt.proofs.Payments.{small_at}
use Rattle.cf_debt.proofs.interest.charge_of.Goals as goal

some : (n : ℕ) (b : Bool) → b ≡ (n == 0) → b ≡ false → 0 < n
some n b e f = grind (arith, common_steps)

pub earned_by-before-requires-clause-owed : goal.earned_by-before-requires-clause-owed
earned_by-before-requires-clause-owed c = (small_at c.args.running.now 0 _ c.requires.small (some _ _ c.is_empty.ensures c.if-is_empty.false)).owed

pub earned_by-after-requires-clause-owed : goal.earned_by-after-requires-clause-owed
earned_by-after-requires-clause-owed c = (small_at c.args.running.now 0 _ c.requires.small (some _ _ c.is_empty.ensures c.if-is_empty.false)).owed

pub earned_by-requires-clause-owed : goal.earned_by-requires-clause-owed
earned_by-requires-clause-owed c = (small_at c.args.running.now 1 _ c.requires.small (omega (arith, c.if-running-gt1.true))).owed
