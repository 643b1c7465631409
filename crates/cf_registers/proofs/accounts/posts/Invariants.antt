use Rattle.std.proofs.Common.{◌≡◌, ◌++◌, drop}
use Rattle.cf_model.specs.Common.{posts_by}
use Rattle.cf_registers.proofs.accounts.posts.Given as goal

abbrev pub invariant-loop-deed : goal.invariant-loop-deed
invariant-loop-deed l = l.posts.items ++ posts_by l.basis (drop l.deed-index l.deeds) ≡ posts_by l.basis l.deeds
