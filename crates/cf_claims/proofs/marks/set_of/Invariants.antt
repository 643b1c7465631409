use Rattle.std.proofs.Common.{◌≡◌, ℕ, take, nat_cmp}
use Rattle.cf_base.proofs.Common.{contains}
use Rattle.cf_claims.specs.Claims.{has_number}
use Rattle.cf_claims.proofs.marks.set_of.Given as goal

abbrev pub invariant-loop-number : goal.invariant-loop-number
invariant-loop-number l = (q : ℕ) → contains nat_cmp l.set q ≡ has_number q (take l.number-index l.numbers)
