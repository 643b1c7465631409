use Rattle.std.proofs.Common.{◌≡◌, ℕ, ◌<◌, ◌^◌, take, nat_cmp}
use Rattle.cf_base.proofs.Common.{get}
use Rattle.cf_claims.specs.Standing.{bill_of}
use Rattle.cf_claims.proofs.standing.bills_of.Given as goal

abbrev pub invariant-loop-entry : goal.invariant-loop-entry
invariant-loop-entry l = (n : ℕ) → n < 2 ^ 32 → get nat_cmp l.bills n ≡ bill_of (take l.entry-index l.entries) n
