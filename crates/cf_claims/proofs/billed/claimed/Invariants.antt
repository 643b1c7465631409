use Rattle.std.proofs.Common.{◌≡◌, ◌≤◌, ◌*◌, ◌^◌, take}
use Rattle.cf_claims.specs.Claims.{claimed}
use Rattle.cf_claims.proofs.billed.claimed.Given as goal

-- each summand is below 2^64
abbrev pub invariant-loop-entry : goal.invariant-loop-entry
invariant-loop-entry l = (l.sum ≡ claimed l.source (take l.entry-index l.entries)) × (l.sum ≤ l.entry-index * 2 ^ 64)
