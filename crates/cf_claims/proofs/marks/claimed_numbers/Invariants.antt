use Rattle.std.proofs.Common.{◌≡◌, ℕ, ◌<◌, ◌^◌, take}
use Rattle.cf_claims.specs.Claims.{has_number, is_claimed}
use Rattle.cf_claims.proofs.marks.claimed_numbers.Given as goal

abbrev pub invariant-loop-entry : goal.invariant-loop-entry
invariant-loop-entry l = (n : ℕ) → n < 2 ^ 32 → has_number n l.numbers.items ≡ is_claimed (take l.entry-index l.entries) n
