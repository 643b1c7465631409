use Rattle.std.proofs.Common.{◌≡◌, take}
use Rattle.cf_claims.specs.Claims.{paid_numbers}
use Rattle.cf_claims.proofs.marks.paid_numbers.Given as goal

abbrev pub invariant-loop-entry : goal.invariant-loop-entry
invariant-loop-entry l = l.numbers.items ≡ paid_numbers (take l.entry-index l.entries)
