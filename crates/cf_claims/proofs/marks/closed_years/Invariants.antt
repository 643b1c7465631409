use Rattle.std.proofs.Common.{◌≡◌, take}
use Rattle.cf_claims.proofs.Years.{closed_years}
use Rattle.cf_claims.proofs.marks.closed_years.Given as goal

abbrev pub invariant-loop-entry : goal.invariant-loop-entry
invariant-loop-entry l = l.years.items ≡ closed_years (take l.entry-index l.entries)
