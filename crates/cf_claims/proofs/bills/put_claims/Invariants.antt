use Rattle.std.proofs.Common.{◌≡◌, ◌++◌, drop}
use Rattle.cf_claims.proofs.Claiming.{rest_lines}
use Rattle.cf_claims.proofs.bills.put_claims.Given as goal

abbrev pub invariant-loop-entry : goal.invariant-loop-entry
invariant-loop-entry l =
    l.out.items ++ rest_lines l.claimant.chart.now l.claimant.grant.now l.entries l.claimant.on l.claimant.desk l.left (drop l.entry-index l.entries)
    ≡ l.initial.out.items ++ rest_lines l.claimant.chart.now l.claimant.grant.now l.entries l.claimant.on l.claimant.desk l.initial.left l.entries
