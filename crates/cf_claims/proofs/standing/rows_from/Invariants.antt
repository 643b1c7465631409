use Rattle.std.proofs.Common.{◌≡◌, ◌++◌, drop}
use Rattle.cf_claims.specs.Standing.{rows_from}
use Rattle.cf_claims.proofs.standing.rows_from.Given as goal

abbrev pub invariant-loop-entry : goal.invariant-loop-entry
invariant-loop-entry l =
    l.rows.items ++ rows_from l.chart l.grant l.entries l.left (drop l.entry-index l.entries)
    ≡ rows_from l.chart l.grant l.entries l.initial.left l.entries
