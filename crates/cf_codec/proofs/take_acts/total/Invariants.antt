use Rattle.std.proofs.Common.{◌≡◌, ◌≤◌, ◌*◌, sum, take}
use Rattle.cf_codec.proofs.take_acts.total.Given as goal

abbrev pub invariant-loop-principal : goal.invariant-loop-principal
invariant-loop-principal l =
    (l.total ≡ sum (take l.principal-index l.principals))
    × (l.total ≤ 18446744073709551615 * l.principal-index)
