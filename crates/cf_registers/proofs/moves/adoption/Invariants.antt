use Rattle.std.proofs.Common.{◌≡◌, take}
use Rattle.cf_registers.specs.Moved.{adoption_changes}
use Rattle.cf_registers.proofs.moves.adoption.Given as goal

abbrev pub invariant-loop-row : goal.invariant-loop-row
invariant-loop-row l = l.changes.items ≡ adoption_changes l.year (take l.row-index l.rows)
