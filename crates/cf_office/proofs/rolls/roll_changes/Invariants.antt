use Rattle.std.proofs.Common.{◌≡◌}
use Rattle.cf_office.specs.Rolled.{changes_to}
use Rattle.cf_office.proofs.rolls.roll_changes.Given as goal

abbrev pub invariant-loop-line : goal.invariant-loop-line
invariant-loop-line l = l.changes.items ≡ changes_to l.history.plan l.history.entries l.year l.line
