use Rattle.std.proofs.Common.{◌≡◌, true}
use Rattle.cf_registers.specs.Moved.{act_moves}
use Rattle.cf_registers.proofs.Lending.{are_touched}
use Rattle.cf_registers.proofs.Makes.{MadeSoFar}
use Rattle.cf_registers.proofs.moves.merged_moves.Given as goal

abbrev pub invariant-loop-nth : goal.invariant-loop-nth
invariant-loop-nth l = record {
  made : MadeSoFar l.chart l.nth (act_moves l.chart l.registers.registers l.on l.act) l.changes.items;
  touched : are_touched l.chart l.act l.changes.items ≡ true;
}
