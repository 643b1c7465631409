use Rattle.std.proofs.Common.{◌≡◌, ◌+◌, length, All, vec_capacity}
use Rattle.cf_hall_names.specs.Closing.{IsFreshPass}
use Rattle.cf_hall.proofs.hall.Hall.enter_all.Given as goal

-- so many passes were opened
abbrev pub invariant-loop-entered : goal.invariant-loop-entered
invariant-loop-entered g l = record {
  kept : l.self.kept ≡ l.initial.self.kept;
  entered : l.self.entered ≡ l.initial.self.entered + l._entered;
  many : length l.passes.items ≡ l._entered;
  capacity : vec_capacity l.passes ≡ vec_capacity l.initial.passes;
  fresh : All (IsFreshPass g.N.City.first) l.passes.items;
}
