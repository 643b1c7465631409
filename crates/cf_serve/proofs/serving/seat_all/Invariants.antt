use Rattle.std.proofs.Common.{◌≡◌, ◌+◌, ◌++◌, length, map, All, vec_capacity}
use Rattle.cf_base.proofs.Common.{into_iter_items}
use Rattle.cf_hall_names.specs.Closing.{IsFreshPass}
use Rattle.cf_serve_laws.specs.ServeRuns.{door_of}
use Rattle.cf_serve.proofs.serving.seat_all.Given as goal

abbrev pub invariant-loop-door : goal.invariant-loop-door
invariant-loop-door g l = record {
  next : (goal.iterator-loop-door g).can_next l.door-iterator;
  finite : (goal.iterator-loop-door g).is_finite l.door-iterator;
  all : l.fn.doors.items ≡ l.yielded ++ into_iter_items l.door-iterator;
  pairs : length l.initial.passes.items ≡ length l.passes.items + length l.yielded;
  fresh : All (IsFreshPass g.N.City.first) l.passes.items;
  capacity : vec_capacity l.passes ≡ vec_capacity l.initial.passes;
  room : vec_capacity l.desks ≡ vec_capacity l.initial.desks;
  many : length l.desks.items ≡ length l.yielded;
  doors : map door_of l.desks.items ≡ map g.R.Door.tells l.yielded;
  seated : All (λ d. IsFreshPass g.N.City.first d.pass) l.desks.items;
}
