use Rattle.std.proofs.Common.{◌≡◌, ◌++◌, length, map, vec_capacity}
use Rattle.cf_base.proofs.Common.{into_iter_items}
use Rattle.cf_serve_laws.specs.ServeRuns.{door_of}
use Rattle.cf_serve.proofs.serving.part_all.Given as goal

abbrev pub invariant-loop-desk : goal.invariant-loop-desk
invariant-loop-desk g l = record {
  next : (goal.iterator-loop-desk g).can_next l.desk-iterator;
  finite : (goal.iterator-loop-desk g).is_finite l.desk-iterator;
  all : l.fn.desks.items ≡ l.yielded ++ into_iter_items l.desk-iterator;
  doors : map g.R.Door.tells l.doors.items ≡ map door_of l.yielded;
  passes : l.passes.items ≡ map (λ d. d.pass) l.yielded;
  doors_room : vec_capacity l.doors ≡ vec_capacity l.initial.doors;
  passes_room : vec_capacity l.passes ≡ vec_capacity l.initial.passes;
  doors_many : length l.doors.items ≡ length l.yielded;
  passes_many : length l.passes.items ≡ length l.yielded;
}
