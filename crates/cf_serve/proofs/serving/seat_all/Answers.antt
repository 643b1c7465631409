use Rattle.std.proofs.Common.{All, List, IfSome, sym, subst, ◌∙◌}
use Rattle.cf_base.proofs.Common.{All-push, All-pop, into_iter_items}
use Rattle.cf_hall_names.specs.Closing.{IsFreshPass}
use Rattle.cf_serve_laws.specs.Desks.{DeskState}
use Rattle.cf_serve_laws.specs.ServeRuns.{door_of}
use Rattle.cf_serve.proofs.Seating.{one_on, long_on, fewer_on, paired_on}
use Rattle.cf_serve.proofs.serving.seat_all.Goals as goal

pub loop-door-preserved-in-Some-pop : goal.loop-door-preserved-in-Some-pop
loop-door-preserved-in-Some-pop g c =
    let l = c.loop-door in
    let split = All-pop (IsFreshPass g.N.City.first) l.passes.items c.pop.new.self.items c.pop.result c.pop.ensures.items l.invariant.fresh in
    let here : IsFreshPass g.N.City.first c.in-Some-pop.pass = subst (λ r. IfSome r (IsFreshPass g.N.City.first)) c.in-Some-pop.is split.1 in
    record {
      next = tt;
      finite = tt;
      all = one_on c.args.doors.items l.yielded (into_iter_items l.door-iterator) (into_iter_items c.next.new.self) c.in-Some.door l.invariant.all c.in-Some.ensures.steps.0;
      pairs = fewer_on _ l.passes.items c.pop.new.self.items l.yielded c.in-Some-pop.pass c.in-Some.door l.invariant.pairs c.in-Some-pop.ensures.items;
      fresh = split.0;
      capacity = c.pop.ensures.capacity ∙ l.invariant.capacity;
      room = c.push_reserved.ensures.capacity ∙ l.invariant.room;
      many = long_on l.desks.items c.push_reserved.new.self.items l.yielded c.seat.result c.in-Some.door l.invariant.many c.push_reserved.ensures.items;
      doors = paired_on (door_of {L = g.row.R-Link.Denot}) g.R.Door.tells l.desks.items c.push_reserved.new.self.items l.yielded c.seat.result c.in-Some.door
          l.invariant.doors c.seat.ensures.door c.push_reserved.ensures.items;
      seated = subst (λ (xs : List (DeskState g.row.R-Link.Denot)). All (λ (d : DeskState g.row.R-Link.Denot). IsFreshPass g.N.City.first d.pass) xs) (sym c.push_reserved.ensures.items)
          (All-push (λ (d : DeskState g.row.R-Link.Denot). IsFreshPass g.N.City.first d.pass) l.desks.items c.seat.result l.invariant.seated (subst (IsFreshPass g.N.City.first) (sym c.seat.ensures.pass) here));
    }
