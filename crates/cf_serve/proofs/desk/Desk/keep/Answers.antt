use Rattle.std.proofs.Common.{subst}
use Rattle.cf_serve_laws.specs.Desks.{DeskState, DeskKept}
use Rattle.cf_serve_laws.proofs.Keeping.{desk_kept}
use Rattle.cf_serve.proofs.desk.Desk.keep.Goals as goal

pub returns : goal.returns
returns g c =
    let tells = g.R.Link.Link.tells in
    let old : DeskState g.row.R-Link.Denot = record {
      pass = c.self.inside.clerk;
      door = g.R.Door.tells c.self.inside.door;
      end = c.self.inside.end;
    } in
    let new : DeskState g.row.R-Link.Denot = record {
      pass = c.serve_door-how.new.answer;
      door = g.R.Door.tells c.serve_door-how.new.door;
      end = c.serve_door-how.result;
    } in
    let s = c.serve_door-how.ensures.served in
    subst (λ (d : DeskState g.row.R-Link.Denot). DeskKept tells g.R.Door.known g.N.City.plan c.args.links d new) c.self.view_is
    (desk_kept tells g.R.Door.known g.N.City.plan c.args.links old new s.0 s.1 c.serve_door-how.ensures.faults s.2)
