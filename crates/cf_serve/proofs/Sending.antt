-- A desk may go to another thread.
use denote.RattleType.{RattleType}
use denote.Param.Send.{IsSend, IsSync, sendable, struct_send, recorded_send, view_send}
use denote.Struct.Declared.{shape}
use denote.Ref.{NamedLft}
use Rattle.cf_hall_names.specs.declared.names.City as city
use Rattle.cf_disk.specs.declared.disk.Disk as disk
use Rattle.cf_http.specs.declared.door.Door as door
use Rattle.cf_http.specs.declared.link.Link as link
use Rattle.cf_hall.proofs.Sending.{shared_sync, pass_send}
use Rattle.cf_serve.specs.contracts.clerk.Clerk as clerk
use Rattle.cf_serve.specs.contracts.clerk.Clerk.TheInside as clerk_inside
use Rattle.cf_serve.specs.contracts.desk.Desk as served
use Rattle.cf_serve.specs.contracts.desk.Desk.TheInside as served_inside

pub clerk_send : (a : NamedLft) (N D H : RattleType) (n : city.Ghosts N.Denot) (d : disk.Ghosts D.Denot) → IsSync H → IsSend D → IsSend (clerk.the_row a N D H n d)
clerk_send a N D H n d syncs sends = view_send _ _ _ _ _ (recorded_send (clerk_inside.the_field a N D H n d).row _ _ (clerk_inside.the_type a N D H n d).to_one (struct_send (shape (clerk_inside.the_type a N D H n d))
    (search sendable depth 20, (search sendable depth 20, (search (sendable, shared_sync) depth 20, (pass_send N n, tt))))))

pub served_send : (a : NamedLft) (N D H R L : RattleType) (n : city.Ghosts N.Denot) (d : disk.Ghosts D.Denot) (r : door.Ghosts R.Denot L.Denot) (l : link.Ghosts L.Denot) → IsSend R → IsSync H → IsSend D → IsSend (served.the_row a N D H R L n d r l)
served_send a N D H R L n d r l door_sends syncs sends = view_send _ _ _ _ _ (recorded_send (served_inside.the_field a N D H R L n d r l).row _ _ (served_inside.the_type a N D H R L n d r l).to_one (struct_send (shape (served_inside.the_type a N D H R L n d r l))
    (search sendable depth 20, (clerk_send a N D H n d syncs sends, (search sendable depth 20, tt)))))
