-- Desks: a door each, and the clerk who answers there.
use Rattle.std.specs.Prelude.{ℕ, Bool, true, false}
use Rattle.cf_chart.specs.Common.{Plan}
use Rattle.cf_http.specs.declared.end.DoorEnd.{DoorEnd}
use Rattle.cf_http.specs.declared.end.DoorEnd.TheVariants.{Done, DoorFault}
use Rattle.cf_http.specs.Doors.{DoorTells, IsEnough, IsQuiet}
use Rattle.cf_http.specs.Links.{LinkTells}
use Rattle.cf_turns.specs.States.{PassState}
use Rattle.cf_serve_laws.specs.Clerks.{DoorKept}

-- the clerk's pass, what the door tells, and how the service ended
pub record DeskState (L : Type 0) : Type 0 where
  pub pass : PassState
  pub door : DoorTells L
  pub end : DoorEnd

-- so many links were served at the desk, or fewer where none is left to come or the door failed
pub record DeskKept {L : Type 0} (tells : L → LinkTells) (known : Bool) (plan : Plan) (links : ℕ)
    (old new : DeskState L) : Type 0 where
  pub count : ℕ
  pub enough : IsEnough links new.door.coming new.end count
  pub quiet : IsQuiet old.door.faults new.door.faults new.end
  pub kept : DoorKept tells known plan old.pass new.pass old.door new.door count

abbrev pub is_fault : DoorEnd → Bool
is_fault (Done links) = false
is_fault (DoorFault links) = true

-- how many links the door gave
abbrev pub end_links : DoorEnd → ℕ
end_links (Done links) = links
end_links (DoorFault links) = links
