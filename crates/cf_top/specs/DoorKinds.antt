-- What contracts know of a kind of door.
use Rattle.std.specs.Prelude.{Bool}
use Rattle.cf_http.specs.Doors.{DoorTells}
use Rattle.cf_http.specs.Links.{LinkTells}

pub record DoorKind (R L : Type 0) : Type 0 where
  -- what its links tell
  pub tells : L → LinkTells
  -- whether it tells the links that were finished
  pub known : Bool
  pub state : R → DoorTells L

abbrev pub door_kind : {R L : Type 0} → (L → LinkTells) → Bool → (R → DoorTells L) → DoorKind R L
door_kind tells known state = record { tells = tells; known = known; state = state }
