-- What a door in memory tells.
use Rattle.std.specs.Prelude.{ℕ, List, Bool, ltb, vec_len}
use Rattle.cf_http.specs.Doors.{DoorTells}
use Rattle.cf_http_links.specs.declared.memory.MemLink.{MemLink}
use Rattle.cf_http_links.specs.declared.memory.MemDoor.{MemDoor}

abbrev pub finished_of : MemDoor → List MemLink
finished_of d = d.finished.items

abbrev pub is_coming : MemDoor → Bool
is_coming d = ltb 0 (vec_len d.coming)

abbrev pub given_of : MemDoor → ℕ
given_of d = d.given

abbrev pub door_tells : MemDoor → DoorTells MemLink
door_tells d = record
    { finished = finished_of d; given = given_of d; coming = is_coming d; faults = d.faults }
