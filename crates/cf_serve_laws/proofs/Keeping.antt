-- A door that was served by a clerk with a pass.
use Rattle.std.proofs.Common.{ℕ, List, [], ◌∷◌, ◌++◌, Bool, subst, refl}
use Rattle.cf_chart.specs.Common.{Plan}
use Rattle.cf_http.specs.Doors.{DoorTells, DoorServed, IsEnough, IsQuiet}
use Rattle.cf_http.specs.Links.{LinkTells}
use Rattle.cf_turns.specs.States.{PassState}
use Rattle.cf_serve_laws.specs.PassTalks.{Said, Talked}
use Rattle.cf_serve_laws.specs.Clerks.{Adds, Passes, DoorKept}
use Rattle.cf_serve_laws.specs.Desks.{DeskState, DeskKept}
use Rattle.cf_http.proofs.ServedAs.{Follows, door_served_as}

talked_on : (plan : Plan) (a b d : PassState) (said more : List Said) → Talked plan a said b → Talked plan b more d → Talked plan a (said ++ more) d
talked_on plan a b d [] more t u = subst (λ (p : PassState). Talked plan p more d) t u
talked_on plan a b d (s ∷ said) more t u = (t.0, t.1, talked_on plan t.0 b d said more t.2 u)

follows : (plan : Plan) (start : PassState) → Follows (Passes plan) Adds (λ p said. Talked plan start said p)
follows plan start = record { step = λ a c b request answer says fits. (b ++ says.0, (says.0, says.1, refl), talked_on plan start a c b says.0 fits says.2) }

pub door_kept : {L : Type 0} (tells : L → LinkTells) (known : Bool) (plan : Plan) (before after : PassState) (old new : DoorTells L) (count : ℕ)
    → DoorServed tells (Passes plan) known before after old new count → DoorKept tells known plan before after old new count
door_kept tells known plan before after old new count s =
    let d = door_served_as (Passes plan) Adds (λ p said. Talked plan before said p) (follows plan before) tells known before after [] old new count s refl in
    record { said = d.0; served = d.1; talked = d.2 }

pub desk_kept : {L : Type 0} (tells : L → LinkTells) (known : Bool) (plan : Plan) (links : ℕ) (old new : DeskState L) (count : ℕ) → IsEnough links new.door.coming new.end count → IsQuiet old.door.faults new.door.faults new.end
    → DoorServed tells (Passes plan) known old.pass new.pass old.door new.door count → DeskKept tells known plan links old new
desk_kept tells known plan links old new count enough quiet served =
    record { count = count; enough = enough; quiet = quiet; kept = door_kept tells known plan old.pass new.pass old.door new.door count served }
