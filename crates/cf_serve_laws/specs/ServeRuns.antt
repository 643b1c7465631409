-- What a run of `serve` says of its doors and of its history.
use Rattle.std.specs.Prelude.{◌≡◌, ℕ, ◌+◌, List, [], ◌∷◌, ◌++◌, length, Bool, ⊤}
use mathlib.Core.List.{IsPrefix}
use Rattle.cf_model.specs.Common.{Call, Entry, IsSoundState}
use Rattle.cf_chart.specs.Common.{Plan}
use Rattle.cf_http.specs.declared.end.DoorEnd.{DoorEnd}
use Rattle.cf_http.specs.Doors.{DoorTells, DoorServed, IsEnough, IsQuiet}
use Rattle.cf_http.specs.Links.{LinkTells}
use Rattle.cf_turns.specs.Lists.{TaggedEntry}
use Rattle.cf_serve_laws.specs.Clerks.{Adds}
use Rattle.cf_hall_names.specs.Closing.{IsFreshPass, RoseBy}
use Rattle.cf_serve_laws.specs.Desks.{DeskState, DeskKept}
use Rattle.cf_serve_laws.specs.Joins.{EachIsOne}
use Rattle.cf_serve_laws.specs.PassTalks.{Said, PassTalk, failed_of, faults_of}

-- A door that was kept: it gave so many links, or fewer where none is left to come or it failed.
-- Each was served and finished, one after another, by one clerk; what was said there is a pass's
-- talk over the last history, from its opening on.
pub record DoorRan {L : Type 0} (tells : L → LinkTells) (known : Bool) (plan : Plan) (first : ℕ)
    (last : List Entry) (links : ℕ) (old new : DoorTells L) (said : List Said) : Type 0 where
  pub end : DoorEnd
  pub count : ℕ
  pub enough : IsEnough links new.coming end count
  pub quiet : IsQuiet old.faults new.faults end
  pub served : DoorServed tells Adds known [] said old new count
  pub talk : PassTalk plan last first said

-- each door, with what was said there
abbrev pub AllRan : {L : Type 0} → (L → LinkTells) → Bool → Plan → ℕ → List Entry → ℕ
    → List (DoorTells L) → List (DoorTells L) → List (List Said) → Type 0
AllRan tells known plan first last links [] [] [] = ⊤
AllRan tells known plan first last links (o ∷ olds) (n ∷ news) (said ∷ talks) =
    DoorRan tells known plan first last links o n said
    × AllRan tells known plan first last links olds news talks
AllRan tells known plan first last links _ _ _ = ⊥

-- how many calls were answered by a fault of the disk, at all doors
abbrev pub faults_said : List (List Said) → ℕ
faults_said [] = 0
faults_said (said ∷ talks) = faults_of said + faults_said talks

-- and which calls these are
abbrev pub failed_said : List (List Said) → List Call
failed_said [] = []
failed_said (said ∷ talks) = failed_of said ++ failed_said talks

-- The doors that were kept: each new entry of the last history is exactly one accepted reply's, at
-- one door.
pub record DoorsRan {L : Type 0} (tells : L → LinkTells) (known : Bool) (plan : Plan) (first : ℕ)
    (last : List Entry) (links : ℕ) (olds news : List (DoorTells L)) : Type 0 where
  pub talks : List (List Said)
  pub doors : AllRan tells known plan first last links olds news talks
  pub once : EachIsOne first (length last) talks

-- Doors were kept from a history to the last one, which begins with it and is sound. The doors'
-- talks make up what lies between. The calls answered by a fault of the disk are at most as many as
-- its count of faults rose by, which stands where there was none.
pub record ServeRan {L : Type 0} (tells : L → LinkTells) (known : Bool) (plan : Plan)
    (first last : List Entry) (links faults_old faults_new : ℕ)
    (olds news : List (DoorTells L)) : Type 0 where
  pub later : List Entry
  pub goes_on : last ≡ first ++ later
  pub sound : IsSoundState (record { plan = plan; entries = last })
  pub doors : DoorsRan tells known plan (length first) last links olds news
  pub faults : RoseBy (faults_said doors.talks) faults_old faults_new
  pub quiet : faults_said doors.talks ≡ 0 → faults_new ≡ faults_old

-- ---- how the workers come to it

abbrev pub door_of : {L : Type 0} → DeskState L → DoorTells L
door_of d = d.door

-- the desks were fresh, each was kept, and what its pass has seen then begins the list
abbrev pub AllKept : {L : Type 0} → (L → LinkTells) → Bool → Plan → ℕ → List TaggedEntry → ℕ
    → List (DeskState L) → List (DeskState L) → Type 0
AllKept tells known plan first list links [] [] = ⊤
AllKept tells known plan first list links (o ∷ olds) (n ∷ news) =
    IsFreshPass first o.pass × DeskKept tells known plan links o n × IsPrefix n.pass.seen list
    × AllKept tells known plan first list links olds news
AllKept tells known plan first list links _ _ = ⊥
