-- What a clerk at a door answers.
use Rattle.std.specs.Prelude.{◌≡◌, ℕ, List, [], ◌∷◌, ◌++◌, Option, Some, None, Result, Ok, Err, ⊤, Bool}
use Rattle.cf_model.specs.Common.{Call, Read, Body, Refused, Posted}
use Rattle.cf_calls.specs.declared.call.Call.TheVariants as call
use Rattle.cf_calls.specs.declared.read.Read.TheVariants as read
use Rattle.cf_calls.specs.declared.reply.Posted.TheVariants as posted
use Rattle.cf_chart.specs.Common.{Plan}
use Rattle.cf_http_heads.specs.declared.route.Route.{Route}
use Rattle.cf_http_heads.specs.declared.route.Route.TheVariants as route
use Rattle.cf_http.specs.declared.request.Request.{Request}
use Rattle.cf_http.specs.Doors.{DoorTells, DoorServed}
use Rattle.cf_http.specs.Links.{LinkTells}
use Rattle.cf_json_members.specs.declared.fault.FormFault.{FormFault}
use Rattle.cf_json.specs.Calls.{call_of}
use Rattle.cf_json_replies.specs.Replies.{text, form_text}
use Rattle.cf_turns.specs.States.{PassState}
use Rattle.cf_serve_laws.specs.PassTalks.{Said, Hears, Talked}

-- ---- requests

-- a look that says nothing of what its caller has seen
abbrev pub look_at : Read → Call
look_at r = call.Look (record { after = None; read = r })

-- the call that a request asks, or the fault of its form
abbrev pub asked_on : Route → List ℕ → Result Call FormFault
asked_on route.Calls body = call_of body
asked_on (route.Line line year) body = Ok (look_at (read.Line line year))
asked_on (route.Report year kind) body = Ok (look_at (read.Report year kind))

abbrev pub asked_by : Request → Result Call FormFault
asked_by request = asked_on request.route request.body

-- ---- answers

abbrev pub code_by : Body → ℕ
code_by (Refused r) = 409
code_by _ = 200

-- the code of an answer (RFC 9110): 200 OK, 409 Conflict for a refusal, 500 and 503 where the disk
-- or memory failed
abbrev pub code_of : Posted → ℕ
code_of (posted.Reply r) = code_by r.body
code_of posted.Disk = 500
code_of posted.NoMemory = 503

-- want of memory is answered by the door itself
abbrev pub IsWritten : Posted → Type 0
IsWritten posted.NoMemory = ⊥
IsWritten _ = ⊤

-- what a request is answered, and which call was made for it
pub data Asks (request : Request) : List Said → Option (ℕ × List ℕ) → Type 0 where
  form : (f : FormFault) → asked_by request ≡ Err f → Asks request [] (Some (400, form_text f))
  called : (c : Call) (given : Posted) → asked_by request ≡ Ok c → IsWritten given
      → Asks request ((c, given) ∷ []) (Some (code_of given, text given))
  memory : (c : Call) → asked_by request ≡ Ok c → Asks request ((c, posted.NoMemory) ∷ []) None
  -- there was no memory to read the call
  unread : Asks request [] None

-- a clerk by what was said so far
abbrev pub Adds : List Said → Request → Option (ℕ × List ℕ) → List Said → Type 0
Adds before request answer after = (said : List Said) × Asks request said answer
    × (after ≡ before ++ said)

-- a clerk by its pass
abbrev pub Passes : Plan → PassState → Request → Option (ℕ × List ℕ) → PassState → Type 0
Passes plan before request answer after = (said : List Said) × Asks request said answer
    × Talked plan before said after

-- a call was made, and what was given for it is appended
pub record AnswersCall (plan : Plan) (old new : PassState) (c : Call) (code : ℕ)
    (out_old out_new : List ℕ) : Type 0 where
  pub given : Posted
  pub hears : Hears plan old c given new
  pub written : IsWritten given
  pub code_is : code ≡ code_of given
  pub put : out_new ≡ out_old ++ text given

-- ---- a door

-- the links that a door gave were served one after another, and what was said there is what its
-- pass was told
pub record DoorKept {L : Type 0} (tells : L → LinkTells) (known : Bool) (plan : Plan)
    (before after : PassState) (old new : DoorTells L) (count : ℕ) : Type 0 where
  pub said : List Said
  pub served : DoorServed tells Adds known [] said old new count
  pub talked : Talked plan before said after
