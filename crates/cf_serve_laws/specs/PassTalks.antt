-- What the calls of one pass are answered, over one history.
use Rattle.std.specs.Prelude.{◌≡◌, ℕ, ◌+◌, ◌≤◌, ◌<◌, List, [], ◌∷◌, ◌++◌, length, None, ⊤}
use mathlib.Core.List.{IsPrefix}
use Rattle.cf_model.specs.Common.{Call, Entry, Body, Done, Posted, Reply, IsLegal, body_of, next_of}
use Rattle.cf_calls.specs.declared.reply.Posted.TheVariants as posted
use Rattle.cf_chart.specs.Common.{Plan}
use Rattle.cf_turns.specs.States.{PassState}
use Rattle.cf_hall_names.specs.Telling.{IsAccepted, Tells}

-- a call, and what it was answered
abbrev pub Said : Type 0
Said = Call × Posted

-- ---- the accepted calls

abbrev pub place_by : ℕ → Body → List ℕ
place_by at (Done made None) = at ∷ []
place_by at _ = []

-- the place that the answer names, where it is that of an accepted change and of no repeat
abbrev pub place_of : Posted → List ℕ
place_of (posted.Reply r) = place_by r.at r.body
place_of _ = []

abbrev pub places_of : List Said → List ℕ
places_of [] = []
places_of (s ∷ said) = place_of s.1 ++ places_of said

-- how many were answered by a fault of the disk
abbrev pub fault_of : Posted → ℕ
fault_of posted.Disk = 1
fault_of _ = 0

abbrev pub faults_of : List Said → ℕ
faults_of [] = 0
faults_of (s ∷ said) = fault_of s.1 + faults_of said

-- and which calls these are
abbrev pub failed_by : Call → Posted → List Call
failed_by c posted.Disk = c ∷ []
failed_by c _ = []

abbrev pub failed_of : List Said → List Call
failed_of [] = []
failed_of (s ∷ said) = failed_by s.0 s.1 ++ failed_of said

-- ---- the talk of a pass

-- the step over the history before the reply's place adds the entry there, and gives the reply
pub record AddedAt (plan : Plan) (history : List Entry) (c : Call) (r : Reply) : Type 0 where
  pub before : List Entry
  pub entry : Entry
  pub front : IsPrefix (before ++ entry ∷ []) history
  pub at : r.at ≡ length before + 1
  pub body : body_of plan before c ≡ r.body
  pub next : next_of plan before c ≡ before ++ entry ∷ []

-- the step over the history to the reply's place gives the reply, and adds nothing
pub record KeptAt (plan : Plan) (history : List Entry) (c : Call) (r : Reply) : Type 0 where
  pub front : List Entry
  pub is_front : IsPrefix front history
  pub at : r.at ≡ length front
  pub body : body_of plan front c ≡ r.body
  pub next : next_of plan front c ≡ front

-- the call is a change that the rules accept over a front of the history, no shorter than so many
-- entries
pub record FailedAt (plan : Plan) (history : List Entry) (least : ℕ) (c : Call) : Type 0 where
  pub front : List Entry
  pub is_front : IsPrefix front history
  pub legal : IsLegal plan front
  pub long : least ≤ length front
  pub accepted : IsAccepted plan front c

-- What a call is answered, where the answers before it named no place above the first number, nor
-- this one above the last. A fault of the disk is answered to a change alone that the rules accept
-- over a front of the history no shorter than that.
pub data Says (plan : Plan) (history : List Entry) (least : ℕ) (c : Call) : Posted → ℕ
    → Type 0 where
  added : (r : Reply) → least < r.at → AddedAt plan history c r
      → Says plan history least c (posted.Reply r) r.at
  kept : (r : Reply) → least ≤ r.at → KeptAt plan history c r
      → Says plan history least c (posted.Reply r) r.at
  memory : Says plan history least c posted.NoMemory least
  disk : FailedAt plan history least c → Says plan history least c posted.Disk least

-- the calls of a pass in their order, from a place on
abbrev pub PassTalk : Plan → List Entry → ℕ → List Said → Type 0
PassTalk plan history least [] = ⊤
PassTalk plan history least (s ∷ said) = (at : ℕ) × Says plan history least s.0 s.1 at
    × PassTalk plan history at said

-- ---- how a pass comes to it

-- what a pass was told of a call, or of one whose answer could not be written
pub data Hears (plan : Plan) (old : PassState) (c : Call) : Posted → PassState → Type 0 where
  told : (given : Posted) (new : PassState) → Tells plan old new c given
      → Hears plan old c given new
  lost : (given : Posted) (new : PassState) → Tells plan old new c given → new.places ≡ old.places
      → new.faults ≡ old.faults → new.failed ≡ old.failed → Hears plan old c posted.NoMemory new

-- from one moment of a pass to another
abbrev pub Talked : Plan → PassState → List Said → PassState → Type 0
Talked plan old [] new = new ≡ old
Talked plan old (s ∷ said) new = (middle : PassState) × Hears plan old s.0 s.1 middle
    × Talked plan middle said new
