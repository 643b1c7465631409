-- What a call is answered with, in JSON.
use Rattle.std.specs.Prelude.{ℕ, ◌≤◌, List, [], ◌∷◌, true, codes, Option, Some, None, ⊤}
use Rattle.serde_json.specs.Data.{Data, array, string, boolean}
use Rattle.cf_calls.specs.declared.reply.Made.{Made}
use Rattle.cf_calls.specs.declared.reply.Made.TheVariants.{Nothing, Requisition, Order, Voucher, Bill, Year, Asset, Bond, Lease, Paid}
use Rattle.cf_calls.specs.declared.reply.Body.{Body}
use Rattle.cf_calls.specs.declared.reply.Body.TheVariants.{Done, Refused, Shown}
use Rattle.cf_calls.specs.declared.reply.Reply.{Reply}
use Rattle.cf_calls.specs.declared.reply.Posted.{Posted}
use Rattle.cf_calls.specs.declared.reply.Posted.TheVariants as posted
use Rattle.cf_json_members.specs.declared.fault.FormFault.{FormFault}
use Rattle.cf_json_members.specs.declared.fault.FormFault.TheVariants as fault
use Rattle.cf_json_members.specs.Objects.{fields, count, cents, numbers_from, text_of}
use Rattle.cf_json_replies.specs.Refusals.{refusal_data}
use Rattle.cf_json_replies.specs.Shown.{shown_data}

-- what an accepted change made
abbrev pub made_data : Made → Data
made_data Nothing = fields []
made_data (Requisition number) = fields ((codes "requisition", count number) ∷ [])
made_data (Order number) = fields ((codes "order", count number) ∷ [])
made_data (Voucher number first_asset assets) =
    fields ((codes "assets", array (numbers_from first_asset assets))
    ∷ (codes "voucher", count number) ∷ [])
made_data (Bill number) = fields ((codes "bill", count number) ∷ [])
made_data (Year year) = fields ((codes "year", count year) ∷ [])
made_data (Asset number) = fields ((codes "asset", count number) ∷ [])
made_data (Bond number) = fields ((codes "bond", count number) ∷ [])
made_data (Lease asset bond) =
    fields ((codes "asset", count asset) ∷ (codes "bond", count bond) ∷ [])
made_data (Paid interest principal) =
    fields ((codes "interest", cents interest) ∷ (codes "principal", cents principal) ∷ [])

-- how many assets a result lists
abbrev pub assets_of : Made → ℕ
assets_of (Voucher number first_asset assets) = assets
assets_of _ = 0

-- the place of the earlier entry, where the call is a repeat
abbrev pub was_fields : Option ℕ → List (List ℕ × Data)
was_fields None = []
was_fields (Some m) = (codes "was", count m) ∷ []

abbrev pub body_fields : Body → List (List ℕ × Data)
body_fields (Done made was) = (codes "ok", made_data made) ∷ was_fields was
body_fields (Refused refusal) = (codes "no", refusal_data refusal) ∷ []
body_fields (Shown shown) = (codes "is", shown_data shown) ∷ []

-- the length of the history after the call, and what is said
abbrev pub reply_data : Reply → Data
reply_data r = fields ((codes "at", count r.at) ∷ body_fields r.body)

abbrev pub posted_data : Posted → Data
posted_data (posted.Reply r) = reply_data r
posted_data posted.Disk = fields ((codes "disk", boolean true) ∷ [])
posted_data posted.NoMemory = fields ((codes "memory", boolean true) ∷ [])

-- the text that answers a call
abbrev pub text : Posted → List ℕ
text p = text_of (posted_data p)

-- no answer of a look, and no more assets than a voucher has items
abbrev pub IsBriefBody : Body → Type 0
IsBriefBody (Done made was) = assets_of made ≤ 32
IsBriefBody (Refused refusal) = ⊤
IsBriefBody (Shown shown) = ⊥

-- the text has at most 1,023 bytes
abbrev pub IsBrief : Posted → Type 0
IsBrief (posted.Reply r) = IsBriefBody r.body
IsBrief posted.Disk = ⊤
IsBrief posted.NoMemory = ⊤

-- ---- form replies

abbrev pub form_fields : FormFault → List (List ℕ × Data)
form_fields fault.Json = (codes "form", string (codes "json")) ∷ []
form_fields fault.Call = (codes "form", string (codes "call")) ∷ []
form_fields (fault.Fields name) =
    (codes "form", string (codes "fields")) ∷ (codes "name", string name) ∷ []
form_fields fault.Long = (codes "form", string (codes "long")) ∷ []

-- the text that answers a line that is no call
abbrev pub form_text : FormFault → List ℕ
form_text f = text_of (fields (form_fields f))

-- a fault that names no field
abbrev pub IsNameless : FormFault → Type 0
IsNameless (fault.Fields name) = ⊥
IsNameless _ = ⊤
