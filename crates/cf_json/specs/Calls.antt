-- The call that a line is, or the fault of its form.
use Rattle.std.specs.Prelude.{ℕ, ◌||◌, List, [], ◌∷◌, Bool, if◌then◌else◌, is_none, is_some, Option, Some, None, option_and_then, Result, Ok, Err, codes}
use Rattle.std.specs.Str.{is_utf8}
use Rattle.serde_json.specs.Data.{Data}
use Rattle.serde_json.specs.Find.{get, as_object}
use Rattle.serde_json.specs.Read.{read}
use Rattle.cf_calls.specs.declared.call.Call.{Call}
use Rattle.cf_calls.specs.declared.call.Call.TheVariants as call
use Rattle.cf_json_members.specs.declared.fault.FormFault.{FormFault}
use Rattle.cf_json_members.specs.declared.fault.FormFault.TheVariants as fault
use Rattle.cf_calls.specs.declared.kind.ActKind.{ActKind}
use Rattle.cf_json.specs.declared.words.LookWord.{LookWord}
use Rattle.cf_json_members.specs.Faults.{◌>>=◌}
use Rattle.cf_json_members.specs.Fields.{field, optional, only}
use Rattle.cf_json_members.specs.Kinds.{as_n16, as_count, as_key, as_day, as_word}
use Rattle.cf_json.specs.Words.{as_change, look_words}
use Rattle.cf_json.specs.Acts.{act_of, own_names}
use Rattle.cf_json.specs.Reads.{read_of, look_names}

-- the fields that every changing call has
abbrev pub change_names : List (List ℕ)
change_names = codes "call" ∷ codes "desk" ∷ codes "key" ∷ codes "on" ∷ codes "after" ∷ []

abbrev pub change_of : ActKind → Data → Result Call FormFault
change_of w d = do
  desk ← field as_n16 (codes "desk") d
  key ← field as_key (codes "key") d
  on ← field as_day (codes "on") d
  act ← act_of w on d
  after ← optional as_count (codes "after") d
  _ ← only change_names (own_names act) d
  Ok (call.Change (record { desk = desk; key = key; on = on; after = after; act = act }))

-- the fields that every look has
abbrev pub every_look_names : List (List ℕ)
every_look_names = codes "call" ∷ codes "after" ∷ []

abbrev pub look_of : LookWord → Data → Result Call FormFault
look_of w d = do
  read ← read_of w d
  after ← optional as_count (codes "after") d
  _ ← only every_look_names (look_names w) d
  Ok (call.Look (record { after = after; read = read }))

-- a field that changing calls alone have
abbrev pub has_hand : Data → Bool
has_hand d = is_some (get (codes "desk") d) || is_some (get (codes "key") d)
    || is_some (get (codes "on") d)

-- a word of both tables is the look where no such field is there
abbrev pub call_by : Option ActKind → Option LookWord → Data → Result Call FormFault
call_by None None d = Err fault.Call
call_by (Some w) None d = change_of w d
call_by None (Some l) d = look_of l d
call_by (Some w) (Some l) d = if has_hand d then change_of w d else look_of l d

abbrev pub named_call_of : Data → Result Call FormFault
named_call_of d = call_by (option_and_then as_change (get (codes "call") d))
    (option_and_then (as_word look_words) (get (codes "call") d)) d

abbrev pub object_call_of : Data → Result Call FormFault
object_call_of d = if is_none (as_object d) then Err fault.Json else named_call_of d

abbrev pub call_in : Option Data → Result Call FormFault
call_in None = Err fault.Json
call_in (Some d) = object_call_of d

-- the value that bytes are
abbrev pub value_of : List ℕ → Option Data
value_of bytes = if is_utf8 bytes then read bytes else None

-- the call that bytes are
abbrev pub call_of : List ℕ → Result Call FormFault
call_of bytes = call_in (value_of bytes)
