-- The entries of a journal as calls.
use Rattle.std.specs.Prelude.{◌≡◌, ℕ, List, [], ◌∷◌, ◌++◌, flat_map, Ok}
use Rattle.cf_calls.specs.declared.call.Call.TheVariants as call
use Rattle.cf_model.specs.Common.{Entry}
use Rattle.cf_json.specs.Calls.{call_of}
use Rattle.cf_json_calls.specs.CallText.{call_text}

abbrev pub call_line : Entry → List ℕ
call_line e = call_text e.change ++ 10 ∷ []

-- a line an entry, in order
abbrev pub calls_text : List Entry → List ℕ
calls_text entries = flat_map call_line entries

-- what a desk reads of the entry's line is its change
pub record ReadsBack (e : Entry) : Type 0 where
  pub call : call_of (call_text e.change) ≡ Ok (call.Change e.change)
