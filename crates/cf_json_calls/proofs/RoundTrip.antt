-- What is read of a change's line is that change.
use Rattle.std.proofs.Common.{◌≡◌, cond, None, Ok, ap, ◌∙◌, arith}
use Rattle.serde_json.specs.Read.{read}
use Rattle.cf_calls.specs.declared.call.Call.TheVariants as call
use Rattle.cf_calls.specs.declared.call.Change.{Change}
use Rattle.cf_calls.specs.Common.{IsChangeInForm}
use Rattle.cf_json.specs.Calls.{call_in, call_of}
use Rattle.cf_json_members.specs.Objects.{text_of}
use Rattle.cf_json_calls.specs.CallText.{call_data, call_text}
use Rattle.cf_json_calls.specs.Fits.{ChangeFits}
use Rattle.cf_json_calls.proofs.ReadBack.{read-compact_text, compact_text-utf8}
use Rattle.cf_json_calls.proofs.CallsBack.{object_call_of-call_data}
use Rattle.cf_json_calls.proofs.CallsShort.{call_data-short}

pub call_of-call_text : (c : Change) → IsChangeInForm c → ChangeFits c → call_of (call_text c) ≡ Ok (call.Change c)
unfolding call_text text_of
call_of-call_text c form fits =
    let short = call_data-short c form fits in
    ap (λ b. call_in (cond b (read (call_text c)) None)) (compact_text-utf8 3 (call_data c) short)
    ∙ ap call_in (read-compact_text 3 (call_data c) short (omega arith))
    ∙ object_call_of-call_data c form fits
