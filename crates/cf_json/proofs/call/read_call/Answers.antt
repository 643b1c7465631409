use Rattle.std.proofs.Common.{ap, ◌∙◌}
use Rattle.serde_json.specs.View.{view}
use Rattle.cf_json.specs.Calls.{call_of, object_call_of, call_in}
use Rattle.cf_json.proofs.Values.{value_of-text, value_of-no_text, gives_along}
use Rattle.cf_json.proofs.call.read_call.Goals as goal

pub returns-in_default-clause-call : goal.returns-in_default-clause-call
returns-in_default-clause-call c = ap call_in (value_of-no_text c.args.bytes.now c.in_default.ensures.cases.0)

pub returns-in-Ok-from_str-clause-call : goal.returns-in-Ok-from_str-clause-call
returns-in-Ok-from_str-clause-call c =
    gives_along c.object_call.result (call_of c.args.bytes.now) (object_call_of (view c.in-Ok-from_str.value))
    (ap call_in (value_of-text c.args.bytes.now c.in-Ok.text.now c.in-Ok.ensures.cases.0 c.in-Ok.ensures.cases.1 ∙ c.in-Ok-from_str.ensures.ok))
    c.object_call.ensures.answer
