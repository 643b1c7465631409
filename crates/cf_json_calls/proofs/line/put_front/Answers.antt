use Rattle.std.proofs.Common.{[], ◌∷◌, codes}
use Rattle.cf_base.proofs.Common.{on_ok_weaker}
use Rattle.serde_json.specs.Data.{string}
use Rattle.cf_json_members.specs.Objects.{count, day}
use Rattle.cf_json_calls.proofs.Objects.{first_appended}
use Rattle.cf_json_calls.proofs.line.put_front.Goals as goal

pub returns-clause-text : goal.returns-clause-text
returns-clause-text c =
    let d = c.args.change.now in
    rw (← c.call_word.ensures.value, ← c.as_str.ensures, ← c.as_bytes.ensures.value)
    (on_ok_weaker c.put_fields-2.result
    (first_appended (codes "call", string c.call_word.result.now) ((codes "desk", count d.desk) ∷ []) ((codes "key", string c.as_bytes.result.now) ∷ []) ((codes "on", day d.on) ∷ []) _ _ _ _
    c.in_ok-put_fields.ensures c.in_ok-put_key_field.ensures)
    c.put_fields-2.ensures)
