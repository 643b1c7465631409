use Rattle.std.proofs.Common.{codes}
use Rattle.cf_json_calls.specs.CallText.{call_text, own_fields, optional_field}
use Rattle.cf_json_calls.proofs.Objects.{call_appended, text_of-first}
use Rattle.cf_json_calls.proofs.line.put_call.Goals as goal

pub returns-clause-text : goal.returns-clause-text
unfolding call_text
returns-clause-text c =
    let d = c.args.change.now in
    call_appended c.args.out.now.items _ _ _ _ _ _ _ _ _ c.in_ok-push.ensures.items c.in_ok-put_front.ensures.text c.in_ok-put_own.ensures.text c.in_ok-put_after.ensures.text c.in_ok-push-2.ensures.items
    (text_of-first d (own_fields d.act) (optional_field (codes "after") d.after))
