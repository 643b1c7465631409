use Rattle.std.proofs.Common.{[], ◌∷◌, codes}
use Rattle.cf_base.proofs.Common.{on_ok_weaker}
use Rattle.cf_json_members.specs.Objects.{count, list_of}
use Rattle.cf_json_calls.proofs.Objects.{two_appended}
use Rattle.cf_json_calls.proofs.acts.put_terms.Goals as goal

pub returns-clause-text : goal.returns-clause-text
returns-clause-text c =
    let t = c.args.terms.now in
    rw (← c.as_slice.ensures)
    (on_ok_weaker c.put_list_field.result
    (two_appended ((codes "rate_bp", count t.rate_bp) ∷ (codes "every", count t.every) ∷ []) ((codes "principals", list_of count c.as_slice.result.now) ∷ []) _ _ _
    c.in_ok-put_fields.ensures)
    c.put_list_field.ensures.text)
