use Rattle.std.proofs.Common.{[], ◌∷◌, codes}
use Rattle.cf_base.proofs.Common.{on_ok_weaker}
use Rattle.cf_json_members.specs.Objects.{count, list_of}
use Rattle.cf_json_calls.specs.Values.{line_amount_data, source_amount_data}
use Rattle.cf_json_calls.proofs.Objects.{three_appended}
use Rattle.cf_json_calls.proofs.acts.put_adoption.Goals as goal

pub returns-clause-text : goal.returns-clause-text
returns-clause-text c =
    let a = c.args.adoption.now in
    rw (← c.as_slice.ensures, ← c.as_slice-2.ensures)
    (on_ok_weaker c.put_list_field-2.result
    (three_appended ((codes "fund", count a.fund) ∷ (codes "year", count a.year) ∷ []) ((codes "lines", list_of line_amount_data c.as_slice.result.now) ∷ []) ((codes "estimates", list_of source_amount_data c.as_slice-2.result.now) ∷ []) _ _ _ _
    c.in_ok-put_fields.ensures c.in_ok-put_list_field.ensures.text)
    c.put_list_field-2.ensures.text)
