use Rattle.std.proofs.Common.{[], ◌∷◌, codes}
use Rattle.cf_base.proofs.Common.{on_ok_weaker}
use Rattle.cf_json_members.specs.Objects.{list_of}
use Rattle.cf_json_calls.specs.CallText.{number_field, optional_field}
use Rattle.cf_json_calls.specs.Values.{account_item_data}
use Rattle.cf_json_calls.proofs.Objects.{three_appended}
use Rattle.cf_json_calls.proofs.acts.put_order.Goals as goal

pub returns-clause-text : goal.returns-clause-text
returns-clause-text c =
    let o = c.args.order.now in
    rw (← c.as_slice.ensures)
    (on_ok_weaker c.put_list_field.result
    (three_appended (number_field (codes "vendor") o.vendor) (optional_field (codes "requisition") o.requisition) ((codes "items", list_of account_item_data c.as_slice.result.now) ∷ []) _ _ _ _
    c.in_ok-put_number_field.ensures c.in_ok-put_optional_word.ensures.text)
    c.put_list_field.ensures.text)
