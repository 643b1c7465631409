use Rattle.std.proofs.Common.{[], ◌∷◌, codes}
use Rattle.cf_base.proofs.Common.{on_ok_weaker}
use Rattle.cf_json_members.specs.Objects.{list_of}
use Rattle.cf_json_calls.specs.CallText.{number_field, back_field}
use Rattle.cf_json_calls.specs.Values.{voucher_item_data}
use Rattle.cf_json_calls.proofs.Objects.{three_appended}
use Rattle.cf_json_calls.proofs.acts.put_voucher.Goals as goal

pub returns-clause-text : goal.returns-clause-text
returns-clause-text c =
    let v = c.args.voucher.now in
    rw (← c.as_slice.ensures)
    (on_ok_weaker c.put_list_field.result
    (three_appended (number_field (codes "vendor") v.vendor) (back_field v.back) ((codes "items", list_of voucher_item_data c.as_slice.result.now) ∷ []) _ _ _ _
    c.in_ok-put_number_field.ensures c.in_ok-put_back.ensures)
    c.put_list_field.ensures.text)
