use Rattle.std.proofs.Common.{[], ◌∷◌, codes, FitsSigned, rules, w64}
use Rattle.std.proofs.Math.Facts.{to_z-of_z}
use Rattle.cf_base.proofs.Common.{on_ok_weaker}
use Rattle.cf_json_members.specs.Objects.{count}
use Rattle.cf_json_calls.specs.Values.{signed}
use Rattle.cf_json_calls.proofs.Objects.{two_appended}
use Rattle.cf_json_calls.proofs.acts.put_order_change.Goals as goal

pub returns-clause-text : goal.returns-clause-text
returns-clause-text c =
    let o = c.args.change.now in
    let fits : FitsSigned w64 c.args.change.now.by = search rules in
    on_ok_weaker c.put_signed_field.result
    (two_appended ((codes "order", count o.order) ∷ (codes "item", count o.item) ∷ (codes "fund", count o.fund) ∷ (codes "dept", count o.dept) ∷ (codes "object", count o.object) ∷ []) ((codes "by", signed o.by) ∷ []) _ _ _
    c.in_ok-put_fields.ensures)
    (simp to_z-of_z at c.put_signed_field.ensures)
