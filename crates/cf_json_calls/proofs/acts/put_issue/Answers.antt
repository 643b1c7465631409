use Rattle.std.proofs.Common.{[], ◌∷◌, codes}
use Rattle.cf_base.proofs.Common.{on_ok_weaker}
use Rattle.cf_json_members.specs.Objects.{count}
use Rattle.cf_json_calls.specs.CallText.{terms_fields}
use Rattle.cf_json_calls.proofs.Objects.{two_appended}
use Rattle.cf_json_calls.proofs.acts.put_issue.Goals as goal

pub returns-clause-text : goal.returns-clause-text
returns-clause-text c =
    let i = c.args.issue.now in
    on_ok_weaker c.put_terms.result
    (two_appended ((codes "fund", count i.fund) ∷ (codes "amount", count i.amount) ∷ []) (terms_fields i.terms) _ _ _ c.in_ok-put_fields.ensures)
    c.put_terms.ensures.text
