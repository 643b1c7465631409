use Rattle.std.proofs.Common.{codes}
use Rattle.cf_base.proofs.Common.{on_ok_weaker}
use Rattle.cf_json_calls.specs.CallText.{number_field, terms_fields}
use Rattle.cf_json_calls.specs.Values.{account_fields}
use Rattle.cf_json_calls.proofs.Objects.{three_appended}
use Rattle.cf_json_calls.proofs.acts.put_lease.Goals as goal

pub returns-clause-text : goal.returns-clause-text
returns-clause-text c =
    let l = c.args.lease.now in
    on_ok_weaker c.put_terms.result
    (three_appended (number_field (codes "vendor") l.vendor) (account_fields l.account) (terms_fields l.terms) _ _ _ _ c.in_ok-put_number_field.ensures c.in_ok-put_account.ensures.text)
    c.put_terms.ensures.text
