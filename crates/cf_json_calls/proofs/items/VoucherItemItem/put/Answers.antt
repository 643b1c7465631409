use Rattle.cf_json_calls.specs.Values.{charge_fields}
use Rattle.cf_json_calls.proofs.Objects.{object_appended, text_of-account}
use Rattle.cf_json_calls.proofs.items.VoucherItemItem.put.Goals as goal

pub returns-clause-text : goal.returns-clause-text
returns-clause-text c =
    object_appended c.args.out.now.items _ _ _ _ _ _ _ c.in_ok-push.ensures.items c.in_ok-put_account.ensures.text c.in_ok-put_charge.ensures.text c.in_ok-push-2.ensures.items
    (text_of-account c.args.self.now.account (charge_fields c.args.self.now.charge))
