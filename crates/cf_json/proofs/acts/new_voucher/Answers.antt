use Rattle.cf_base.proofs.Common.{list_all-from_AllPass}
use Rattle.cf_calls.specs.Common.{is_charge_form}
use Rattle.cf_json.proofs.acts.new_voucher.Goals as goal

pub returns-clause-form : goal.returns-clause-form
returns-clause-form c = λ on. record {
  count = c.in_ok-items.ensures.form.count;
  charges = list_all-from_AllPass (λ i. is_charge_form i.charge) c.in_ok-items.items c.in_ok-items.ensures.form.each_fits;
  apart = c.in_ok-items.ensures.form.apart;
}
