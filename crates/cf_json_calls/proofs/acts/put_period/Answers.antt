use Rattle.cf_json_calls.proofs.acts.put_period.Goals as goal

pub returns-in-Month : goal.returns-in-Month
returns-in-Month c = rw c.in-Month.is c.put_fields.ensures
