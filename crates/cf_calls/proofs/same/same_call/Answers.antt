use Rattle.cf_calls.proofs.SameCalls.{same_call_decides}
use Rattle.cf_calls.proofs.same.same_call.Goals as goal

pub returns-clause-equal : goal.returns-clause-equal
returns-clause-equal c = rw c.same_fields.ensures (same_call_decides c.args.a.now c.args.b.now)
