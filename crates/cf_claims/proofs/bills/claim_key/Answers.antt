use Rattle.std.proofs.Common.{arith}
use Rattle.cf_json_members.proofs.Plain.{decimal-plain}
use Rattle.cf_claims.proofs.bills.claim_key.Goals as goal

pub returns-clause-plain : goal.returns-clause-plain
returns-clause-plain c = decimal-plain c.args.number (omega arith)
