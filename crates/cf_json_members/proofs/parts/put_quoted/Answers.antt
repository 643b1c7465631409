use Rattle.std.proofs.Common.{rules, append_assoc}
use Rattle.cf_json_members.proofs.Plain.{quoted_plain}
use Rattle.cf_json_members.proofs.parts.put_quoted.Goals as goal

pub returns-clause-text : goal.returns-clause-text
returns-clause-text c = rw (quoted_plain c.args.text.now c.requires) (search (rules, append_assoc))
