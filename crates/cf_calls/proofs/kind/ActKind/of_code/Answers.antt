use Rattle.std.proofs.Common.{◌∙◌}
use Rattle.cf_calls.specs.Common.{kind_value}
use Rattle.cf_calls.proofs.KindsFound.{by_code}
use Rattle.cf_calls.proofs.kind.ActKind.of_code.Goals as goal

pub returns-clause-own : goal.returns-clause-own
unfolding kind_value
returns-clause-own c = λ kind is. c.copied.ensures ∙ c.find_code.ensures ∙ rw is (by_code kind)
