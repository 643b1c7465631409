use Rattle.std.proofs.Common.{◌∙◌}
use Rattle.cf_calls.proofs.KindsFound.{by_word}
use Rattle.cf_calls.proofs.kind.ActKind.of_word.Goals as goal

pub returns-clause-own : goal.returns-clause-own
returns-clause-own c = λ kind is. c.copied.ensures ∙ c.find_word.ensures ∙ rw is (by_word kind)
