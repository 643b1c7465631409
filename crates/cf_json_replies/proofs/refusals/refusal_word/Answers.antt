use Rattle.std.proofs.Common.{◌≡◌, true, refl}
use Rattle.cf_base.proofs.Common.{list_all}
use Rattle.cf_calls.specs.Common.{name_of}
use Rattle.cf_calls.specs.declared.refusal.Refusal.{Refusal}
use Rattle.cf_calls.specs.declared.refusal.Refusal.TheVariants as refused
use Rattle.cf_json_members.specs.Parts.{is_plain}
use Rattle.cf_json_replies.proofs.refusals.refusal_word.Goals as goal

name_plain : (r : Refusal) → list_all is_plain (name_of r) ≡ true
name_plain (refused.DeskUnknown d) = refl
name_plain _ = refl

pub returns-clause-plain : goal.returns-clause-plain
returns-clause-plain c = rw c.name.ensures.value (name_plain c.args.refusal.now)
