use Rattle.std.proofs.Common.{refl}
use Rattle.std.specs.Fmt.{digits}
use Rattle.json.specs.Print.{escape_byte}
use Rattle.cf_json_members.specs.Objects.{text_of}
use Rattle.cf_claims.proofs.laws.worked_grants.Goals as goal

pub returns-clause-claims : goal.returns-clause-claims
unfolding digits
returns-clause-claims c = (refl, refl, refl, refl, refl, refl)

pub returns-clause-bills : goal.returns-clause-bills
unfolding text_of escape_byte digits
returns-clause-bills c = refl
