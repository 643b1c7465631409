-- What is claimed of a grant of a document.
use Rattle.std.specs.Prelude.{ℕ, List, Ok}
use Rattle.cf_model.specs.Common.{Day, Entry}
use Rattle.cf_chart.specs.Common.{Plan}
use Rattle.cf_grants.specs.declared.fault.GrantFault.TheVariants.{Unknown}
use Rattle.cf_grants.specs.Faults.{Checked, ◌>>=◌, or_fault}
use Rattle.cf_grants.specs.Grants.{grant_at}
use Rattle.cf_grants.specs.Reading.{grants_of}
use Rattle.cf_claims.specs.Claims.{claims_of, claim_lines}

-- the lines by which a desk claims it on a day, or the first fault of the document
abbrev pub claim_text : Plan → List Entry → List ℕ → ℕ → Day → ℕ → Checked (List ℕ)
claim_text plan history bytes id on desk = do
  grants ← grants_of plan bytes
  g ← or_fault (grant_at grants id) (Unknown id)
  Ok (claim_lines g on desk (claims_of plan g history))
