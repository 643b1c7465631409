-- The id of the grant that a fault is in.
use Rattle.std.specs.Prelude.{ℕ, Bool, true, false, if◌then◌else◌, List, [], ◌++◌, codes, decimal, Option, Some, None, option_and_then, Ok, Err}
use Rattle.toml.specs.Data.{Data, at as item_at, get}
use Rattle.cf_chart.specs.Common.{within}
use Rattle.cf_grants.specs.declared.fault.GrantFault.{GrantFault}
use Rattle.cf_grants.specs.declared.fault.GrantFault.TheVariants.{Missing, Bad, Twice}
use Rattle.cf_grants.specs.declared.fault.GrantKey.{GrantKey}
use Rattle.cf_grants.specs.declared.fault.GrantKey.TheVariants as key
use Rattle.cf_grants.specs.Faults.{Checked}
use Rattle.cf_grants.specs.Reading.{value_of}

-- the key isn't the id itself, and not the table's name, whose fault is that the table is no list
-- of grants
abbrev pub is_beside_id : GrantKey → Bool
is_beside_id key.Grant = false
is_beside_id key.Id = false
is_beside_id _ = true

abbrev pub place_if : Bool → ℕ → Option ℕ
place_if wanted at = if wanted then Some at else None

-- the place of the grant that a fault is in, where its id can say so
abbrev pub place_of : GrantFault → Option ℕ
place_of (Missing at k) = place_if (is_beside_id k) at
place_of (Bad at k) = place_if (is_beside_id k) at
place_of (Twice at) = Some at
place_of _ = None

-- the id of a row, where it is in form
abbrev pub id_in : Data → Option ℕ
id_in row = option_and_then (within 0 65535) (get (codes "id") row)

-- the id of a row, where it is known
abbrev pub id_text : Option ℕ → List ℕ
id_text None = []
id_text (Some id) = codes " (id " ++ (decimal id ++ codes ")")

abbrev pub id_at : ℕ → Data → Option ℕ
id_at at d = option_and_then id_in (option_and_then (item_at at) (get (codes "grant") d))

-- the same of a document's bytes
abbrev pub id_under : ℕ → Checked Data → Option ℕ
id_under at (Ok d) = id_at at d
id_under at (Err f) = None

-- the id of the grant that a fault of a document is in
abbrev pub fault_id : List ℕ → GrantFault → Option ℕ
fault_id bytes f = option_and_then (λ at. id_under at (value_of bytes)) (place_of f)
