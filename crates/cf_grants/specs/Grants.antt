-- The grants of a city.
use Rattle.std.specs.Prelude.{ℕ, Bool, ◌==◌, is_some, List, find, Option}
use Rattle.cf_grants.specs.declared.grant.Grant.{Grant}

-- the grant of an id
abbrev pub grant_at : List Grant → ℕ → Option Grant
grant_at grants id = find (λ g. g.id == id) grants

abbrev pub has_grant : List Grant → ℕ → Bool
has_grant grants id = is_some (grant_at grants id)
