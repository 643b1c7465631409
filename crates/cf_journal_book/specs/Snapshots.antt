-- What a book keeps for proofs alone.
use Rattle.std.specs.Prelude.{◌≡◌, ◌⊎◌, Option, Some, None}
use Rattle.std.specs.declared.snapshot.Snapshot.{Snapshot}
use Rattle.cf_model.specs.Common.{Entry}

abbrev pub doubt_of : Option (Snapshot Entry) → Option Entry
doubt_of None = None
doubt_of (Some s) = Some s.value

-- the entry that was in doubt, or this one
abbrev pub IsOneOf : Option Entry → Entry → Entry → Type 0
IsOneOf doubt entry e = (doubt ≡ Some e) ⊎ (e ≡ entry)
