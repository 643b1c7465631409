-- Acts by their kind.
use Rattle.std.proofs.Common.{◌≡◌}
use Rattle.cf_model.specs.Common.{Act}

-- an act of one kind
abbrev pub Is : {X : Type 0} → (X → Act) → Act → Type 0
Is make a = (x : _) × (a ≡ make x)
