-- Keys, of which an element may have one.
use Rattle.std.specs.Prelude.{Bool, false, Option, Some}

-- both have a key, and the keys are equal
abbrev pub same_key : {K : Type 0} → (K → K → Bool) → Option K → Option K → Bool
same_key eq (Some a) (Some b) = eq a b
same_key eq _ _ = false
