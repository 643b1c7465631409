-- Eight marks, one for each stripe.
use Rattle.std.specs.Prelude.{ℕ, Bool, false, List, get_or}

abbrev pub mark_at : List Bool → ℕ → Bool
mark_at marks stripe = get_or marks stripe false
