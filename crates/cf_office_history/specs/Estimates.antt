-- The estimate of a source, as the adoption of its fund's budget has it.
use Rattle.std.specs.Prelude.{ℕ, List, [], Option, Some, None}
use Rattle.cf_model.specs.Common.{Adoption, Entry, SourceAmount, estimate_for, entry_at}
use Rattle.cf_calls.specs.Common.{adoption_of}

abbrev pub estimates_of : Option Adoption → List SourceAmount
estimates_of None = []
estimates_of (Some a) = a.estimates

abbrev pub estimated_in : ℕ → Option Entry → ℕ
estimated_in source None = 0
estimated_in source (Some e) = estimate_for source (estimates_of (adoption_of e.change.act))

-- what the entry at a place estimates of a source
abbrev pub estimated_at : ℕ → List Entry → Option ℕ → ℕ
estimated_at source history None = 0
estimated_at source history (Some place) = estimated_in source (entry_at history place)
