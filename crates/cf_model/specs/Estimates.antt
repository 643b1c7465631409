-- The estimates of revenue sources (GASB Codification 1700: the adopted budget estimates revenues
-- too), as sums over the whole history.
use Rattle.std.specs.Prelude.{ℕ, if◌then◌else◌, ◌==◌, List, Option, Some, None, find, sum_by}
use Rattle.cf_calls.specs.declared.acts.Act.{Act}
use Rattle.cf_calls.specs.declared.acts.Act.TheVariants.{Adopt}
use Rattle.cf_calls.specs.declared.entry.Entry.{Entry}
use Rattle.cf_calls.specs.declared.items.SourceAmount.{SourceAmount}

abbrev pub amount_if : Option SourceAmount → ℕ
amount_if None = 0
amount_if (Some r) = r.amount

-- the amount that these rows name for a source, of which they have at most one
abbrev pub estimate_for : ℕ → List SourceAmount → ℕ
estimate_for source rows = amount_if (find (λ r. r.source == source) rows)

-- what an act estimates of a source for a fiscal year
abbrev pub estimated_by : ℕ → ℕ → Act → ℕ
estimated_by source year (Adopt a) = if a.year == year then estimate_for source a.estimates else 0
estimated_by source year _ = 0

-- the estimate of a source for a fiscal year
abbrev pub estimate : ℕ → ℕ → List Entry → ℕ
estimate source year history = sum_by (λ e. estimated_by source year e.change.act) history
