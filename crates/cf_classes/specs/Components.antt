-- The components of net position (GASB Statement 34; that all bonds and leases count as capital
-- debt is an own rule).
use Rattle.std.specs.Prelude.{◌≡◌, ℕ, ℤ, pos, ◌+ℤ◌, ◌-ℤ◌, List, [], ◌∷◌, codes}
use Rattle.cf_model.specs.Common.{Row, ReconShown}
use Rattle.cf_chart.specs.Common.{Plan}
use Rattle.cf_chart.specs.declared.rows.Fund.{Fund}
use Rattle.cf_classes.specs.Classes.{classes_of}
use Rattle.cf_classes.specs.declared.classes.Classes.{Classes}
use Rattle.cf_statements.specs.Sums.{Sums, single}

-- capital and right-to-use assets less bonds and leases, which a reconciliation has with their sign
-- turned
abbrev pub net_investment : ReconShown → ℤ
net_investment r = (r.capital_assets +ℤ r.right_to_use) +ℤ (r.bonds +ℤ r.leases)

-- what is restricted or nonspendable of a fund's balance
abbrev pub kept_back : Classes → ℤ
kept_back c = c.restricted +ℤ c.nonspendable

abbrev pub restricted_of : Plan → Sums → ℕ → Fund → ℤ
restricted_of plan sums year f = kept_back (classes_of plan sums year f)

-- .. and of all these funds'
abbrev pub restricted : Plan → Sums → ℕ → List Fund → ℤ
restricted plan sums year [] = pos 0
restricted plan sums year (f ∷ funds) =
    restricted_of plan sums year f +ℤ restricted plan sums year funds

abbrev pub unrestricted : Plan → Sums → ℕ → ReconShown → ℤ
unrestricted plan sums year r =
    r.net_position -ℤ (net_investment r +ℤ restricted plan sums year plan.funds)

abbrev pub rows_of : ℤ → ℤ → ℤ → ℤ → List Row
rows_of investment restricted rest net_position =
    single (codes "Net investment in capital assets") investment
    ∷ single (codes "Restricted") restricted
    ∷ single (codes "Unrestricted") rest
    ∷ single (codes "Net position") net_position
    ∷ []

abbrev pub component_rows : Plan → Sums → ℕ → ReconShown → List Row
component_rows plan sums year r =
    rows_of (net_investment r) (restricted plan sums year plan.funds)
    (unrestricted plan sums year r) r.net_position

-- the law of the statement: the components sum to net position
abbrev pub ComponentsSum : Plan → Sums → ℕ → ReconShown → Type 0
ComponentsSum plan sums year r =
    net_investment r +ℤ (restricted plan sums year plan.funds +ℤ unrestricted plan sums year r)
    ≡ r.net_position
