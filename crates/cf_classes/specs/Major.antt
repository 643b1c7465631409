-- Major funds (GASB Statement 34: the general fund, and each that has a tenth of some element of
-- all governmental funds).
use Rattle.std.specs.Prelude.{◌≡◌, ℕ, ℤ, pos, Bool, ◌||◌, ◌&&◌, ◌+ℤ◌, ◌-ℤ◌, ◌*ℤ◌, int_lt, int_le, if◌then◌else◌, List, [], ◌∷◌, ◌++◌, flat_map, codes, ◌≤◌, unsigned_abs}
use Rattle.cf_model.specs.Common.{Row}
use Rattle.cf_chart.specs.Common.{Plan, is_general}
use Rattle.cf_chart.specs.declared.rows.Fund.{Fund}
use Rattle.cf_classes.specs.declared.elements.Elements.{Elements}
use Rattle.cf_statements.specs.Operating.{total_revenues, total_expenditures}
use Rattle.cf_statements.specs.Sums.{Sums, heading, single}

-- ---- the elements of a fund

abbrev pub assets : Sums → ℕ → ℕ → ℤ
assets sums year fund =
    sums.through year fund 100000 +ℤ
    (sums.through year fund 110000 +ℤ sums.through year fund 120000)

-- with deferred inflows, their sign turned
abbrev pub liabilities : Sums → ℕ → ℕ → ℤ
liabilities sums year fund =
    pos 0 -ℤ ((sums.through year fund 200000 +ℤ sums.through year fund 210000) +ℤ
    (sums.through year fund 220000 +ℤ sums.through year fund 290000))

-- assets and liabilities through the year, revenues and expenditures of the year
abbrev pub elements_of : Plan → Sums → ℕ → Fund → Elements
elements_of plan sums year f = record {
  assets = assets sums year f.id;
  liabilities = liabilities sums year f.id;
  revenues = total_revenues sums year f.id plan.sources;
  expenditures = total_expenditures sums year f.id plan.functions;
}

abbrev pub nothing : Elements
nothing = record { assets = pos 0; liabilities = pos 0; revenues = pos 0; expenditures = pos 0 }

abbrev pub plus : Elements → Elements → Elements
plus a b = record {
  assets = a.assets +ℤ b.assets;
  liabilities = a.liabilities +ℤ b.liabilities;
  revenues = a.revenues +ℤ b.revenues;
  expenditures = a.expenditures +ℤ b.expenditures;
}

abbrev pub less : Elements → Elements → Elements
less a b = record {
  assets = a.assets -ℤ b.assets;
  liabilities = a.liabilities -ℤ b.liabilities;
  revenues = a.revenues -ℤ b.revenues;
  expenditures = a.expenditures -ℤ b.expenditures;
}

-- what f gives of the funds, together
abbrev pub over : (Fund → Elements) → List Fund → Elements
over f [] = nothing
over f (x ∷ xs) = plus (f x) (over f xs)

abbrev pub total_of : Plan → Sums → ℕ → Elements
total_of plan sums year = over (elements_of plan sums year) plan.funds

-- ---- major funds

-- at least a tenth of a total above zero
unfoldable pub is_tenth : ℤ → ℤ → Bool
is_tenth value total = int_lt (pos 0) total && int_le total (pos 10 *ℤ value)

abbrev pub stock_has_tenth : Elements → Elements → Bool
stock_has_tenth e total = is_tenth e.assets total.assets || is_tenth e.liabilities total.liabilities

abbrev pub flow_has_tenth : Elements → Elements → Bool
flow_has_tenth e total = is_tenth e.revenues total.revenues
    || is_tenth e.expenditures total.expenditures

abbrev pub has_tenth : Elements → Elements → Bool
has_tenth e total = stock_has_tenth e total || flow_has_tenth e total

abbrev pub is_major_by : Fund → Elements → Elements → Bool
is_major_by f e total = is_general f || has_tenth e total

abbrev pub is_major : Plan → Sums → ℕ → Elements → Fund → Bool
is_major plan sums year total f = is_major_by f (elements_of plan sums year f) total

abbrev pub major_part : Plan → Sums → ℕ → Elements → Fund → Elements
major_part plan sums year total f = if is_major plan sums year total f
    then elements_of plan sums year f else nothing

-- the major funds together, and the others
abbrev pub major_of : Plan → Sums → ℕ → Elements
major_of plan sums year = over (major_part plan sums year (total_of plan sums year)) plan.funds

abbrev pub others_of : Plan → Sums → ℕ → Elements
others_of plan sums year = less (total_of plan sums year) (major_of plan sums year)

-- what each fund gives that isn't major
abbrev pub other_part : Plan → Sums → ℕ → Elements → Fund → Elements
other_part plan sums year total f = if is_major plan sums year total f then nothing
    else elements_of plan sums year f

-- ---- the statement

abbrev pub amount_rows : Elements → List Row
amount_rows e =
    single (codes "Assets") e.assets ∷ single (codes "Liabilities") e.liabilities
    ∷ single (codes "Revenues") e.revenues ∷ single (codes "Expenditures") e.expenditures ∷ []

abbrev pub element_rows : List ℕ → Elements → List Row
element_rows name e = heading name ∷ amount_rows e

abbrev pub fund_rows : Plan → Sums → ℕ → Elements → Fund → List Row
fund_rows plan sums year total f = if is_major plan sums year total f
    then element_rows f.name (elements_of plan sums year f) else []

abbrev pub end_rows : Elements → Elements → List Row
end_rows others total =
    element_rows (codes "Other governmental funds") others ++ element_rows (codes "Total") total

abbrev pub rows_by : Plan → Sums → ℕ → Elements → Elements → List Fund → List Row
rows_by plan sums year total others funds =
    flat_map (fund_rows plan sums year total) funds ++ end_rows others total

abbrev pub major_rows : Plan → Sums → ℕ → List Row
major_rows plan sums year =
    rows_by plan sums year (total_of plan sums year) (others_of plan sums year) plan.funds

-- the law of the statement: the major and the other funds come to the total in each element
abbrev pub FundsSum : Plan → Sums → ℕ → Type 0
FundsSum plan sums year = plus (major_of plan sums year) (others_of plan sums year)
    ≡ total_of plan sums year

-- the other funds are those that aren't major, together
abbrev pub OthersSum : Plan → Sums → ℕ → Type 0
OthersSum plan sums year = others_of plan sums year
    ≡ over (other_part plan sums year (total_of plan sums year)) plan.funds

-- a fund's assets less its liabilities, with its deferred inflows among them, are its fund balance
abbrev pub BalancesAre : Plan → Sums → ℕ → Type 0
BalancesAre plan sums year = (f : Fund)
    → (elements_of plan sums year f).assets -ℤ (elements_of plan sums year f).liabilities
    ≡ sums.fund_balance year f.id

-- each element's size is at most this
pub record AreWithin (most : ℕ) (e : Elements) : Type 0 where
  pub assets : unsigned_abs e.assets ≤ most
  pub liabilities : unsigned_abs e.liabilities ≤ most
  pub revenues : unsigned_abs e.revenues ≤ most
  pub expenditures : unsigned_abs e.expenditures ≤ most
