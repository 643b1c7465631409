-- The statement of activities (GASB Statement 34: economic resources): what each function costs,
-- what its own revenues leave of that, and what the general revenues cover.
use Rattle.std.specs.Prelude.{ℕ, ℤ, Bool, true, false, pos, ◌+◌, ◌≤◌, ◌==◌, ◌+ℤ◌, ◌-ℤ◌, if◌then◌else◌, List, [], ◌∷◌, ◌++◌, map, flat_map, neg_ℤ, codes, unsigned_abs}
use Rattle.cf_calls.specs.declared.reply.Row.{Row}
use Rattle.cf_chart.specs.Common.{Plan}
use Rattle.cf_chart.specs.declared.rows.Function.{Function}
use Rattle.cf_chart.specs.declared.rows.RevenueKind.{RevenueKind}
use Rattle.cf_chart.specs.declared.rows.RevenueKind.TheVariants as kind
use Rattle.cf_chart.specs.declared.rows.RevenueSource.{RevenueSource}
use Rattle.cf_statements.specs.declared.activity.Activity.{Activity}
use Rattle.cf_statements.specs.declared.activity.RevenueClass.{RevenueClass}
use Rattle.cf_statements.specs.declared.activity.RevenueClass.TheVariants as class
use Rattle.cf_statements.specs.Sums.{Sums, gov_in, single, sum_where}

-- ---- revenues: those of a program, which is a function, and the general ones

abbrev pub is_in : RevenueClass → RevenueKind → Bool
is_in (class.Charges function) (kind.Charges f) = f == function
is_in (class.OperatingGrants function) (kind.OperatingGrant f) = f == function
is_in (class.CapitalGrants function) (kind.CapitalGrant f) = f == function
is_in class.General kind.PropertyTax = true
is_in class.General kind.Tax = true
is_in class.General kind.General = true
is_in _ _ = false

abbrev pub revenue : Sums → ℕ → RevenueSource → ℤ
revenue sums year source = neg_ℤ (gov_in sums year (400000 + source.id))

abbrev pub revenues : Sums → ℕ → RevenueClass → List RevenueSource → ℤ
revenues sums year class sources = sum_where (λ s. is_in class s.kind) (revenue sums year) sources

-- ---- activities

-- donated assets are capital contributions
abbrev pub activity_of : Sums → ℕ → List RevenueSource → ℕ → Activity
activity_of sums year sources function = record {
  expenses = gov_in sums year (500000 + function);
  charges = revenues sums year (class.Charges function) sources;
  operating_grants = revenues sums year (class.OperatingGrants function) sources;
  capital_grants = revenues sums year (class.CapitalGrants function) sources +ℤ neg_ℤ
      (gov_in sums year (450000 + function));
}

abbrev pub interest_of : Sums → ℕ → Activity
interest_of sums year =
    record {
      expenses = gov_in sums year 530000;
      charges = pos 0;
      operating_grants = pos 0;
      capital_grants = pos 0;
    }

abbrev pub plus : Activity → Activity → Activity
plus a b = record {
  expenses = a.expenses +ℤ b.expenses;
  charges = a.charges +ℤ b.charges;
  operating_grants = a.operating_grants +ℤ b.operating_grants;
  capital_grants = a.capital_grants +ℤ b.capital_grants;
}

-- each amount's size is at most this
pub record AreWithin (most : ℕ) (a : Activity) : Type 0 where
  pub expenses : unsigned_abs a.expenses ≤ most
  pub charges : unsigned_abs a.charges ≤ most
  pub operating_grants : unsigned_abs a.operating_grants ≤ most
  pub capital_grants : unsigned_abs a.capital_grants ≤ most

abbrev pub no_activity : Activity
no_activity = record
    { expenses = pos 0; charges = pos 0; operating_grants = pos 0; capital_grants = pos 0 }

abbrev pub of_functions : Sums → ℕ → List RevenueSource → List Function → Activity
of_functions sums year sources [] = no_activity
of_functions sums year sources (f ∷ functions) =
    plus (activity_of sums year sources f.id) (of_functions sums year sources functions)

abbrev pub total_activity : Plan → Sums → ℕ → Activity
total_activity plan sums year =
    plus (of_functions sums year plan.sources plan.functions) (interest_of sums year)

-- what a program's own revenues leave of its expenses
abbrev pub program_revenues : Activity → ℤ
program_revenues a = a.charges +ℤ (a.operating_grants +ℤ a.capital_grants)

abbrev pub net_expense : Activity → ℤ
net_expense a = a.expenses -ℤ program_revenues a

-- ---- the statement

abbrev pub activity_row : List ℕ → Activity → Row
activity_row label a =
    record {
      label = label;
      amounts = a.expenses ∷ a.charges ∷ a.operating_grants ∷ a.capital_grants ∷ net_expense a ∷ [];
    }

abbrev pub function_rows : Sums → ℕ → List RevenueSource → List Function → List Row
function_rows sums year sources functions =
    map (λ f. activity_row f.name (activity_of sums year sources f.id)) functions

abbrev pub general_rows : Sums → ℕ → List RevenueSource → List Row
general_rows sums year sources =
    flat_map (λ s. if is_in class.General s.kind then single s.name (revenue sums year s) ∷ []
    else []) sources

abbrev pub gains : Sums → ℕ → ℤ
gains sums year = neg_ℤ (gov_in sums year 460000)

-- general revenues and gains, less what the activities cost on the whole
abbrev pub change : Plan → Sums → ℕ → ℤ
change plan sums year =
    (revenues sums year class.General plan.sources +ℤ gains sums year) -ℤ net_expense
    (total_activity plan sums year)

abbrev pub activities_rows : Plan → Sums → ℕ → List Row
activities_rows plan sums year =
    function_rows sums year plan.sources plan.functions
    ++ (activity_row (codes "Interest on debt") (interest_of sums year)
    ∷ activity_row (codes "Total") (total_activity plan sums year)
    ∷ (general_rows sums year plan.sources
    ++ single (codes "Gain on sales") (gains sums year)
    ∷ single (codes "Change in net position") (change plan sums year)
    ∷ []))
