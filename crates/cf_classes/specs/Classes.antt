-- The classes of fund balances (GASB Statement 54; which class a balance is in by the chart is an
-- own profile of it).
use Rattle.std.specs.Prelude.{◌≡◌, ◌≤ℤ◌, ℕ, ℤ, pos, ◌+◌, ◌==◌, ◌+ℤ◌, ◌-ℤ◌, int_lt, if◌then◌else◌, List, [], ◌∷◌, ◌++◌, Option, Some, None, flat_map, codes}
use Rattle.cf_model.specs.Common.{Row, BalanceClass, FundType, Line}
use Rattle.cf_chart.specs.Common.{Plan}
use Rattle.cf_chart.specs.declared.rows.BalanceClass.TheVariants as class
use Rattle.cf_chart.specs.declared.rows.Fund.{Fund}
use Rattle.cf_chart.specs.declared.rows.FundType.TheVariants as fund_type
use Rattle.cf_classes.specs.declared.classes.Classes.{Classes}
use Rattle.cf_statements.specs.Sums.{Sums, heading, single}

-- what the lines of a fund have encumbered in the year, by number from this one on
abbrev pub encumbered_from : Sums → ℕ → ℕ → ℕ → List Line → ℤ
encumbered_from sums year fund number [] = pos 0
encumbered_from sums year fund number (line ∷ rest) =
    (if line.fund == fund then (sums.numbers number year).encumbered else pos 0) +ℤ encumbered_from
    sums year fund (number + 1) rest

-- ---- the classes of a balance

-- what a fund's balance is constrained to: what the chart states, else assigned for capital
-- projects and restricted for others
abbrev pub class_of : FundType → Option BalanceClass → BalanceClass
class_of t (Some stated) = stated
class_of fund_type.CapitalProjects None = class.Assigned
class_of t None = class.Restricted

abbrev pub none : Classes
none = record {
  nonspendable = pos 0;
  restricted = pos 0;
  committed = pos 0;
  assigned = pos 0;
  unassigned = pos 0;
}

abbrev pub in_class : BalanceClass → ℤ → Classes
in_class class.Restricted balance = record none { restricted = balance }
in_class class.Committed balance = record none { committed = balance }
in_class class.Assigned balance = record none { assigned = balance }

abbrev pub lesser : ℤ → ℤ → ℤ
lesser a b = if int_lt a b then a else b

-- of the general fund what is encumbered is assigned, up to the balance, and the rest unassigned
abbrev pub general : ℤ → ℤ → Classes
general balance encumbered =
    record none {
      assigned = lesser encumbered balance;
      unassigned = balance -ℤ lesser encumbered balance;
    }

-- of a balance above zero
abbrev pub above_zero : FundType → BalanceClass → ℤ → ℤ → Classes
above_zero fund_type.Permanent constrained balance encumbered =
    record none { nonspendable = balance }
above_zero fund_type.General constrained balance encumbered = general balance encumbered
above_zero t constrained balance encumbered = in_class constrained balance

-- a balance that isn't above zero is unassigned
abbrev pub classes_by : FundType → BalanceClass → ℤ → ℤ → Classes
classes_by t constrained balance encumbered = if int_lt (pos 0) balance
    then above_zero t constrained balance encumbered else record none { unassigned = balance }

-- the classes of a fund's balance through the year
abbrev pub classes_of : Plan → Sums → ℕ → Fund → Classes
classes_of plan sums year f =
    classes_by f.fund_type (class_of f.fund_type f.balance_class) (sums.fund_balance year f.id)
    (encumbered_from sums year f.id 0 plan.lines)

abbrev pub class_sum : Classes → ℤ
class_sum c = c.nonspendable +ℤ (c.restricted +ℤ (c.committed +ℤ (c.assigned +ℤ c.unassigned)))

-- ---- the statement

abbrev pub class_rows : Classes → ℤ → List Row
class_rows c balance =
    single (codes "Nonspendable") c.nonspendable
    ∷ single (codes "Restricted") c.restricted
    ∷ single (codes "Committed") c.committed
    ∷ single (codes "Assigned") c.assigned
    ∷ single (codes "Unassigned") c.unassigned
    ∷ single (codes "Fund balance") balance
    ∷ []

abbrev pub fund_rows : Plan → Sums → ℕ → Fund → List Row
fund_rows plan sums year f =
    heading f.name ∷ class_rows (classes_of plan sums year f) (sums.fund_balance year f.id)

abbrev pub classes_rows : Plan → Sums → ℕ → List Row
classes_rows plan sums year =
    flat_map (fund_rows plan sums year) plan.funds
    ++ single (codes "Total fund balances") (sums.total year) ∷ []

-- the law of the statement: the classes of each fund sum to its balance
abbrev pub ClassesSum : Plan → Sums → ℕ → Type 0
ClassesSum plan sums year = (f : Fund)
    → class_sum (classes_of plan sums year f) ≡ sums.fund_balance year f.id

-- no class of a balance that isn't below zero is below zero or above the balance
abbrev pub IsWithin : ℤ → ℤ → Type 0
IsWithin balance amount = (pos 0 ≤ℤ amount) × (amount ≤ℤ balance)

pub record AreWithin (balance : ℤ) (c : Classes) : Type 0 where
  pub nonspendable : IsWithin balance c.nonspendable
  pub restricted : IsWithin balance c.restricted
  pub committed : IsWithin balance c.committed
  pub assigned : IsWithin balance c.assigned
  pub unassigned : IsWithin balance c.unassigned

abbrev pub ClassesWithin : Plan → Sums → ℕ → Type 0
ClassesWithin plan sums year = (f : Fund) → pos 0 ≤ℤ sums.fund_balance year f.id
    → AreWithin (sums.fund_balance year f.id) (classes_of plan sums year f)
