-- The classes of a balance sum to it, and the components to net position.
use Rattle.std.proofs.Common.{◌≡◌, ◌≤◌, ◌<◌, ◌^◌, ℕ, unsigned_abs, ℤ, pos, ◌+ℤ◌, ◌-ℤ◌, Bool, true, false, if◌then◌else◌, arith, int_lt}
use Rattle.cf_base.proofs.Common.{ints}
use Rattle.cf_model.specs.Common.{ReconShown, BalanceClass, Restricted, Committed, Assigned, FundType, General, SpecialRevenue, CapitalProjects, DebtService, Permanent}
use Rattle.cf_chart.specs.declared.rows.Fund.{Fund}
use Rattle.cf_chart.specs.Common.{Plan}
use Rattle.cf_classes.specs.Classes.{ClassesSum, above_zero, class_of, class_sum, classes_by, classes_of, encumbered_from, in_class, lesser, none}
use Rattle.cf_classes.specs.Components.{ComponentsSum, kept_back, net_investment, restricted, restricted_of}
use Rattle.cf_classes.specs.declared.classes.Classes.{Classes}
use Rattle.cf_classes.specs.Sizes.{AreSmall}
use Rattle.cf_statements.specs.Sums.{Sums}

-- ---- the classes sum to the balance

placed : (c : BalanceClass) (balance : ℤ) → class_sum (in_class c balance) ≡ balance
placed Restricted balance = omega (arith, ints)
placed Committed balance = omega (arith, ints)
placed Assigned balance = omega (arith, ints)

above : (t : FundType) (c : BalanceClass) (balance encumbered : ℤ) → class_sum (above_zero t c balance encumbered) ≡ balance
above General c balance encumbered = rest (lesser encumbered balance) balance
  where
    rest : (a b : ℤ) → pos 0 +ℤ (pos 0 +ℤ (pos 0 +ℤ (a +ℤ (b -ℤ a)))) ≡ b
    rest a b = omega (arith, ints)
above Permanent c balance encumbered = omega (arith, ints)
above SpecialRevenue c balance encumbered = placed c balance
above CapitalProjects c balance encumbered = placed c balance
above DebtService c balance encumbered = placed c balance

pub whole : (t : FundType) (c : BalanceClass) (balance encumbered : ℤ) → class_sum (classes_by t c balance encumbered) ≡ balance
whole t c balance encumbered = by (int_lt (pos 0) balance)
  where
    by : (b : Bool) → class_sum (if b then above_zero t c balance encumbered else record none { unassigned = balance }) ≡ balance
    by true = above t c balance encumbered
    by false = omega (arith, ints)

pub classes_sum : (plan : Plan) (sums : Sums) (year : ℕ) → ClassesSum plan sums year
classes_sum plan sums year f = whole f.fund_type (class_of f.fund_type f.balance_class) (sums.fund_balance year f.id) (encumbered_from sums year f.id 0 plan.lines)

-- ---- what is restricted or nonspendable is no larger than the balance

-- so are each of the two
record AreKept (balance : ℤ) (c : Classes) : Type 0 where
  both : unsigned_abs (kept_back c) ≤ unsigned_abs balance
  restricted : unsigned_abs c.restricted ≤ unsigned_abs balance
  nonspendable : unsigned_abs c.nonspendable ≤ unsigned_abs balance

placed_kept : (c : BalanceClass) (balance : ℤ) → AreKept balance (in_class c balance)
placed_kept Restricted balance = record { both = omega (arith, ints); restricted = omega (arith, ints); nonspendable = omega (arith, ints) }
placed_kept Committed balance = record { both = omega (arith, ints); restricted = omega (arith, ints); nonspendable = omega (arith, ints) }
placed_kept Assigned balance = record { both = omega (arith, ints); restricted = omega (arith, ints); nonspendable = omega (arith, ints) }

above_kept : (t : FundType) (c : BalanceClass) (balance encumbered : ℤ) → AreKept balance (above_zero t c balance encumbered)
above_kept General c balance encumbered = record { both = omega (arith, ints); restricted = omega (arith, ints); nonspendable = omega (arith, ints) }
above_kept Permanent c balance encumbered = record { both = omega (arith, ints); restricted = omega (arith, ints); nonspendable = omega (arith, ints) }
above_kept SpecialRevenue c balance encumbered = placed_kept c balance
above_kept CapitalProjects c balance encumbered = placed_kept c balance
above_kept DebtService c balance encumbered = placed_kept c balance

kept_by : (t : FundType) (c : BalanceClass) (balance encumbered : ℤ) → AreKept balance (classes_by t c balance encumbered)
kept_by t c balance encumbered = by (int_lt (pos 0) balance)
  where
    by : (b : Bool) → AreKept balance (if b then above_zero t c balance encumbered else record none { unassigned = balance })
    by true = above_kept t c balance encumbered
    by false = record { both = omega (arith, ints); restricted = omega (arith, ints); nonspendable = omega (arith, ints) }

kept_of : (plan : Plan) (sums : Sums) (year : ℕ) (f : Fund) → AreKept (sums.fund_balance year f.id) (classes_of plan sums year f)
kept_of plan sums year f = kept_by f.fund_type (class_of f.fund_type f.balance_class) (sums.fund_balance year f.id) (encumbered_from sums year f.id 0 plan.lines)

pub kept_small : (plan : Plan) (sums : Sums) (year : ℕ) (f : Fund) → AreSmall plan sums year → unsigned_abs (restricted_of plan sums year f) < 2 ^ 108
kept_small plan sums year f small = omega (arith, (kept_of plan sums year f).both, small.balances f.id)

pub restricted_small : (plan : Plan) (sums : Sums) (year : ℕ) (f : Fund) → AreSmall plan sums year → unsigned_abs (classes_of plan sums year f).restricted < 2 ^ 108
restricted_small plan sums year f small = omega (arith, (kept_of plan sums year f).restricted, small.balances f.id)

pub nonspendable_small : (plan : Plan) (sums : Sums) (year : ℕ) (f : Fund) → AreSmall plan sums year → unsigned_abs (classes_of plan sums year f).nonspendable < 2 ^ 108
nonspendable_small plan sums year f small = omega (arith, (kept_of plan sums year f).nonspendable, small.balances f.id)

-- ---- the components sum to net position

pub components_sum : (plan : Plan) (sums : Sums) (year : ℕ) (r : ReconShown) → ComponentsSum plan sums year r
components_sum plan sums year r = rest (net_investment r) (restricted plan sums year plan.funds) r.net_position
  where
    rest : (a b n : ℤ) → a +ℤ (b +ℤ (n -ℤ (a +ℤ b))) ≡ n
    rest a b n = omega (arith, ints)
