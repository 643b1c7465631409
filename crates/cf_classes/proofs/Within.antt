-- The classes of a balance that isn't below zero lie between zero and it; assets less liabilities
-- are the balance; and the other funds are those that aren't major.
use Rattle.std.proofs.Common.{◌≡◌, ◌≤ℤ◌, ℕ, ◌+◌, ℤ, pos, ◌+ℤ◌, ◌-ℤ◌, Bool, true, false, if◌then◌else◌, ◌==◌, List, [], ◌∷◌, int_lt, refl, ap, ◌∙◌, arith}
use Rattle.cf_base.proofs.Common.{common_steps, ints}
use Rattle.cf_model.specs.Common.{Entry, BalanceClass, Restricted, Committed, Assigned, FundType, General, SpecialRevenue, CapitalProjects, DebtService, Permanent, Line, encumbered, balance_of, fund_balance, sums_of}
use Rattle.cf_calls.specs.declared.read.Basis.TheVariants.{Fund as FundBasis}
use Rattle.cf_chart.specs.declared.rows.Fund.{Fund}
use Rattle.cf_chart.specs.Common.{Plan}
use Rattle.cf_classes.specs.Classes.{AreWithin, ClassesWithin, IsWithin, above_zero, class_of, classes_by, encumbered_from, in_class, lesser, none}
use Rattle.cf_classes.specs.Major.{BalancesAre, OthersSum, elements_of, is_major, less, nothing, over, plus, total_of}
use Rattle.cf_classes.specs.declared.elements.Elements.{Elements}
use Rattle.cf_model.proofs.Common.{fund_balance_is}
use Rattle.cf_statements.specs.Sums.{Sums}

-- ---- classes

zero : (balance : ℤ) → pos 0 ≤ℤ balance → IsWithin balance (pos 0)
zero balance l = (omega (arith, ints), l)

all : (balance : ℤ) → pos 0 ≤ℤ balance → IsWithin balance balance
all balance l = (l, omega (arith, ints))

placed : (c : BalanceClass) (balance : ℤ) → pos 0 ≤ℤ balance → AreWithin balance (in_class c balance)
placed Restricted balance l = let n = zero balance l in record { nonspendable = n; restricted = all balance l; committed = n; assigned = n; unassigned = n }
placed Committed balance l = let n = zero balance l in record { nonspendable = n; restricted = n; committed = all balance l; assigned = n; unassigned = n }
placed Assigned balance l = let n = zero balance l in record { nonspendable = n; restricted = n; committed = n; assigned = all balance l; unassigned = n }

is_less : (a b : ℤ) → int_lt a b ≡ true → a ≤ℤ b
is_less a b e = grind (arith, ints, common_steps)

-- what is encumbered up to the balance, and the rest
lesser_within : (encumbered balance : ℤ) → pos 0 ≤ℤ encumbered → pos 0 ≤ℤ balance → IsWithin balance (lesser encumbered balance)
lesser_within encumbered balance e l = by (int_lt encumbered balance) refl
  where
    by : (t : Bool) → int_lt encumbered balance ≡ t → IsWithin balance (if t then encumbered else balance)
    by true is = (e, is_less encumbered balance is)
    by false is = all balance l

rest_within : (part balance : ℤ) → IsWithin balance part → IsWithin balance (balance -ℤ part)
rest_within part balance is = (omega (arith, ints, is.0, is.1), omega (arith, ints, is.0, is.1))

above : (t : FundType) (c : BalanceClass) (balance encumbered : ℤ) → pos 0 ≤ℤ encumbered → pos 0 ≤ℤ balance → AreWithin balance (above_zero t c balance encumbered)
above General c balance encumbered e l =
    let n = zero balance l in
    let part = lesser_within encumbered balance e l in
    record { nonspendable = n; restricted = n; committed = n; assigned = part; unassigned = rest_within (lesser encumbered balance) balance part }
above Permanent c balance encumbered e l = let n = zero balance l in record { nonspendable = all balance l; restricted = n; committed = n; assigned = n; unassigned = n }
above SpecialRevenue c balance encumbered e l = placed c balance l
above CapitalProjects c balance encumbered e l = placed c balance l
above DebtService c balance encumbered e l = placed c balance l

within_by : (t : FundType) (c : BalanceClass) (balance encumbered : ℤ) → pos 0 ≤ℤ encumbered → pos 0 ≤ℤ balance → AreWithin balance (classes_by t c balance encumbered)
within_by t c balance encumbered e l = by (int_lt (pos 0) balance)
  where
    by : (b : Bool) → AreWithin balance (if b then above_zero t c balance encumbered else record none { unassigned = balance })
    by true = above t c balance encumbered e l
    by false = let n = zero balance l in record { nonspendable = n; restricted = n; committed = n; assigned = n; unassigned = all balance l }

-- what lines have encumbered isn't below zero
not_below : (plan : Plan) (h : List Entry) (year fund number : ℕ) (lines : List Line) → pos 0 ≤ℤ encumbered_from (sums_of plan h) year fund number lines
not_below plan h year fund number [] = omega (arith, ints)
not_below plan h year fund number (line ∷ rest) = by (line.fund == fund) (encumbered plan number year h) _ (not_below plan h year fund (number + 1) rest)
  where
    by : (b : Bool) (n : ℕ) (z : ℤ) → pos 0 ≤ℤ z → pos 0 ≤ℤ ((if b then pos n else pos 0) +ℤ z)
    by true n z l = omega (arith, ints, l)
    by false n z l = omega (arith, ints, l)

pub classes_within : (plan : Plan) (h : List Entry) (year : ℕ) → ClassesWithin plan (sums_of plan h) year
classes_within plan h year f l =
    within_by f.fund_type (class_of f.fund_type f.balance_class) (fund_balance plan year f.id h) (encumbered_from (sums_of plan h) year f.id 0 plan.lines) (not_below plan h year f.id 0 plan.lines) l

-- ---- assets less liabilities

pub balances_are : (plan : Plan) (h : List Entry) (year : ℕ) → BalancesAre plan (sums_of plan h) year
balances_are plan h year f =
    let of : ℕ → ℤ = λ a. balance_of FundBasis plan year f.id a h in
    adds (of 100000) (of 110000) (of 120000) (of 200000) (of 210000) (of 220000) (of 290000) (fund_balance plan year f.id h) (fund_balance_is plan year f.id h)
  where
    adds : (a b c d e f g t : ℤ) → ((a +ℤ b) +ℤ c) +ℤ (((d +ℤ e) +ℤ f) +ℤ g) ≡ t → (a +ℤ (b +ℤ c)) -ℤ (pos 0 -ℤ ((d +ℤ e) +ℤ (f +ℤ g))) ≡ t
    adds a b c d e f g t is = omega (arith, ints, is)

-- ---- the other funds

-- a fund more, which is among these or among the others
taken : (e all part : Elements) → less (plus e all) (plus e part) ≡ plus nothing (less all part)
taken e all part = λ i. record {
  assets = same e.assets all.assets part.assets i;
  liabilities = same e.liabilities all.liabilities part.liabilities i;
  revenues = same e.revenues all.revenues part.revenues i;
  expenditures = same e.expenditures all.expenditures part.expenditures i;
}
  where
    same : (x a b : ℤ) → (x +ℤ a) -ℤ (x +ℤ b) ≡ pos 0 +ℤ (a -ℤ b)
    same x a b = omega (arith, ints)

left : (e all part : Elements) → less (plus e all) (plus nothing part) ≡ plus e (less all part)
left e all part = λ i. record {
  assets = more e.assets all.assets part.assets i;
  liabilities = more e.liabilities all.liabilities part.liabilities i;
  revenues = more e.revenues all.revenues part.revenues i;
  expenditures = more e.expenditures all.expenditures part.expenditures i;
}
  where
    more : (x a b : ℤ) → (x +ℤ a) -ℤ (pos 0 +ℤ b) ≡ x +ℤ (a -ℤ b)
    more x a b = omega (arith, ints)

others : (of : Fund → Elements) (test : Fund → Bool) (funds : List Fund) →
    less (over of funds) (over (λ f. if test f then of f else nothing) funds) ≡ over (λ f. if test f then nothing else of f) funds
others of test [] = refl
others of test (f ∷ funds) = by (test f) ∙ ap (plus (if test f then nothing else of f)) (others of test funds)
  where
    by : (b : Bool) →
        less (plus (of f) (over of funds)) (plus (if b then of f else nothing) (over (λ f. if test f then of f else nothing) funds))
        ≡ plus (if b then nothing else of f) (less (over of funds) (over (λ f. if test f then of f else nothing) funds))
    by true = taken (of f) (over of funds) (over (λ f. if test f then of f else nothing) funds)
    by false = left (of f) (over of funds) (over (λ f. if test f then of f else nothing) funds)

pub others_sum : (plan : Plan) (sums : Sums) (year : ℕ) → OthersSum plan sums year
others_sum plan sums year = others (elements_of plan sums year) (is_major plan sums year (total_of plan sums year)) plan.funds
