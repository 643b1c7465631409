-- When a rule refuses.
use Rattle.std.proofs.Common.{◌≡◌, ◌⊎◌, inl, inr, ℕ, ◌≤◌, Bool, true, false, not, if◌then◌else◌, ◌==◌, ◌&&◌, nat_le, List, [], ◌∷◌, Option, Some, None, is_some, find, option_map, refl, sym, ap, ◌∙◌, arith, filter}
use Rattle.cf_base.proofs.Common.{eqb_tells, common_steps}
use Rattle.cf_model.specs.Common.{Day, Month, DebtPayment, Period, Refusal, Bond, Due, next_due, debt_refusal, due_day, month_at, not_due, order_refusal, paid_off, paid_refusal, same_month, unpaid, unpaid_refusal, bond_at, first_of, first_refusal, or_else, refuse_if}
use Rattle.cf_calls.specs.declared.acts.Act.TheVariants as act
use Rattle.cf_calls.specs.declared.acts.Period.TheVariants as period
use Rattle.cf_calls.specs.declared.refusal.Refusal.TheVariants as refusal
use Rattle.cf_chart.specs.Common.{Plan}
use Rattle.cf_debt.specs.declared.debt.BondNow.{BondNow}
use Rattle.cf_debt.specs.declared.debt.Due.{Due as DueNow}
use Rattle.cf_debt.specs.declared.rows.Payment.{Payment}
use Rattle.cf_debt.specs.Register.{Debts, debt_due_of, due_if, due_now, due_of, registers_with, unpaid_of}
use Rattle.cf_debt.specs.Rows.{view_bond, view_payment}
use Rattle.cf_debt.specs.Steps.{CanPay, ShowsBond}
use Rattle.cf_debt.proofs.Finding.{none_passes}

refused_by : (b : Bool) (r : Refusal) → b ≡ true → Some r ≡ refuse_if b r
refused_by b r e = rw e refl

not_refused_by : (b : Bool) (r : Refusal) → b ≡ false → None ≡ refuse_if b r
not_refused_by b r e = rw e refl

-- a test of a day, which is told in another form
pub refused : (test : Day → Bool) (with : Day → Refusal) (x y : Day) → x ≡ y → test x ≡ true → Some (with x) ≡ refuse_if (test y) (with y)
refused test with x y e h = ap (λ d. Some (with d)) e ∙ refused_by (test y) (with y) (ap test (sym e) ∙ h)

pub not_refused : (test : Day → Bool) (with : Day → Refusal) (x y : Day) → x ≡ y → test x ≡ false → None ≡ refuse_if (test y) (with y)
not_refused test with x y e h = not_refused_by (test y) (with y) (ap test (sym e) ∙ h)

le_true : (m n : ℕ) → m ≤ n → nat_le m n ≡ true
le_true m n l = grind (arith, common_steps)

-- a payment that is due in so many months
pub unpaid_then : (plan : Plan) (closed : ℕ) (b : Bond) (p : Due) (day : Day) → Some p ≡ next_due b → p.month ≤ closed → day ≡ due_day plan b p → Some (debt_due_of b.number day) ≡ unpaid_of plan closed b
unpaid_then plan closed b p day is l e =
    ap (λ d. Some (refusal.DebtDue b.number d)) e
    ∙ refused_by (nat_le p.month closed) (refusal.DebtDue b.number (due_day plan b p)) (le_true p.month closed l)
    ∙ ap (unpaid plan closed b) is

-- ---- the payment of a bond

-- the rules on a payment, of the bonds of its number
abbrev pub refusals : Plan → Day → List Bond → Option Refusal
refusals plan on bonds = first_of (first_refusal (λ b. paid_off b.number (next_due b)) bonds ∷ first_refusal (λ b. not_due plan on b (next_due b)) bonds ∷ None ∷ None ∷ None ∷ [])

pub without_bond : (plan : Plan) (d : Debts) (on : Day) (p : DebtPayment) → bond_at p.bond d.bonds ≡ None → None ≡ debt_refusal plan (registers_with d) on (act.PayDue p)
without_bond plan d on p e = sym (ap (refusals plan on) (none_passes p.bond d.bonds e))

or_else_units : (r : Option Refusal) → r ≡ or_else (or_else r None) None
or_else_units None = refl
or_else_units (Some r) = refl

pub payment_refusal : (plan : Plan) (d : Debts) (on : Day) (p : DebtPayment) (x : BondNow) (q : Payment) (r : Option Refusal) → ShowsBond p.bond d x → x.next ≡ Some q →
    ((all : List Due) → r ≡ not_due plan on (view_bond all x.row) (Some (view_payment q))) → r ≡ debt_refusal plan (registers_with d) on (act.PayDue p)
payment_refusal plan d on p x q r s next is =
    let due : next_due (view_bond s.all x.row) ≡ Some (view_payment q) = sym s.next ∙ ap (option_map view_payment) next in
    is s.all
    ∙ or_else_units (not_due plan on (view_bond s.all x.row) (Some (view_payment q)))
    ∙ sym (ap (refusals plan on) s.alone
    ∙ ap (λ o. first_of (or_else (paid_off x.row.number o) None ∷ or_else (not_due plan on (view_bond s.all x.row) o) None ∷ None ∷ None ∷ None ∷ [])) due)

-- what is due next of a bond
pub due_is : (plan : Plan) (n : ℕ) (d : Debts) (x : BondNow) (q : Payment) (due : DueNow) → ShowsBond n d x → x.next ≡ Some q → ((all : List Due) → due ≡ due_of plan (view_bond all x.row) (view_payment q)) →
    Some due ≡ due_now plan (bond_at n d.bonds)
due_is plan n d x q due s next is =
    ap Some (is s.all)
    ∙ sym (ap (due_now plan) s.is ∙ ap (due_if plan (view_bond s.all x.row)) (sym s.next ∙ ap (option_map view_payment) next))

-- ---- what the rules allow

pub or_none : (a b : Option Refusal) → or_else a b ≡ None → (a ≡ None) × (b ≡ None)
or_none None b e = (refl, e)
or_none (Some r) b e = cc

some_equal : (a b : Bond) → Some a ≡ Some b → a ≡ b
some_equal a b e = cc

-- the first that passes isn't refused
first_passes : (f : Bond → Option Refusal) (p : Bond → Bool) (bonds : List Bond) (b : Bond) → find p bonds ≡ Some b → first_refusal f (filter p bonds) ≡ None → f b ≡ None
first_passes f p [] b found none = cc
first_passes f p (x ∷ bonds) b found none = by_test (p x) found none (first_passes f p bonds b)
  where
    by_test : (t : Bool) → (if t then Some x else find p bonds) ≡ Some b → first_refusal f (if t then x ∷ filter p bonds else filter p bonds) ≡ None →
        (find p bonds ≡ Some b → first_refusal f (filter p bonds) ≡ None → f b ≡ None) → f b ≡ None
    by_test true is none more = sym (ap f (some_equal x b is)) ∙ (or_none (f x) (first_refusal f (filter p bonds)) none).0
    by_test false is none more = more is none

has_next : (number : ℕ) (o : Option Due) → paid_off number o ≡ None → is_some o ≡ true
has_next number None e = cc
has_next number (Some p) e = refl

pub can_pay : (plan : Plan) (d : Debts) (on : Day) (p : DebtPayment) → is_some (bond_at p.bond d.bonds) ≡ true → debt_refusal plan (registers_with d) on (act.PayDue p) ≡ None → CanPay p.bond d
can_pay plan d on p there allowed = by_bond (bond_at p.bond d.bonds) refl there
  where
    by_bond : (o : Option Bond) → bond_at p.bond d.bonds ≡ o → is_some o ≡ true → CanPay p.bond d
    by_bond None is e = cc
    by_bond (Some b) is e =
        record {
          bond = b;
          is = is;
          left = has_next b.number (next_due b)
              (first_passes (λ (b : Bond). paid_off b.number (next_due b)) (λ b. b.number == p.bond) d.bonds b is (or_none (paid_refusal (registers_with d) (act.PayDue p)) _ allowed).0);
        }

unless_refused : (b : Bool) (r : Refusal) → refuse_if (not b) r ≡ None → b ≡ true
unless_refused true r e = refl
unless_refused false r e = cc

same_names : (m n : Month) → same_month m n ≡ true → m ≡ n
same_names m n e = by_tests (m.year == n.year) (m.month == n.month) (eqb_tells m.year n.year) (eqb_tells m.month n.month) e
  where
    by_tests : (y o : Bool) → ((y ≡ true) × (m.year ≡ n.year)) ⊎ ((y ≡ false) × (m.year ≡ n.year → ⊥)) → ((o ≡ true) × (m.month ≡ n.month)) ⊎ ((o ≡ false) × (m.month ≡ n.month → ⊥)) →
        (y && o) ≡ true → m ≡ n
    by_tests y o (inl h) (inl k) e = λ i. record { year = h.1 i; month = k.1 i }
    by_tests y o (inl h) (inr k) e = cc
    by_tests y o (inr h) k e = cc

-- the close of a period
pub in_order : (plan : Plan) (d : Debts) (on : Day) (p : Period) → debt_refusal plan (registers_with d) on (act.Close p) ≡ None → order_refusal plan (registers_with d) (act.Close p) ≡ None
in_order plan d on p allowed = (or_none (order_refusal plan (registers_with d) (act.Close p)) _ allowed).0

pub all_paid : (plan : Plan) (d : Debts) (on : Day) (p : Period) → debt_refusal plan (registers_with d) on (act.Close p) ≡ None → unpaid_refusal plan (registers_with d) (act.Close p) ≡ None
all_paid plan d on p allowed = (or_none (unpaid_refusal plan (registers_with d) (act.Close p)) None (or_none (order_refusal plan (registers_with d) (act.Close p)) _ allowed).1).0

pub next_month : (plan : Plan) (d : Debts) (m : Month) → order_refusal plan (registers_with d) (act.Close (period.Month m)) ≡ None → m ≡ month_at plan d.closed
next_month plan d m allowed = same_names m (month_at plan d.closed) (unless_refused (same_month m (month_at plan d.closed)) _ allowed)
