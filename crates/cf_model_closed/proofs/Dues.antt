-- A bond's next payment is due in a month that isn't closed: no month closes over a payment that is
-- due in it.
use Rattle.std.proofs.Common.{◌≡◌, ◌⊎◌, inl, inr, ℕ, zero, suc, ◌+◌, ◌-◌, ◌*◌, ◌<◌, ◌≤◌, Bool, true, false, if◌then◌else◌, ◌==◌, nat_le, List, [], ◌∷◌, ◌++◌, map, Option, Some, None, IfSome, slice_get, refl, sym, subst, arith}
use Rattle.cf_base.proofs.Common.{AllByRecursion, leb_tells}
use Rattle.cf_model.specs.Common.{Day, Act, Drawn, Entry, Bond, Due, bond_step, bonds_by, dues, dues_from, next_due, number_of_day, due_day, unpaid, unpaid_refusal, Registers, no_registers, registers_of, closed_after, first_refusal, Adds, IsLegal}
use Rattle.cf_calls.specs.declared.acts.Act.TheVariants as act
use Rattle.cf_calls.specs.declared.acts.Period.TheVariants as period
use Rattle.cf_calls.specs.declared.refusal.Refusal.TheVariants as refusal
use Rattle.cf_chart.specs.Common.{Plan}
use Rattle.cf_model.proofs.Common.{accepted, or_else_none, refuse_none, HasCalendar, registers_push, all_append, all_map}
use Rattle.cf_model_closed.proofs.Over.{in_time, legal_by_steps}

-- ---- the months in which payments are due

-- the payment at a place is due so many periods after the issue, and there is one at each place
-- below the number of principals
abbrev IsDueAt : ℕ → Option Due → Type 0
IsDueAt month o = IfSome o (λ p. p.month ≡ month)

due_at : (every from owed : ℕ) (principals : List ℕ) (k : ℕ) → IsDueAt (from + every * (k + 1)) (slice_get (dues_from every from owed principals) k)
due_at every from owed [] k = tt
due_at every from owed (p ∷ principals) zero = omega arith
due_at every from owed (p ∷ principals) (suc k) =
    let later : (from + every) + every * (k + 1) ≡ from + every * (suc k + 1) = omega arith in
    subst (λ (m : ℕ). IsDueAt m (slice_get (dues_from every (from + every) (owed - p) principals) k)) later (due_at every (from + every) (owed - p) principals k)

-- the month in which a bond's next payment is due, where it has one
abbrev pub due_month : Bond → ℕ
due_month b = b.month + b.every * (b.paid + 1)

pub next_at : (b : Bond) → IfSome (next_due b) (λ p. p.month ≡ due_month b)
next_at b = due_at b.every b.month b.amount b.principals b.paid

-- where there is no payment at a place, there is none at the next
none_next : (every from owed : ℕ) (principals : List ℕ) (k : ℕ) → slice_get (dues_from every from owed principals) k ≡ None → slice_get (dues_from every from owed principals) (suc k) ≡ None
none_next every from owed [] k none = refl
none_next every from owed (p ∷ principals) zero none = absurd (cc)
none_next every from owed (p ∷ principals) (suc k) none = none_next every (from + every) (owed - p) principals k none

-- ---- none is due in a closed month

abbrev pub IsUnpaidLater : ℕ → Bond → Type 0
IsUnpaidLater closed b = (next_due b ≡ None) ⊎ (closed ≤ due_month b)

paid_one : (closed : ℕ) (b : Bond) → IsUnpaidLater closed b → IsUnpaidLater closed (record b { paid = b.paid + 1 })
paid_one closed b (inl none) =
    let next : suc b.paid ≡ b.paid + 1 = omega arith in
    inl (subst (λ (k : ℕ). slice_get (dues b) k ≡ None) next (none_next b.every b.month b.amount b.principals b.paid none))
paid_one closed b (inr later) = inr (omega (arith, later))

-- what the rule on the close of a month says of a bond
closed_one : (plan : Plan) (closed : ℕ) (b : Bond) → unpaid plan closed b (next_due b) ≡ None → IsUnpaidLater (closed + 1) b
closed_one plan closed b none = by_next (next_due b) (next_at b) none
  where
    less : (t : Bool) (p : ℕ) → ((t ≡ true) × (p ≤ closed)) ⊎ ((t ≡ false) × (closed < p)) → t ≡ false → closed + 1 ≤ p
    less t p (inl h) e = absurd (cc)
    less t p (inr h) e = omega (arith, h.1)

    by_next : (o : Option Due) → IfSome o (λ p. p.month ≡ due_month b) → unpaid plan closed b o ≡ None → (o ≡ None) ⊎ (closed + 1 ≤ due_month b)
    by_next None at none = inl refl
    by_next (Some p) at none = inr (omega (arith, at, less (nat_le p.month closed) p.month (leb_tells p.month closed) (refuse_none (nat_le p.month closed) (refusal.DebtDue b.number (due_day plan b p)) none)))

closed_all : (plan : Plan) (closed : ℕ) (bonds : List Bond) → first_refusal (λ b. unpaid plan closed b (next_due b)) bonds ≡ None → AllByRecursion (IsUnpaidLater (closed + 1)) bonds
closed_all plan closed [] none = tt
closed_all plan closed (b ∷ bonds) none =
    let both = or_else_none (unpaid plan closed b (next_due b)) (first_refusal (λ b. unpaid plan closed b (next_due b)) bonds) none in
    (closed_one plan closed b both.0, closed_all plan closed bonds both.1)

abbrev pub AreUnpaidLater : Registers → Type 0
AreUnpaidLater s = AllByRecursion (IsUnpaidLater s.closed) s.bonds

same_all : (P : Bond → Type 0) (bonds : List Bond) → AllByRecursion P bonds → AllByRecursion P (map (λ b. b) bonds)
same_all P bonds all = all_map P P (λ b. b) (λ b h. h) bonds all

step_bonds : (plan : Plan) (s : Registers) (a : Act) → unpaid_refusal plan s a ≡ None → AreUnpaidLater s → AllByRecursion (IsUnpaidLater (closed_after a s.closed)) (map (bond_step a) s.bonds)
step_bonds plan s (act.PayDue p) none later = all_map (IsUnpaidLater s.closed) (IsUnpaidLater s.closed) (bond_step (act.PayDue p)) (λ b l. by_test b (b.number == p.bond) l) s.bonds later
  where
    by_test : (b : Bond) (t : Bool) → IsUnpaidLater s.closed b → IsUnpaidLater s.closed (if t then record b { paid = b.paid + 1 } else b)
    by_test b true l = paid_one s.closed b l
    by_test b false l = l
step_bonds plan s (act.Close (period.Month m)) none later = same_all (IsUnpaidLater (s.closed + 1)) s.bonds (closed_all plan s.closed s.bonds none)
step_bonds plan s (act.Close (period.Year y)) none later = same_all (IsUnpaidLater s.closed) s.bonds later
step_bonds plan s _ none later = same_all (IsUnpaidLater s.closed) s.bonds later

-- a bond that is issued, and a lease, has its first payment after its month
new_bonds : (plan : Plan) (s : Registers) (on : Day) (a : Act) (drawn : Drawn) → s.closed ≤ number_of_day plan on → AllByRecursion (IsUnpaidLater (closed_after a s.closed)) (bonds_by plan on a drawn)
new_bonds plan s on (act.Issue i) drawn early = (inr (omega (arith, early)), tt)
new_bonds plan s on (act.Lease l) drawn early = (inr (omega (arith, early)), tt)
new_bonds plan s on _ drawn early = tt

bonds_step : (plan : Plan) → HasCalendar plan → (h : List Entry) (e : Entry) → IsLegal plan h → AreUnpaidLater (registers_of plan h) → Adds plan h e → AreUnpaidLater (registers_of plan (h ++ e ∷ []))
bonds_step plan calendar h e legal later adds =
    let s = registers_of plan h in
    let a = e.change.act in
    subst AreUnpaidLater (sym (registers_push plan no_registers h e))
    (all_append (IsUnpaidLater (closed_after a s.closed)) (map (bond_step a) s.bonds) (bonds_by plan e.change.on a e.drawn) (step_bonds plan s a (accepted plan h e adds).unpaid later)
    (new_bonds plan s e.change.on a e.drawn (in_time plan h e calendar legal adds).early))

-- the next payment of each bond of a legal history
pub unpaid_later : (plan : Plan) (h : List Entry) → HasCalendar plan → IsLegal plan h → AllByRecursion (IsUnpaidLater (registers_of plan h).closed) (registers_of plan h).bonds
unpaid_later plan h calendar legal = legal_by_steps plan (λ h. AreUnpaidLater (registers_of plan h)) tt (bonds_step plan calendar) h legal

-- .. is due in a month from the first on that isn't closed
pub next_later : (closed : ℕ) (b : Bond) → IsUnpaidLater closed b → IfSome (next_due b) (λ p. closed ≤ p.month)
next_later closed b later = by_next (next_due b) (next_at b) later
  where
    by_next : (o : Option Due) → IfSome o (λ p. p.month ≡ due_month b) → (o ≡ None) ⊎ (closed ≤ due_month b) → IfSome o (λ p. closed ≤ p.month)
    by_next None at l = tt
    by_next (Some p) at (inl none) = absurd (cc)
    by_next (Some p) at (inr l) = omega (arith, at, l)
