-- No department's leave is ever below zero: no entry of a legal history takes more leave of a
-- fund's department than it has.
use Rattle.std.proofs.Common.{◌≡◌, ◌⊎◌, inl, inr, ℕ, ◌≤◌, Bool, true, false, if◌then◌else◌, ◌==◌, ◌&&◌, nat_lt, List, ◌++◌, None, ℤ, pos, negsuc, ◌+ℤ◌, ◌-ℤ◌, ◌≤ℤ◌, unsigned_abs, sym, subst, arith}
use Rattle.cf_base.proofs.Common.{eqb_tells, common_steps, ints}
use Rattle.cf_base.specs.declared.calendar.Day.{Day}
use Rattle.cf_calls.specs.declared.acts.Act.{Act}
use Rattle.cf_calls.specs.declared.acts.Act.TheVariants as act
use Rattle.cf_calls.specs.declared.acts.LeaveAct.TheVariants.{Earn, Use, Mature}
use Rattle.cf_calls.specs.declared.entry.Entry.{Entry}
use Rattle.cf_calls.specs.declared.refusal.Refusal.TheVariants as refusal
use Rattle.cf_chart.specs.Common.{Plan}
use Rattle.cf_model.specs.Common.{LeaveChange, leave_by, leave_left, leave_of, leave_refusal, over_leave, Registers, no_registers, registers_of, IsLegal, int_sum}
use Rattle.cf_model.proofs.Accepted.{accepted}
use Rattle.cf_model.proofs.First.{refuse_none}
use Rattle.cf_model.proofs.Legal.{legal_induction}
use Rattle.cf_model.proofs.Pushes.{registers_push}
use Rattle.cf_model.proofs.Totals.{sum_append}

abbrev IsKept : List LeaveChange → Type 0
IsKept changes = (fund dept : ℕ) → pos 0 ≤ℤ leave_left fund dept changes

-- what of a change is of a fund's department
abbrev part : ℕ → ℕ → LeaveChange → ℤ
part fund dept c = if (c.fund == fund) && (c.dept == dept) then c.by else pos 0

-- a rise keeps it ..
risen : (b : Bool) (left : ℤ) (n : ℕ) → pos 0 ≤ℤ left → pos 0 ≤ℤ (left +ℤ ((if b then pos n else pos 0) +ℤ pos 0))
risen true left n l = omega (arith, ints, l)
risen false left n l = omega (arith, ints, l)

-- .. and so does what isn't above it
within : (left : ℤ) (n : ℕ) → pos 0 ≤ℤ left → over_leave n (unsigned_abs left) ≡ None → pos n ≤ℤ left
within (pos m) n l none = let t = refuse_none (nat_lt m n) (refusal.LeaveShort m) none in at_most m n t
  where
    at_most : (m n : ℕ) → nat_lt m n ≡ false → pos n ≤ℤ pos m
    at_most m n t = let P : n ≤ m = grind (arith, common_steps) in omega (arith, ints, P)
within (negsuc m) n l none = absurd (omega (arith, ints, l))

fallen : (changes : List LeaveChange) (fund dept n : ℕ) → IsKept changes → over_leave n (leave_of fund dept changes) ≡ None → (f d : ℕ) →
    pos 0 ≤ℤ (leave_left f d changes +ℤ ((if (fund == f) && (dept == d) then pos 0 -ℤ pos n else pos 0) +ℤ pos 0))
fallen changes fund dept n kept none f d = by_tests (fund == f) (dept == d) (eqb_tells fund f) (eqb_tells dept d)
  where
    still : (z : ℤ) → pos 0 ≤ℤ z → pos 0 ≤ℤ (z +ℤ (pos 0 +ℤ pos 0))
    still z l = omega (arith, ints, l)

    less : (z : ℤ) → pos n ≤ℤ z → pos 0 ≤ℤ (z +ℤ ((pos 0 -ℤ pos n) +ℤ pos 0))
    less z l = omega (arith, ints, l)

    by_tests : (p q : Bool) → ((p ≡ true) × (fund ≡ f)) ⊎ ((p ≡ false) × (fund ≡ f → ⊥)) → ((q ≡ true) × (dept ≡ d)) ⊎ ((q ≡ false) × (dept ≡ d → ⊥)) →
        pos 0 ≤ℤ (leave_left f d changes +ℤ ((if p && q then pos 0 -ℤ pos n else pos 0) +ℤ pos 0))
    by_tests true true (inl h) (inl k) =
        less (leave_left f d changes)
        (subst (λ x. pos n ≤ℤ leave_left x d changes) h.1 (subst (λ y. pos n ≤ℤ leave_left fund y changes) k.1 (within (leave_left fund dept changes) n (kept fund dept) none)))
    by_tests true true (inr h) k = cc
    by_tests true true (inl h) (inr k) = cc
    by_tests true false h k = still (leave_left f d changes) (kept f d)
    by_tests false q h k = still (leave_left f d changes) (kept f d)

kept_more : (plan : Plan) (s : Registers) (on : Day) (a : Act) → leave_refusal s a ≡ None → IsKept s.leave → IsKept (s.leave ++ leave_by plan on a)
kept_more plan s on a none kept fund dept = rw (sum_append (part fund dept) s.leave (leave_by plan on a)) (by_act a none)
  where
    none_more : (z : ℤ) → pos 0 ≤ℤ z → pos 0 ≤ℤ (z +ℤ pos 0)
    none_more z l = omega (arith, ints, l)

    by_act : (a : Act) → leave_refusal s a ≡ None → pos 0 ≤ℤ (leave_left fund dept s.leave +ℤ int_sum (part fund dept) (leave_by plan on a))
    by_act (act.Leave (Earn l)) none = risen ((l.fund == fund) && (l.dept == dept)) (leave_left fund dept s.leave) l.amount (kept fund dept)
    by_act (act.Leave (Use l)) none = fallen s.leave l.fund l.dept l.amount kept none fund dept
    by_act (act.Leave (Mature l)) none = fallen s.leave l.fund l.dept l.amount kept none fund dept
    by_act _ none = none_more (leave_left fund dept s.leave) (kept fund dept)

zero_le : pos 0 ≤ℤ pos 0
zero_le = omega (arith, ints)

-- the theorem: after a legal history no leave that is left is below zero
pub leave_always : (plan : Plan) (history : List Entry) → IsLegal plan history → (fund dept : ℕ) → pos 0 ≤ℤ leave_left fund dept (registers_of plan history).leave
leave_always plan history legal =
    legal_induction plan (λ h. IsKept (registers_of plan h).leave) (λ fund dept. zero_le)
    (λ h e kept adds.
    subst (λ (r : Registers). IsKept r.leave) (sym (registers_push plan no_registers h e))
    (kept_more plan (registers_of plan h) e.change.on e.change.act (accepted plan h e adds).leave kept)) history legal
