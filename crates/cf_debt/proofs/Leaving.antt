-- Leave that is earned, used or paid: what is left of it, and its sums by fiscal year.
use Rattle.std.proofs.Common.{◌≡◌, ◌⊎◌, inl, inr, ℕ, ◌+◌, ◌-◌, ◌≤◌, Bool, true, false, if◌then◌else◌, ◌==◌, ◌&&◌, nat_le, List, [], ◌∷◌, ◌++◌, ℤ, pos, ◌+ℤ◌, ◌-ℤ◌, unsigned_abs, refl, sym, ap, ◌∙◌, arith}
use Rattle.cf_base.proofs.Common.{eqb_tells, ints}
use Rattle.cf_debt.specs.declared.rows.LeaveRow.{LeaveRow}
use Rattle.cf_debt.specs.RegisterView.{AreLeave, AreLeft}
use Rattle.cf_debt.specs.Rows.{view_leave}
use Rattle.cf_register_parts.specs.Pairs.{Pairs, PutsAmount, amount_at}
use Rattle.cf_register_parts.specs.Years.{sum_through}
use Rattle.cf_model.specs.Common.{LeaveChange, leave_left, leave_through, through}
use Rattle.cf_model.proofs.Common.{sum_append}

-- a change more
left_push : (fund dept : ℕ) (leave : List LeaveChange) (x : LeaveChange) →
    leave_left fund dept (leave ++ x ∷ []) ≡ leave_left fund dept leave +ℤ ((if (x.fund == fund) && (x.dept == dept) then x.by else pos 0) +ℤ pos 0)
left_push fund dept leave x = sum_append (λ (c : LeaveChange). if (c.fund == fund) && (c.dept == dept) then c.by else pos 0) leave (x ∷ [])

through_push : (year : ℕ) (leave : List LeaveChange) (x : LeaveChange) → leave_through year (leave ++ x ∷ []) ≡ leave_through year leave +ℤ (through year x.year x.by +ℤ pos 0)
through_push year leave x = sum_append (λ (c : LeaveChange). through year c.year c.by) leave (x ∷ [])

both_same : (a b d c : ℕ) → ((a == d) && (b == c)) ≡ true → (a ≡ d) × (b ≡ c)
both_same a b d c e = by_tests (a == d) (b == c) (eqb_tells a d) (eqb_tells b c) e
  where
    by_tests : (p q : Bool) → ((p ≡ true) × (a ≡ d)) ⊎ ((p ≡ false) × (a ≡ d → ⊥)) → ((q ≡ true) × (b ≡ c)) ⊎ ((q ≡ false) × (b ≡ c → ⊥)) → (p && q) ≡ true → (a ≡ d) × (b ≡ c)
    by_tests p q (inl h) (inl k) e = (h.1, k.1)
    by_tests p q (inl h) (inr k) e = cc
    by_tests p q (inr h) k e = cc

-- the leave of the change's department is what it was with the change, and that of the others is
-- what it was
pub left_kept : (leave : List LeaveChange) (x : LeaveChange) (old new : Pairs ℕ) (amount : ℕ) → AreLeft leave old → PutsAmount old new x.fund x.dept amount →
    pos amount ≡ pos (amount_at old x.fund x.dept) +ℤ x.by → AreLeft (leave ++ x ∷ []) new
left_kept leave x old new amount was puts is fund dept =
    ap pos (puts fund dept) ∙ by_test ((x.fund == fund) && (x.dept == dept)) refl ∙ sym (left_push fund dept leave x)
  where
    more : (a b c : ℤ) → a ≡ b +ℤ c → a ≡ b +ℤ (c +ℤ pos 0)
    more a b c e = omega (arith, ints, e)

    none : (a b : ℤ) → a ≡ b → a ≡ b +ℤ (pos 0 +ℤ pos 0)
    none a b e = omega (arith, ints, e)

    by_test : (b : Bool) → ((x.fund == fund) && (x.dept == dept)) ≡ b →
        pos (if b then amount else amount_at old fund dept) ≡ leave_left fund dept leave +ℤ ((if b then x.by else pos 0) +ℤ pos 0)
    by_test true e =
        let same = both_same x.fund x.dept fund dept e in
        more (pos amount) (leave_left fund dept leave) x.by (is ∙ (λ i. pos (amount_at old (same.0 i) (same.1 i)) +ℤ x.by) ∙ ap (λ z. z +ℤ x.by) (was fund dept))
    by_test false e = none (pos (amount_at old fund dept)) (leave_left fund dept leave) (was fund dept)

-- years' sums rise by an amount from a year on
abbrev RisesFrom : List ℕ → List ℕ → ℕ → ℕ → Type 0
RisesFrom old new year amount = (z : ℕ) → sum_through z new ≡ sum_through z old + (if nat_le year z then amount else 0)

-- the sums by fiscal year
pub years_earned : (leave : List LeaveChange) (x : LeaveChange) (amount : ℕ) (old new taken : List ℕ) → x.by ≡ pos amount → AreLeave leave old taken → RisesFrom old new x.year amount →
    AreLeave (leave ++ x ∷ []) new taken
years_earned leave x amount old new taken is was rise year =
    ap (λ n. pos n -ℤ pos (sum_through year taken)) (rise year)
    ∙ by_test (nat_le x.year year) _ _ (leave_through year leave) x.by (was year) is
    ∙ sym (through_push year leave x)
  where
    by_test : (b : Bool) (e t : ℕ) (l by : ℤ) → pos e -ℤ pos t ≡ l → by ≡ pos amount → pos (e + (if b then amount else 0)) -ℤ pos t ≡ l +ℤ ((if b then by else pos 0) +ℤ pos 0)
    by_test true e t l by h k = omega (arith, ints, h, k)
    by_test false e t l by h k = omega (arith, ints, h)

pub years_taken : (leave : List LeaveChange) (x : LeaveChange) (amount : ℕ) (earned old new : List ℕ) → x.by ≡ pos 0 -ℤ pos amount → AreLeave leave earned old → RisesFrom old new x.year amount →
    AreLeave (leave ++ x ∷ []) earned new
years_taken leave x amount earned old new is was rise year =
    ap (λ n. pos (sum_through year earned) -ℤ pos n) (rise year)
    ∙ by_test (nat_le x.year year) _ _ (leave_through year leave) x.by (was year) is
    ∙ sym (through_push year leave x)
  where
    by_test : (b : Bool) (e t : ℕ) (l by : ℤ) → pos e -ℤ pos t ≡ l → by ≡ pos 0 -ℤ pos amount → pos e -ℤ pos (t + (if b then amount else 0)) ≡ l +ℤ ((if b then by else pos 0) +ℤ pos 0)
    by_test true e t l by h k = omega (arith, ints, h, k)
    by_test false e t l by h k = omega (arith, ints, h)

-- what is left in cents
pub left_is : (fund dept : ℕ) (leave : List LeaveChange) (table : Pairs ℕ) → AreLeft leave table → amount_at table fund dept ≡ unsigned_abs (leave_left fund dept leave)
left_is fund dept leave table are = ap unsigned_abs (are fund dept)

-- so small: each change is at most so many cents
pub put_small : (old new : Pairs ℕ) (fund dept amount most : ℕ) → PutsAmount old new fund dept amount → amount ≤ most → ((d c : ℕ) → amount_at old d c ≤ most) → (d c : ℕ) → amount_at new d c ≤ most
put_small old new fund dept amount most puts l all d c = by_test ((fund == d) && (dept == c)) (puts d c)
  where
    by_test : (b : Bool) → amount_at new d c ≡ (if b then amount else amount_at old d c) → amount_at new d c ≤ most
    by_test true e = omega (arith, e, l)
    by_test false e = omega (arith, e, all d c)

-- ---- the rows of leave

pub earned_row : (r : LeaveRow) → r.is_earned ≡ true → (view_leave r).by ≡ pos r.amount
earned_row r e = rw e refl

pub taken_row : (r : LeaveRow) → r.is_earned ≡ false → (view_leave r).by ≡ pos 0 -ℤ pos r.amount
taken_row r e = rw e refl

pub earned_left : (was amount now : ℕ) (by : ℤ) → now ≡ was + amount → by ≡ pos amount → pos now ≡ pos was +ℤ by
earned_left was amount now by e is = omega (arith, ints, e, is)

pub taken_left : (was amount now : ℕ) (by : ℤ) → now ≡ was - amount → amount ≤ was → by ≡ pos 0 -ℤ pos amount → pos now ≡ pos was +ℤ by
taken_left was amount now by e l is = omega (arith, ints, e, l, is)
