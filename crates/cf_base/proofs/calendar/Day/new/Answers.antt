use Rattle.std.proofs.Common.{◌≡◌, ◌≤◌, pos, ℤ, arith, sym, ap, ◌∙◌, subst, unsigned_abs, FitsSigned, rules, to_z, of_z, to_z-of_z, w16, w32, w64, false}
use lib.Signed.{lt_z}
use Rattle.jiff_core.proofs.SignedLemmas.{signed_arith}
use Rattle.jiff_core.specs.declared.civil.date.Date.{Date}
use Rattle.jiff_core.specs.Date.{epoch_day}
use Rattle.cf_base.specs.Common.{day_of_number, day_number, is_day}
use Rattle.cf_base.proofs.DayNumbers.{Parts, day_at, day_with, made_day, nonnegative, at_most, reached}
use Rattle.cf_base.proofs.calendar.Day.new.Goals as goal

-- the argument is a number from 0 to 84005, and the date is the day of it
record Numbered (z : ℤ) (date : Date) : Type 0 where
  is : z ≡ pos (unsigned_abs z)
  most : unsigned_abs z ≤ 84005
  date_is : epoch_day date ≡ pos (unsigned_abs z)

numbered : (z : ℤ) (date : Date) → FitsSigned w32 z → lt_z (to_z w32 (of_z w32 z)) (pos 0) ≡ false → lt_z (pos 84005) (to_z w32 (of_z w32 z)) ≡ false → epoch_day date ≡ to_z w64 (of_z w64 (to_z w32 (of_z w32 z))) → Numbered z date
numbered z date fits32 low high e =
    let n = unsigned_abs z in
    let back : to_z w32 (of_z w32 z) ≡ z = to_z-of_z fits32 in
    let is : z ≡ pos n = nonnegative z (subst (λ (x : ℤ). lt_z x (pos 0) ≡ false) back low) in
    let le : n ≤ 84005 = at_most n 84005 (subst (λ (x : ℤ). lt_z (pos 84005) x ≡ false) (back ∙ is) high) in
    let fits64 : FitsSigned w64 (pos n) = omega (arith, signed_arith) in
    record { is = is; most = le; date_is = e ∙ ap (λ (x : ℤ). to_z w64 (of_z w64 x)) (back ∙ is) ∙ to_z-of_z fits64 }

year_back : (z : ℤ) (date : Date) → Numbered z date → to_z w16 (of_z w16 date.year) ≡ pos (day_of_number (unsigned_abs z)).year
year_back z date h =
    let n = unsigned_abs z in
    let y = (day_with n date h.most h.date_is).0 in
    let p : Parts (day_of_number n) = (reached n h.most).0 in
    let most : (day_of_number n).year ≤ 2199 = p.to in
    let fits : FitsSigned w16 (pos (day_of_number n).year) = omega (arith, signed_arith) in
    ap (λ (x : ℤ). to_z w16 (of_z w16 x)) y ∙ to_z-of_z fits

made : (z : ℤ) (date : Date) → Numbered z date → record { year = unsigned_abs (to_z w16 (of_z w16 date.year)); month = date.month; day = date.day } ≡ day_of_number (unsigned_abs z)
made z date h =
    let n = unsigned_abs z in
    let y = year_back z date h in
    made_day n date _ h.most h.date_is (ap (λ (x : ℤ). pos (unsigned_abs x)) y ∙ sym (day_with n date h.most h.date_is).0)

pub returns-in-Ok-clause-only : goal.returns-in-Ok-clause-only
returns-in-Ok-clause-only c =
    made c.args.number c.in-Ok.date (numbered c.args.number c.in-Ok.date c.ranges.number c.if-number-lt0.false c.if-number-gt-LAST_DAY.false c.in-Ok.ensures.value)

pub returns-in-Ok-clause-day : goal.returns-in-Ok-clause-day
returns-in-Ok-clause-day c =
    let h = numbered c.args.number c.in-Ok.date c.ranges.number c.if-number-lt0.false c.if-number-gt-LAST_DAY.false c.in-Ok.ensures.value in
    ap is_day (made c.args.number c.in-Ok.date h) ∙ (day_at (unsigned_abs c.args.number) h.most).0

pub returns-in-Ok-clause-number : goal.returns-in-Ok-clause-number
returns-in-Ok-clause-number c =
    let h = numbered c.args.number c.in-Ok.date c.ranges.number c.if-number-lt0.false c.if-number-gt-LAST_DAY.false c.in-Ok.ensures.value in
    ap day_number (made c.args.number c.in-Ok.date h) ∙ (day_at (unsigned_abs c.args.number) h.most).1 ∙ sym h.is

pub overflow_cast-result : goal.overflow_cast-result
overflow_cast-result c =
    let h = numbered c.args.number c.in-Ok.date c.ranges.number c.if-number-lt0.false c.if-number-gt-LAST_DAY.false c.in-Ok.ensures.value in
    let y = year_back c.args.number c.in-Ok.date h in
    let p : Parts (day_of_number (unsigned_abs c.args.number)) = (reached (unsigned_abs c.args.number) h.most).0 in
    let most : (day_of_number (unsigned_abs c.args.number)).year ≤ 2199 = p.to in
    rw y (search rules)
