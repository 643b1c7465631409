use Rattle.std.proofs.Common.{◌≡◌, refl, ◌≤◌, pos, ℤ, arith, ap, ◌∙◌, unsigned_abs, FitsSigned, rules, to_z, of_z, to_z-of_z, w16, w32, w64, negsuc, ◌≤ℤ◌}
use Rattle.jiff_core.proofs.SignedLemmas.{signed_arith}
use Rattle.jiff_core.specs.declared.civil.date.Date.{Date}
use Rattle.jiff_core.specs.Date.{epoch_day}
use Rattle.jiff.specs.Words.{IsBetween}
use Rattle.cf_base.specs.Common.{day_of_number}
use Rattle.cf_base.proofs.DayNumbers.{Within, later_day_with, reached_later}
use Rattle.cf_base.proofs.calendar.month_at.Goals as goal

nonnegative : (z : ℤ) → pos 0 ≤ℤ z → z ≡ pos (unsigned_abs z)
nonnegative (pos n) h = refl
nonnegative (negsuc n) h = absurd (omega (arith, signed_arith, h))

-- the argument is a number from 0 to 84370, and the date is the day of it
record Numbered (z : ℤ) (date : Date) : Type 0 where
  most : unsigned_abs z ≤ 84370
  date_is : epoch_day date ≡ pos (unsigned_abs z)

numbered : (z : ℤ) (date : Date) → FitsSigned w32 z → IsBetween (pos 0) (pos 84370) z → epoch_day date ≡ to_z w64 (of_z w64 (to_z w32 (of_z w32 z))) → Numbered z date
numbered z date fits32 within e =
    let n = unsigned_abs z in
    let back : to_z w32 (of_z w32 z) ≡ z = to_z-of_z fits32 in
    let is : z ≡ pos n = nonnegative z within.0 in
    let le : n ≤ 84370 = omega (arith, signed_arith, within.1, is) in
    let fits64 : FitsSigned w64 (pos n) = omega (arith, signed_arith) in
    record { most = le; date_is = e ∙ ap (λ (x : ℤ). to_z w64 (of_z w64 x)) (back ∙ is) ∙ to_z-of_z fits64 }

year_back : (z : ℤ) (date : Date) → Numbered z date → to_z w16 (of_z w16 date.year) ≡ pos (day_of_number (unsigned_abs z)).year
year_back z date h =
    let n = unsigned_abs z in
    let y = (later_day_with n date h.most h.date_is).0 in
    let p : Within 2200 (day_of_number n) = (reached_later n h.most).0 in
    let most : (day_of_number n).year ≤ 2200 = p.to in
    let fits : FitsSigned w16 (pos (day_of_number n).year) = omega (arith, signed_arith) in
    ap (λ (x : ℤ). to_z w16 (of_z w16 x)) y ∙ to_z-of_z fits

pub returns-in-Ok : goal.returns-in-Ok
returns-in-Ok c =
    let z = c.args.number in
    let date = c.in-Ok.date in
    let h = numbered z date c.ranges.number c.requires c.in-Ok.ensures.value in
    let month_is : date.month ≡ (day_of_number (unsigned_abs z)).month = (later_day_with (unsigned_abs z) date h.most h.date_is).1 in
    let year_is = ap unsigned_abs (year_back z date h) in
    ap (λ y. record { year = y; month = date.month }) year_is ∙ ap (λ m. record { year = (day_of_number (unsigned_abs z)).year; month = m }) month_is

pub overflow_cast-result : goal.overflow_cast-result
overflow_cast-result c =
    let z = c.args.number in
    let h = numbered z c.in-Ok.date c.ranges.number c.requires c.in-Ok.ensures.value in
    let y = year_back z c.in-Ok.date h in
    let p : Within 2200 (day_of_number (unsigned_abs z)) = (reached_later (unsigned_abs z) h.most).0 in
    let most : (day_of_number (unsigned_abs z)).year ≤ 2200 = p.to in
    rw y (search rules)
