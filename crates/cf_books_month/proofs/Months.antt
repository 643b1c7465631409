-- Months one after another come to what there is through the last of them, less what there was
-- before the first.
use Rattle.std.proofs.Common.{◌≡◌, ◌≤◌, ◌<◌, ◌+◌, ◌-◌, ◌==◌, ◌||◌, nat_lt, ℕ, zero, suc, Bool, true, false, if◌then◌else◌, ℤ, pos, ◌+ℤ◌, ◌-ℤ◌, refl, ap, ◌∙◌, arith}
use Rattle.cf_base.proofs.Common.{nat_tests, ints}
use Rattle.jiff_core.specs.Calendar.{days_in_month}
use Rattle.jiff_core.proofs.CalendarLemmas.{days_in_month_bounds}
use Rattle.cf_base.specs.Common.{is_call_month, is_day, year_of_month}
use Rattle.cf_model.specs.Common.{Day, Month}
use Rattle.cf_books_month.specs.Days.{AddUp, IsMonth, first_day, month_after, month_before, month_behind, through_month}

abbrev made : ℕ → ℕ → Month
made y m = record { year = y; month = m }

-- the month before the month after is the month itself
back_by : (y m : ℕ) (b : Bool) → (m == 12) ≡ b → 1 ≤ m → month_before (if b then made (y + 1) 1 else made y (m + 1)) ≡ made y m
back_by y m true is first =
    let twelve : 12 ≡ m = grind (arith, nat_tests) in
    let same : (y + 1) - 1 ≡ y = omega arith in
    λ i. made (same i) (twelve i)
back_by y m false is first =
    let other : ((m + 1) == 1) ≡ false = grind (arith, nat_tests) in
    let same : (m + 1) - 1 ≡ m = omega arith in
    ap (λ (b : Bool). if b then made (y - 1) 12 else made y ((m + 1) - 1)) other ∙ ap (made y) same

back : (m : Month) → IsMonth m → month_before (month_after m) ≡ m
back m is = back_by m.year m.month (m.month == 12) refl is.first

after_by : (y m : ℕ) (b : Bool) → (m == 12) ≡ b → m ≤ 12 → IsMonth (if b then made (y + 1) 1 else made y (m + 1))
after_by y m true is last = record { first = omega arith; last = omega arith }
after_by y m false is last =
    let more : m + 1 ≤ 12 = grind (arith, nat_tests) in
    record { first = omega arith; last = more }

after_is : (m : Month) → IsMonth m → IsMonth (month_after m)
after_is m is = after_by m.year m.month (m.month == 12) refl is.last

one_more : (here rest last first now : ℤ) → here ≡ now -ℤ first → rest ≡ last -ℤ now → here +ℤ rest ≡ last -ℤ first
one_more here rest last first now is later = omega (arith, ints, is, later)

none_yet : (z : ℤ) → pos 0 ≡ z -ℤ z
none_yet z = omega (arith, ints)

pub months_add : (through : Day → ℤ) → AddUp through
months_add through m zero is = none_yet (through_month through (month_before m))
months_add through m (suc n) is =
    one_more _ _ (through_month through (month_before (month_behind (month_after m) n))) (through_month through (month_before m)) (through_month through m) refl
    (months_add through (month_after m) n (after_is m is)
    ∙ ap (λ (x : Month). through_month through (month_before (month_behind (month_after m) n)) -ℤ through_month through x) (back m is))

-- the first day of a month is a day
pub first_is_day : (m : Month) → is_call_month m ≡ true → is_day (first_day m) ≡ true
first_is_day m is =
    let long : 28 ≤ days_in_month (pos m.year) m.month = (days_in_month_bounds (pos m.year) m.month).1 in
    grind (arith, nat_tests)

pub year_between : (first : ℕ) (m : Month) → 1971 ≤ m.year → m.year ≤ 2199 → (2 ≤ year_of_month first m) × (year_of_month first m < 2201)
year_between first m from to = by_test ((first == 1) || nat_lt m.month first)
  where
    by_test : (b : Bool) → (2 ≤ (if b then m.year else m.year + 1)) × ((if b then m.year else m.year + 1) < 2201)
    by_test true = (omega arith, omega arith)
    by_test false = (omega arith, omega arith)

pub call_month : (m : Month) → is_call_month m ≡ true → (m.year ≤ 2199) × (1 ≤ m.month)
call_month m is = (grind (arith, nat_tests), grind (arith, nat_tests))
