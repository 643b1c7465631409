-- Months of days: a later day is of no earlier month. So the window of a fiscal year ends no
-- earlier than the year, and holds no day of a month after the one in which it ends.
use Rattle.std.proofs.Common.{◌≡◌, ◌⊎◌, inl, inr, ℕ, zero, suc, ◌+◌, ◌-◌, ◌<◌, ◌≤◌, Bool, true, false, if◌then◌else◌, ◌==◌, ◌&&◌, nat_lt, max, List, [], ◌∷◌, Some, find, ℤ, pos, ◌+ℤ◌, int_le, int_lt, unsigned_abs, ap, arith}
use Rattle.cf_base.proofs.Common.{cases_lt, leb_tells, eqb_tells, ints, is_day_from, number_of}
use Rattle.jiff_core.specs.Calendar.{days_in_month}
use Rattle.jiff_core.proofs.CalendarLemmas.{days_in_month_bounds}
use Rattle.cf_model.specs.Common.{Day, Month, RevenueSource, window_if, window_month}
use Rattle.cf_base.specs.Common.{is_day, month_of_day, day_number, next_day, day_of_number, last_month, year_end, window_end, is_in_window}
use Rattle.cf_calls.specs.Common.{IsYear, month_number}
use Rattle.cf_chart.specs.Common.{Plan, longest_window}
use Rattle.cf_model.proofs.Common.{HasCalendar, IsNamed}

abbrev Less : Bool → ℕ → ℕ → Type 0
Less b m n = ((b ≡ true) × (suc m ≤ n)) ⊎ ((b ≡ false) × (n < suc m))

abbrev pub month : Day → ℕ
month d = month_number d.year d.month

through : (a b c : ℕ) → a ≤ b → b ≤ c → a ≤ c
through a b c l k = omega (arith, l, k)

-- ---- days by number

next_month : (d : Day) → IsNamed (month_of_day d) → IsNamed (month_of_day (next_day d)) × (month d ≤ month (next_day d))
next_month d named = by_tests (nat_lt d.day (days_in_month (pos d.year) d.month)) (nat_lt d.month 12) (leb_tells (suc d.month) 12)
  where
    next : Bool → Bool → Day
    next a b =
        if a then record { year = d.year; month = d.month; day = d.day + 1 }
        else (if b then record { year = d.year; month = d.month + 1; day = 1 } else record { year = d.year + 1; month = 1; day = 1 })

    by_tests : (a b : Bool) → Less b d.month 12 → IsNamed (month_of_day (next a b)) × (month d ≤ month (next a b))
    by_tests true b l = (record { first = named.first; last = named.last }, omega arith)
    by_tests false true (inl l) = (record { first = omega arith; last = omega (arith, l.1) }, omega arith)
    by_tests false true (inr l) = cc
    by_tests false false l = (record { first = omega arith; last = omega arith }, omega (arith, named.last))

pub named : (n : ℕ) → IsNamed (month_of_day (day_of_number n))
unfolding day_of_number
named zero = record { first = omega arith; last = omega arith }
named (suc n) = (next_month (day_of_number n) (named n)).0

month_le : (n m : ℕ) → n ≤ m → month (day_of_number n) ≤ month (day_of_number m)
unfolding day_of_number
month_le n zero l = let is : n ≡ 0 = omega (arith, l) in rw is (omega arith)
month_le n (suc m) l =
    elim (cases_lt n (suc m)) [
      | inl less ↦ through (month (day_of_number n)) (month (day_of_number m)) (month (next_day (day_of_number m))) (month_le n m (omega (arith, less))) (next_month (day_of_number m) (named m)).1
      | inr more ↦ let is : n ≡ suc m = omega (arith, l, more) in rw is (omega arith)
    ]

-- ---- the last day of a fiscal year

end_is_day : (plan : Plan) (year : ℕ) → HasCalendar plan → IsYear year → is_day (year_end plan.first_month year) ≡ true
end_is_day plan year calendar stated =
    is_day_from (year_end plan.first_month year) (record {
      from = omega (arith, stated.from);
      to = stated.to;
      first_month = (within (plan.first_month == 1) (eqb_tells plan.first_month 1)).0;
      last_month = (within (plan.first_month == 1) (eqb_tells plan.first_month 1)).1;
      first_day = omega (arith, days_in_month_bounds (pos year) (last_month plan.first_month));
      last_day = omega arith;
    })
  where
    within : (b : Bool) → ((b ≡ true) × (plan.first_month ≡ 1)) ⊎ ((b ≡ false) × (plan.first_month ≡ 1 → ⊥)) → (1 ≤ (if b then 12 else plan.first_month - 1)) × ((if b then 12 else plan.first_month - 1) ≤ 12)
    within true t = (omega arith, omega arith)
    within false (inl t) = cc
    within false (inr t) = (by_first (plan.first_month) calendar.first t.1, omega (arith, calendar.last))
      where
        by_first : (n : ℕ) → 1 ≤ n → (n ≡ 1 → ⊥) → 1 ≤ n - 1
        by_first n l other = elim (cases_lt 1 n) [ inl more ↦ omega (arith, more) | inr less ↦ absurd (other (omega (arith, l, less))) ]

-- ---- the window after it

shifted : (z : ℤ) (n days : ℕ) → z ≡ pos n → z +ℤ pos days ≡ pos (n + days)
shifted z n days is = omega (arith, ints, is)

-- the day of a number so many days after a year's last day
window_is : (plan : Plan) (year n : ℕ) → day_number (year_end plan.first_month year) ≡ pos n → window_month plan year ≡ month_of_day (day_of_number (n + longest_window plan.sources))
window_is plan year n is = ap (λ z. month_of_day (day_of_number (unsigned_abs z))) (shifted (day_number (year_end plan.first_month year)) n (longest_window plan.sources) is)

pub window_named : (plan : Plan) (year : ℕ) → IsNamed (window_month plan year)
window_named plan year = named (unsigned_abs (window_end (year_end plan.first_month year) (longest_window plan.sources)))

-- the month in which a year's longest window ends, by number
abbrev pub window_number : Plan → ℕ → ℕ
window_number plan year = month_number (window_month plan year).year (window_month plan year).month

window_number_is : (plan : Plan) (year n : ℕ) → day_number (year_end plan.first_month year) ≡ pos n → window_number plan year ≡ month (day_of_number (n + longest_window plan.sources))
window_number_is plan year n is = ap (λ (m : Month). month_number m.year m.month) (window_is plan year n is)

-- it is no month before the year's last
pub end_le : (plan : Plan) (year : ℕ) → HasCalendar plan → IsYear year → month (year_end plan.first_month year) ≤ window_number plan year
end_le plan year calendar stated =
    let end = number_of (year_end plan.first_month year) (end_is_day plan year calendar stated) in
    let later = month_le end.0 (end.0 + longest_window plan.sources) (omega arith) in
    let same : month (day_of_number end.0) ≡ month (year_end plan.first_month year) = ap month end.3 in
    let is = window_number_is plan year end.0 end.2 in
    bounded (month (year_end plan.first_month year)) (month (day_of_number end.0)) (month (day_of_number (end.0 + longest_window plan.sources))) (window_number plan year) same later is
  where
    bounded : (a b c d : ℕ) → b ≡ a → b ≤ c → d ≡ c → a ≤ d
    bounded a b c d e l f = omega (arith, e, l, f)

-- the window of a source is no longer than the longest
pub window_le : (id : ℕ) (sources : List RevenueSource) → window_if (find (λ s. s.id == id) sources) ≤ longest_window sources
window_le id [] = omega arith
window_le id (s ∷ sources) = by_test (s.id == id) (window_le id sources)
  where
    by_test : (b : Bool) → window_if (find (λ s. s.id == id) sources) ≤ longest_window sources → window_if (if b then Some s else find (λ s. s.id == id) sources) ≤ max s.window (longest_window sources)
    by_test true l = omega arith
    by_test false l = omega (arith, l)

le_both : (a b : Bool) → (a && b) ≡ true → b ≡ true
le_both true b e = e
le_both false b e = cc

not_above : (z y : ℤ) (k m : ℕ) → int_le z y ≡ true → z ≡ pos k → y ≡ pos m → k ≤ m
not_above z y k m le e f = grind (arith, ints)

-- a day in a year's window is of no month after the one in which the longest window ends
pub in_window : (plan : Plan) (year : ℕ) (on : Day) (days : ℕ) → HasCalendar plan → IsYear year → is_day on ≡ true → days ≤ longest_window plan.sources →
    is_in_window (year_end plan.first_month year) days on ≡ true → month on ≤ window_number plan year
in_window plan year on days calendar stated day few is_in =
    let last = year_end plan.first_month year in
    let end = number_of last (end_is_day plan year calendar stated) in
    let here = number_of on day in
    let by_end : int_le (day_number on) (window_end last days) ≡ true = le_both (int_lt (day_number last) (day_number on)) (int_le (day_number on) (window_end last days)) is_in in
    let at_most : here.0 ≤ end.0 + days = not_above (day_number on) (window_end last days) here.0 (end.0 + days) by_end here.2 (shifted (day_number last) end.0 days end.2) in
    let later = month_le here.0 (end.0 + longest_window plan.sources) (omega (arith, at_most, few)) in
    let same : month (day_of_number here.0) ≡ month on = ap month here.3 in
    bounded (month on) (month (day_of_number here.0)) (month (day_of_number (end.0 + longest_window plan.sources))) (window_number plan year) same later (window_number_is plan year end.0 end.2)
  where
    bounded : (a b c d : ℕ) → b ≡ a → b ≤ c → d ≡ c → a ≤ d
    bounded a b c d e l f = omega (arith, e, l, f)
