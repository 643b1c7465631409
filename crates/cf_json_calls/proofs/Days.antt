-- The texts of days and months are read back.
use Rattle.std.proofs.Common.{◌≡◌, ℕ, ◌+◌, ◌-◌, ◌*◌, ◌/◌, ◌%◌, ◌<◌, ◌≤◌, Bool, true, false, cond, nat_lt, Some, arith, le-leb, lt-ltb, le_trans}
use Rattle.json.proofs.Printed.Utf8.{are_ascii}
use Rattle.cf_base.proofs.Common.{parts}
use Rattle.cf_base.specs.declared.calendar.Day.{Day}
use Rattle.cf_base.specs.declared.calendar.Month.{Month}
use Rattle.cf_base.specs.Common.{is_day, is_digit, last_digit, day_text, day_of_text, month_text, month_of_text}
use Rattle.cf_calls.specs.Common.{IsCallMonth}

digit : (n : ℕ) → is_digit (last_digit n) ≡ true
digit n = rw (le-leb 48 (48 + n % 10) (omega arith), le-leb (48 + n % 10) 57 (omega arith))

two_digits : (n : ℕ) → n < 100 → 10 * ((48 + n / 10 % 10) - 48) + ((48 + n % 10) - 48) ≡ n
two_digits n h = omega arith

four_digits : (n : ℕ) → n < 10000 → 100 * (10 * ((48 + n / 1000 % 10) - 48) + ((48 + n / 100 % 10) - 48)) + (10 * ((48 + n / 10 % 10) - 48) + ((48 + n % 10) - 48)) ≡ n
four_digits n h = omega arith

days_below : (a b c : Bool) → cond a (cond b 29 28) (cond c 30 31) ≤ 31
days_below true true c = omega arith
days_below true false c = omega arith
days_below false b true = omega arith
days_below false b false = omega arith

pub day_of_text-day_text : (d : Day) → is_day d ≡ true → day_of_text (day_text d) ≡ Some d
day_of_text-day_text d h =
    let b = parts d h in
    let below : d.day ≤ 31 = le_trans b.last_day (days_below _ _ _) in
    let year = four_digits d.year (omega (arith, b.to)) in
    let month = two_digits d.month (omega (arith, b.last_month)) in
    let day = two_digits d.day (omega arith) in
    simp digit (rw (year, month, day, h))

pub month_of_text-month_text : (m : Month) → IsCallMonth m → month_of_text (month_text m) ≡ Some m
month_of_text-month_text m h =
    let year = four_digits m.year (omega (arith, h.to)) in
    let month = two_digits m.month (omega (arith, h.last)) in
    simp digit (rw (year, month, le-leb _ _ h.from, le-leb _ _ h.to, le-leb _ _ h.first, le-leb _ _ h.last))

ascii_digit : (n : ℕ) → nat_lt (last_digit n) 128 ≡ true
ascii_digit n = lt-ltb (48 + n % 10) 128 (omega arith)

pub day_ascii : (d : Day) → are_ascii (day_text d) ≡ true
day_ascii d = simp ascii_digit

pub month_ascii : (m : Month) → are_ascii (month_text m) ≡ true
month_ascii m = simp ascii_digit
