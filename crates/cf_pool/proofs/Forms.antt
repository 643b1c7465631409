-- The receipts of shares are in form.
use Rattle.std.proofs.Common.{◌≡◌, ℕ, pos, ◌/◌, ◌<◌, ◌^◌, true, List, [], ◌∷◌, length, decimal, refl, arith}
use Rattle.cf_base.proofs.Common.{both_true, list_all, AllDigits, le-leb, length-decimal-le, decimal_is_IsNumeral, tells_digits}
use Rattle.jiff_core.specs.Calendar.{days_in_month}
use Rattle.jiff_core.proofs.CalendarLemmas.{days_in_month_bounds}
use Rattle.cf_base.specs.Common.{is_call_month, is_day, last_digit}
use Rattle.cf_base.specs.declared.calendar.Month.{Month}
use Rattle.cf_calls.specs.Common.{IsChangeInForm, is_key, is_key_byte}
use Rattle.cf_calls.specs.declared.acts.Act.TheVariants.{Receive}
use Rattle.cf_calls.specs.declared.items.SourceAmount.{SourceAmount}
use Rattle.cf_json_lines.specs.Lines.{change_of}
use Rattle.cf_pool.specs.Shares.{hand_of, last_day, pool_key}

key_digits : (ds : List ℕ) → AllDigits 10 ds → list_all is_key_byte ds ≡ true
key_digits [] all = refl
key_digits (c ∷ cs) all =
    let p = tells_digits.parts c cs all in
    both_true (both_true (le-leb 33 c (omega (arith, p.0.0))) (le-leb c 126 (omega (arith, p.0.1)))) (key_digits cs p.1)

key_digit : (n : ℕ) → is_key_byte (last_digit n) ≡ true
key_digit n = both_true (le-leb 33 (last_digit n) (omega arith)) (le-leb (last_digit n) 126 (omega arith))

key_bytes : (m : Month) (fund : ℕ) → fund < 2 ^ 16 → list_all is_key_byte (pool_key m fund) ≡ true
key_bytes m fund h =
    rw (key_digit (m.year / 1000), key_digit (m.year / 100), key_digit (m.year / 10), key_digit m.year, key_digit (m.month / 10), key_digit m.month)
    (key_digits (decimal fund) (decimal_is_IsNumeral fund (omega (arith, h))).0.1)

key_form : (m : Month) (fund : ℕ) → fund < 2 ^ 16 → is_key (pool_key m fund) ≡ true
key_form m fund h =
    let few = length-decimal-le 5 fund (omega arith) (omega (arith, h)) (omega (arith, h)) in
    both_true (both_true (le-leb 1 (length (pool_key m fund)) (omega arith)) (le-leb (length (pool_key m fund)) 40 (omega (arith, few)))) (key_bytes m fund h)

day_form : (m : Month) → is_call_month m ≡ true → is_day (last_day m) ≡ true
day_form m h =
    let bounds = days_in_month_bounds (pos m.year) m.month in
    let days = days_in_month (pos m.year) m.month in
    both_true (both_true h (le-leb 1 days (omega (arith, bounds)))) (le-leb days days (omega arith))

pub share_form : (desk : ℕ) (month : Month) (fund : ℕ) (r : SourceAmount) → is_call_month month ≡ true → fund < 2 ^ 16 → IsChangeInForm (change_of (hand_of desk month fund) (Receive r))
share_form desk month fund r month_form small = record { key = key_form month fund small; on = day_form month month_form; act = tt }
