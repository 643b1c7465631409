-- The kinds of field: which values are read, and as what.
use Rattle.std.specs.Prelude.{ℕ, ◌&&◌, List, Bool, nat_lt, nat_le, ℤ, if◌then◌else◌, Option, Some, None, option_map, option_and_then, find}
use Rattle.std.specs.Str.{bytes_eq}
use Rattle.serde_json.specs.Data.{Data}
use Rattle.serde_json.specs.Find.{as_number, as_u64, as_i64, as_str}
use Rattle.cf_base.specs.Common.{day_of_text, month_of_text, is_amount, last_year}
use Rattle.cf_base.specs.declared.calendar.Day.{Day}
use Rattle.cf_base.specs.declared.calendar.Month.{Month}
use Rattle.cf_calls.specs.Common.{is_by, is_key}

-- the value, where it passes
abbrev pub kept : {A : Type 0} → (A → Bool) → A → Option A
kept test x = if test x then Some x else None

-- an integer from 0 to 2^64 - 1
abbrev pub as_count : Data → Option ℕ
as_count d = option_and_then as_u64 (as_number d)

abbrev pub as_n16 : Data → Option ℕ
as_n16 d = option_and_then (kept (λ n. nat_lt n 65536)) (as_count d)

abbrev pub as_n32 : Data → Option ℕ
as_n32 d = option_and_then (kept (λ n. nat_lt n 4294967296)) (as_count d)

-- a year that a call may state
abbrev pub as_year : Data → Option ℕ
as_year d = option_and_then (kept (λ n. nat_le 1971 n && nat_le n last_year)) (as_count d)

-- an amount of 1 to 10^13 cents
abbrev pub as_amount : Data → Option ℕ
as_amount d = option_and_then (kept is_amount) (as_count d)

-- a signed change
abbrev pub as_by : Data → Option ℤ
as_by d = option_and_then (kept is_by) (option_and_then as_i64 (as_number d))

abbrev pub as_key : Data → Option (List ℕ)
as_key d = option_and_then (kept is_key) (as_str d)

abbrev pub as_day : Data → Option Day
as_day d = option_and_then day_of_text (as_str d)

abbrev pub as_month : Data → Option Month
as_month d = option_and_then month_of_text (as_str d)

-- what a text is in a table of words
abbrev pub word_in : {A : Type 0} → List (List ℕ × A) → List ℕ → Option A
word_in words text = option_map (λ p. p.1) (find (λ p. bytes_eq text p.0) words)

abbrev pub as_word : {A : Type 0} → List (List ℕ × A) → Data → Option A
as_word words d = option_and_then (word_in words) (as_str d)
