-- The fields of a payload. Numbers have 1, 2, 4 or 8 bytes, the highest first.
use Rattle.std.specs.Prelude.{ℕ, zero, suc, ◌+◌, ◌&&◌, List, [], ◌∷◌, length, take, drop, Bool, true, false, nat_le, nat_lt, if◌then◌else◌, ℤ, pos, negsuc, unsigned_abs, Option, Some, None, Result, Ok, Err, ⊤}
use Rattle.std.specs.Int.{w8, w16, w32, w64}
use Rattle.cf_base.specs.declared.calendar.Day.{Day}
use Rattle.cf_base.specs.declared.calendar.Month.{Month}
use Rattle.cf_base.specs.Common.{day_number, day_of_number, is_amount, last_year}
use Rattle.cf_calls.specs.Common.{is_key, is_most}
use Rattle.cf_codec_fields.specs.Formats.{Format, number, kept, converted, is_between, field, ◌>>=◌, done}

abbrev pub byte : Format ℕ
byte = number w8

abbrev pub half : Format ℕ
half = number w16

abbrev pub word : Format ℕ
word = number w32

abbrev pub long : Format ℕ
long = number w64

-- one of the first few numbers, which says what follows
abbrev pub one_of : ℕ → Format ℕ
one_of count = kept (λ n. nat_lt n count) byte

-- false as 0, true as 1
abbrev pub flag_value : ℕ → Option Bool
flag_value zero = Some false
flag_value (suc zero) = Some true
flag_value _ = None

abbrev pub flag_code : Bool → ℕ
flag_code false = 0
flag_code true = 1

abbrev pub flag : Format Bool
flag = converted flag_value flag_code byte

-- a fiscal year that a call may state
abbrev pub year : Format ℕ
year = kept (is_between 1971 last_year) half

-- an amount of 1 to 10^13 cents
abbrev pub amount : Format ℕ
amount = kept is_amount long

-- an amount of 0 to 10^13 cents
abbrev pub most_amount : Format ℕ
most_amount = kept is_most long

-- a signed amount: whether it is below 0, and its size
abbrev pub is_negative : ℤ → Bool
is_negative (pos n) = false
is_negative (negsuc n) = true

abbrev pub with_sign : Bool → ℕ → ℤ
with_sign false n = pos n
with_sign true zero = pos 0
with_sign true (suc n) = negsuc n

abbrev pub signed : Format ℤ
signed = do
  negative ← field is_negative flag
  size ← field unsigned_abs amount
  done (with_sign negative size)

-- a month that a call may state
abbrev pub month : Format Month
month = do
  year ← field (λ m. m.year) (kept (is_between 1970 last_year) half)
  month ← field (λ m. m.month) (kept (is_between 1 12) byte)
  done (record { year = year; month = month })

-- a day by its number, from 0 for 1970-01-01 to 84,005 for 2199-12-31
unfoldable pub day_value : ℕ → Option Day
day_value n = if nat_le n 84005 then Some (day_of_number n) else None

unfoldable pub day_code : Day → ℕ
day_code d = unsigned_abs (day_number d)

abbrev pub day : Format Day
day = converted day_value day_code word

-- a key: its length in one byte, and its bytes
abbrev pub key_bytes : List ℕ → List ℕ
key_bytes k = length k ∷ k

unfoldable pub key_at : List ℕ → Result (List ℕ × List ℕ) ℕ
key_at [] = Err 0
key_at (n ∷ bytes) = if nat_le n (length bytes) && is_key (take n bytes)
    then Ok (take n bytes, drop n bytes) else Err (1 + length bytes)

abbrev pub key : Format (List ℕ)
key = record { bytes = key_bytes; size = λ k. 1 + length k; fits = λ k. ⊤; read = key_at }
