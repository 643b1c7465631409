-- Rows of fields as text: records of comma-separated values for a spreadsheet, as `csv` writes them
-- by default, or fields with tabs between them.
use Rattle.std.specs.Prelude.{ℕ, ℤ, ◌==◌, ◌&&◌, ◌||◌, Bool, false, not, if◌then◌else◌, List, [], ◌∷◌, Option, Some, None, decimal, flat_map, map}
use Rattle.std.specs.List.{list_all}
use Rattle.cf_base.specs.Common.{money_of, is_digit}
use Rattle.csv.specs.Writing.{default_writer, row_text, with_delimiter}
use Rattle.csv.specs.declared.WriterBuilder.{WriterBuilder}

abbrev pub setup : Bool → WriterBuilder
setup csv = if csv then default_writer else with_delimiter default_writer 9

-- ---- what a spreadsheet takes for a formula

-- the first byte of a formula: = + @, a tab, a carriage return
abbrev pub begins_formula : ℕ → Bool
begins_formula c = (c == 61) || ((c == 43) || ((c == 64) || ((c == 9) || (c == 13))))

-- what may follow the minus of an amount: digits, and a point
abbrev pub is_unsigned_byte : ℕ → Bool
is_unsigned_byte c = (c == 46) || is_digit c

-- a minus begins a formula, too, unless an amount follows
abbrev pub is_formula : List ℕ → Bool
is_formula [] = false
is_formula (c ∷ rest) = begins_formula c || ((c == 45) && not (list_all is_unsigned_byte rest))

-- a formula has a quote (') before it, so that a spreadsheet takes it for a text
abbrev pub guarded : List ℕ → List ℕ
guarded field = if is_formula field then 39 ∷ field else field

-- ---- rows

-- only records are for a spreadsheet: fields with tabs between them are exact
abbrev pub laid_out : Bool → List (List ℕ) → List (List ℕ)
laid_out csv fields = if csv then map guarded fields else fields

-- a list's own proofs need no more of a row than its fields
unfoldable pub record_text : Bool → List (List ℕ) → List ℕ
record_text csv fields = row_text (setup csv) (laid_out csv fields)

abbrev pub rows_text : Bool → List (List (List ℕ)) → List ℕ
rows_text csv rows = flat_map (record_text csv) rows

-- records stand below a row of names
abbrev pub head_text : Bool → List (List ℕ) → List ℕ
head_text csv names = if csv then record_text csv names else []

-- no text where nothing was drawn
abbrev pub drawn_text : ℕ → List ℕ
drawn_text n = if n == 0 then [] else decimal n

-- nor where there is no number, or no amount
abbrev pub number_text : Option ℕ → List ℕ
number_text None = []
number_text (Some n) = decimal n

abbrev pub money_if : Option ℤ → List ℕ
money_if None = []
money_if (Some z) = money_of z
