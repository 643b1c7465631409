-- The options, which of them each command has, and how each is read.
use Rattle.std.specs.Prelude.{ℕ, Bool, ◌&&◌, ◌||◌, not, if◌then◌else◌, nat_le, List, [], ◌∷◌, Option, Some, None, Ok, is_some, option_map, codes}
use Rattle.std.specs.List.{list_all, list_any}
use Rattle.std.specs.Str.{bytes_eq}
use Rattle.clap.specs.Words.{Row, Text, first_of}
use Rattle.cf_base.specs.Common.{day_of_text, month_of_text}
use Rattle.cf_base.specs.declared.calendar.Day.{Day}
use Rattle.cf_base.specs.declared.calendar.Month.{Month}
use Rattle.cf_run_words.specs.Words.{is_set, number_in}
use Rattle.cf_books_words.specs.declared.command_word.CommandWord.{CommandWord}
use Rattle.cf_books_words.specs.declared.command_word.CommandWord.TheVariants as word
use Rattle.cf_books_words.specs.declared.options.Days.{Days}
use Rattle.cf_books_words.specs.declared.words.WordsRefused.TheVariants.{NoSuchDay}
use Rattle.cf_books_words.specs.Words.{Read, ◌>>=◌, or_refuse}

-- ---- which options each command has

-- the options with a value, and those without
abbrev pub option_names : List Text
option_names =
    codes "year" ∷ codes "fund" ∷ codes "account" ∷ codes "entries" ∷ codes "through" ∷ codes "from"
    ∷ codes "dept" ∷ codes "object"
    ∷ codes "line" ∷ codes "source" ∷ codes "vendor" ∷ codes "kind" ∷ codes "party" ∷ codes "key"
    ∷ codes "amount" ∷ []

abbrev pub flag_names : List Text
flag_names = codes "csv" ∷ codes "alone" ∷ []

abbrev pub options_of : CommandWord → List Text
options_of word.CheckChart = []
options_of word.CheckGrants = []
options_of word.Check = codes "entries" ∷ []
options_of word.List = codes "csv" ∷ codes "entries" ∷ []
options_of word.Calls = codes "entries" ∷ []
options_of word.Chart = []
options_of word.Lines = codes "entries" ∷ []
options_of word.Claims = codes "csv" ∷ []
options_of word.Posts =
    codes "csv" ∷ codes "entries" ∷ codes "through" ∷ codes "year" ∷ codes "fund" ∷ codes "account"
    ∷ []
options_of word.Balances = codes "csv" ∷ codes "entries" ∷ codes "through" ∷ codes "alone" ∷ []
options_of word.Open = codes "csv" ∷ codes "entries" ∷ []
options_of word.Statement = codes "csv" ∷ codes "entries" ∷ codes "through" ∷ []
options_of word.Ledger =
    codes "csv" ∷ codes "entries" ∷ codes "through" ∷ codes "from" ∷ codes "fund" ∷ codes "dept"
    ∷ codes "object" ∷ codes "line" ∷ codes "source"
    ∷ codes "vendor" ∷ codes "year" ∷ []
options_of word.Documents =
    codes "csv" ∷ codes "entries" ∷ codes "kind" ∷ codes "party" ∷ codes "key" ∷ codes "amount" ∷ []
options_of word.Month = codes "csv" ∷ codes "entries" ∷ []
options_of word.Paid = codes "csv" ∷ codes "entries" ∷ []

-- ---- that a command is given no other option

abbrev pub is_listed : List Text → Text → Bool
is_listed own name = list_any (λ n. bytes_eq n name) own

-- the option isn't given, or it is one of the command's own
abbrev pub is_own : List Row → List Text → Text → Bool
is_own rows own name = not (is_some (first_of name rows)) || is_listed own name

abbrev pub is_own_flag : List Row → List Text → Text → Bool
is_own_flag rows own name = not (is_set (first_of name rows)) || is_listed own name

abbrev pub has_only : List Row → List Text → Bool
has_only rows own = list_all (is_own rows own) option_names
    && list_all (is_own_flag rows own) flag_names

-- ---- how an option is read

-- the number of an option, which may be left out
abbrev pub option_in : ℕ → ℕ → Option Text → Option (Option ℕ)
option_in low high None = Some None
option_in low high (Some text) = option_map (λ n. Some n) (number_in low high (Some text))

-- the day or month of a text, from 1971 on
abbrev pub day_from_1971 : Day → Option Day
day_from_1971 d = if nat_le 1971 d.year then Some d else None

abbrev pub month_from_1971 : Month → Option Month
month_from_1971 m = if nat_le 1971 m.year then Some m else None

abbrev pub late : {A : Type 0} → (A → Option A) → Option A → Option A
late f None = None
late f (Some a) = f a

abbrev pub day_in : Text → Read Day
day_in text = or_refuse NoSuchDay (late day_from_1971 (day_of_text text))

abbrev pub month_in : Text → Read Month
month_in text = or_refuse NoSuchDay (late month_from_1971 (month_of_text text))

abbrev pub option_day_in : Option Text → Read (Option Day)
option_day_in None = Ok None
option_day_in (Some text) = do
  day ← day_in text
  Ok (Some day)

abbrev pub days_in : List Row → Read Days
days_in rows = do
  from ← option_day_in (first_of (codes "from") rows)
  through ← option_day_in (first_of (codes "through") rows)
  Ok (record { from = from; through = through })
