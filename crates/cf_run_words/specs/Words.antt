-- The nine forms of the command line.
use Rattle.std.specs.Prelude.{ℕ, ◌&&◌, ◌||◌, ◌^◌, Bool, false, if◌then◌else◌, nat_le, nat_lt, List, [], ◌∷◌, Option, Some, None, option_map, codes}
use Rattle.std.specs.List.{list_all, list_any}
use Rattle.std.specs.Str.{bytes_eq}
use Rattle.std.specs.Char.{digit_value}
use Rattle.std.specs.Str.Parse.{digits_value}
use Rattle.cf_base.specs.declared.calendar.Day.{Day}
use Rattle.cf_base.specs.declared.calendar.Month.{Month}
use Rattle.cf_base.specs.Common.{day_of_text, month_of_text, last_year, most_entries, most_cents, statement_of}
use Rattle.cf_run_words.specs.Forms.{Text, Use, Form, uses_of, value_of}
use Rattle.cf_run_words.specs.declared.words.Command.{Command}
use Rattle.cf_run_words.specs.declared.words.Command.TheVariants as command
use Rattle.cf_run_words.specs.declared.words.ReportKind.{ReportKind}
use Rattle.cf_run_words.specs.declared.words.ReportKind.TheVariants as report

infixl 10 ◌>>=◌
abbrev pub ◌>>=◌ : {A B : Type 0} → Option A → (A → Option B) → Option B
None >>= f = None
(Some a) >>= f = f a

-- ---- numbers, months, days and kinds

-- the text begins with a digit from 1 to 9
abbrev pub has_lead : Text → Bool
has_lead [] = false
has_lead (b ∷ rest) = nat_le 49 b && nat_le b 57

abbrev pub are_digits : Text → Bool
are_digits text = list_all (λ d. nat_lt (digit_value d) 10) text

-- the text is `0`, or has no leading zero and no sign
abbrev pub begins_number : Text → Bool
begins_number text = has_lead text || bytes_eq text (codes "0")

-- digits alone, with no sign and no leading zero, that fit 64 bits
abbrev pub number_of : Text → Option ℕ
number_of text = if begins_number text
    && (are_digits text && nat_lt (digits_value 10 text) (2 ^ 64))
    then Some (digits_value 10 text) else None

abbrev pub within : ℕ → ℕ → ℕ → Option ℕ
within low high n = if nat_le low n && nat_le n high then Some n else None

abbrev pub number_in : ℕ → ℕ → Option Text → Option ℕ
number_in low high text = do
  t ← text
  n ← number_of t
  within low high n

-- a month `YYYY-MM` and a day `YYYY-MM-DD` that a call may state
abbrev pub month_in : Option Text → Option Month
month_in text = text >>= month_of_text

abbrev pub day_in : Option Text → Option Day
day_in text = text >>= day_of_text

-- what `report` prints: the statements of three words more
abbrev pub report_kind_of : Text → Option ReportKind
report_kind_of text =
    if bytes_eq text (codes "classes") then Some report.Classes
    else (if bytes_eq text (codes "components") then Some report.Components
    else (if bytes_eq text (codes "major") then Some report.Major
    else option_map (λ k. report.Look k) (statement_of text)))

-- ---- the forms

abbrev pub bare_form : Form
bare_form = record { options = []; flags = []; places = [] }

abbrev pub serve_form : Form
serve_form = record {
  options = codes "port" ∷ codes "doors" ∷ codes "links" ∷ [];
  flags = [];
  places = [];
}

abbrev pub report_form : Form
report_form = record {
  options = [];
  flags = codes "csv" ∷ [];
  places = codes "year" ∷ codes "kind" ∷ [];
}

abbrev pub generate_form : Form
generate_form = record { options = []; flags = []; places = codes "n" ∷ [] }

abbrev pub pool_form : Form
pool_form = record {
  options = [];
  flags = [];
  places = codes "month" ∷ codes "amount" ∷ codes "desk" ∷ [];
}

abbrev pub claim_form : Form
claim_form = record {
  options = [];
  flags = [];
  places = codes "grant" ∷ codes "date" ∷ codes "desk" ∷ [];
}

abbrev pub ship_form : Form
ship_form = record { options = []; flags = []; places = codes "from" ∷ [] }

-- the flag is used: its value is `true`
abbrev pub is_set : Option Text → Bool
is_set None = false
is_set (Some text) = bytes_eq text (codes "true")

abbrev pub serve_of : List Use → Option Command
serve_of uses = do
  port ← number_in 1024 65000 (value_of (codes "port") uses)
  doors ← number_in 1 16 (value_of (codes "doors") uses)
  links ← number_in 1 1000000 (value_of (codes "links") uses)
  Some (command.Serve port doors links)

abbrev pub report_of : List Use → Option Command
report_of uses = do
  year ← number_in 1971 last_year (value_of (codes "year") uses)
  text ← value_of (codes "kind") uses
  kind ← report_kind_of text
  Some (command.Report year kind (is_set (value_of (codes "csv") uses)))

abbrev pub generate_of : List Use → Option Command
generate_of uses = do
  n ← number_in 1 100000 (value_of (codes "n") uses)
  Some (command.Generate n)

abbrev pub pool_of : List Use → Option Command
pool_of uses = do
  month ← month_in (value_of (codes "month") uses)
  amount ← number_in 1 most_cents (value_of (codes "amount") uses)
  desk ← number_in 1 9999 (value_of (codes "desk") uses)
  Some (command.Pool month amount desk)

abbrev pub claim_of : List Use → Option Command
claim_of uses = do
  grant ← number_in 1 9999 (value_of (codes "grant") uses)
  on ← day_in (value_of (codes "date") uses)
  desk ← number_in 1 9999 (value_of (codes "desk") uses)
  Some (command.Claim grant on desk)

abbrev pub ship_of : List Use → Option Command
ship_of uses = do
  from ← number_in 0 most_entries (value_of (codes "from") uses)
  Some (command.Ship from)

-- the command of this name, with the words after it
abbrev pub command_named : Text → List Text → Option Command
command_named name rest =
    if bytes_eq (codes "found") name then uses_of bare_form rest >>= (λ _. Some command.Found)
    else (if bytes_eq (codes "desk") name then uses_of bare_form rest >>= (λ _. Some command.Desk)
    else (if bytes_eq (codes "serve") name then uses_of serve_form rest >>= serve_of
    else (if bytes_eq (codes "report") name then uses_of report_form rest >>= report_of
    else (if bytes_eq (codes "generate") name then uses_of generate_form rest >>= generate_of
    else (if bytes_eq (codes "pool") name then uses_of pool_form rest >>= pool_of
    else (if bytes_eq (codes "claim") name then uses_of claim_form rest >>= claim_of
    else (if bytes_eq (codes "ship") name then uses_of ship_form rest >>= ship_of
    else (if bytes_eq (codes "follow") name
    then uses_of bare_form rest >>= (λ _. Some command.Follow)
    else None))))))))

abbrev pub is_dashes : Text → Bool
is_dashes word = bytes_eq word (codes "--")

abbrev pub command_at : List Text → Option Command
command_at [] = None
command_at (name ∷ rest) = command_named name rest

-- the command that the words ask for; the word `--` stands in no form
abbrev pub command_of : List Text → Option Command
command_of words = if list_any is_dashes words then None else command_at words
