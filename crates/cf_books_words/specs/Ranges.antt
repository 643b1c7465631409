-- The ranges of a command's numbers and days.
use Rattle.std.specs.Prelude.{ℕ, ◌≡◌, ◌≤◌, ⊤, true, Option, Some, None}
use Rattle.cf_base.specs.Common.{is_call_month, is_day, last_year, most_entries}
use Rattle.cf_base.specs.declared.calendar.Day.{Day}
use Rattle.cf_base.specs.declared.calendar.Month.{Month}
use Rattle.cf_run_words.specs.Ranges.{IsFrom}
use Rattle.cf_books_words.specs.declared.words.Command.{Command}
use Rattle.cf_books_words.specs.declared.words.Command.TheVariants as command
use Rattle.cf_books_words.specs.declared.words.LedgerFilter.{LedgerFilter}
use Rattle.cf_books_words.specs.declared.words.PostFilter.{PostFilter}
use Rattle.cf_books_words.specs.declared.words.Request.{Request}

-- a number that may be left out
abbrev pub IsOptionFrom : ℕ → ℕ → Option ℕ → Type 0
IsOptionFrom low high None = ⊤
IsOptionFrom low high (Some n) = IsFrom low high n

-- a day, and a month, that a history may have, from 1971 on
abbrev pub IsAskedDay : Day → Type 0
IsAskedDay d = (is_day d ≡ true) × 1971 ≤ d.year

abbrev pub IsAskedMonth : Month → Type 0
IsAskedMonth m = (is_call_month m ≡ true) × 1971 ≤ m.year

abbrev pub IsOptionDay : Option Day → Type 0
IsOptionDay None = ⊤
IsOptionDay (Some d) = IsAskedDay d

-- fiscal years, funds with 0 for the city as a whole, and accounts
pub record IsFilterInRange (f : PostFilter) : Type 0 where
  pub year : IsOptionFrom 1971 last_year f.year
  pub fund : IsOptionFrom 0 9999 f.fund
  pub account : IsOptionFrom 1 999999 f.account

-- ids, the numbers of control lines, fiscal years and days
pub record IsLedgerInRange (f : LedgerFilter) : Type 0 where
  pub fund : IsOptionFrom 1 9999 f.fund
  pub dept : IsOptionFrom 1 9999 f.dept
  pub object : IsOptionFrom 1 9999 f.object
  pub line : IsOptionFrom 0 4095 f.line
  pub source : IsOptionFrom 1 9999 f.source
  pub year : IsOptionFrom 1971 last_year f.year
  pub from : IsOptionDay f.from
  pub through : IsOptionDay f.through

-- grants, years, days and months
abbrev pub IsInRange : Command → Type 0
IsInRange (command.Claims grant csv) = IsFrom 1 9999 grant
IsInRange (command.Posts filter through csv) = IsFilterInRange filter × IsOptionDay through
IsInRange (command.Balances year through alone csv) = IsFrom 1971 last_year year
    × IsOptionDay through
IsInRange (command.Statement year kind through csv) = IsFrom 1971 last_year year
    × IsOptionDay through
IsInRange (command.Ledger filter csv) = IsLedgerInRange filter
IsInRange (command.Month month csv) = IsAskedMonth month
IsInRange (command.Paid year csv) = IsFrom 1971 last_year year
IsInRange _ = ⊤

pub record IsRequestInRange (r : Request) : Type 0 where
  pub command : IsInRange r.command
  pub entries : IsOptionFrom 0 most_entries r.entries
