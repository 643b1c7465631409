-- The command that a parse found, by the rows of its arguments.
use Rattle.std.specs.Prelude.{ℕ, Bool, true, false, ◌||◌, not, if◌then◌else◌, List, Option, Some, None, is_some, option_map, codes}
use Rattle.std.specs.Str.{bytes_eq}
use Rattle.clap.specs.Words.{Row, Text, first_of}
use Rattle.cf_base.specs.Common.{last_year}
use Rattle.cf_base.specs.declared.calendar.Day.{Day}
use Rattle.cf_base.specs.declared.statement.Kind.TheVariants as kind
use Rattle.cf_run_words.specs.Words.{◌>>=◌, is_set, number_in, report_kind_of}
use Rattle.cf_run_words.specs.declared.words.ReportKind.{ReportKind}
use Rattle.cf_run_words.specs.declared.words.ReportKind.TheVariants.{Look, Classes, Components, Major}
use Rattle.cf_books_words.specs.declared.options.Days.{Days}
use Rattle.cf_books_words.specs.declared.words.Command.{Command}
use Rattle.cf_books_words.specs.declared.words.Command.TheVariants as command
use Rattle.cf_books_words.specs.declared.words.DocumentFilter.{DocumentFilter}
use Rattle.cf_books_words.specs.declared.words.DocumentKind.{DocumentKind}
use Rattle.cf_books_words.specs.declared.words.DocumentKind.TheVariants as document
use Rattle.cf_books_words.specs.declared.words.LedgerFilter.{LedgerFilter}
use Rattle.cf_books_words.specs.declared.words.PostFilter.{PostFilter}
use Rattle.cf_books_words.specs.Options.{option_in}

abbrev pub is_csv : List Row → Bool
is_csv rows = is_set (first_of (codes "csv") rows)

abbrev pub is_alone : List Row → Bool
is_alone rows = is_set (first_of (codes "alone") rows)

-- an option that is an id, 1 to 9999
abbrev pub id_in : Text → List Row → Option (Option ℕ)
id_in name rows = option_in 1 9999 (first_of name rows)

-- a fiscal year that is wanted
abbrev pub option_year_in : List Row → Option (Option ℕ)
option_year_in rows = option_in 1971 last_year (first_of (codes "year") rows)

-- ---- filters

abbrev pub filter_in : List Row → Option PostFilter
filter_in rows = do
  year ← option_year_in rows
  fund ← option_in 0 9999 (first_of (codes "fund") rows)
  account ← option_in 1 999999 (first_of (codes "account") rows)
  Some (record { year = year; fund = fund; account = account })

abbrev pub ledger_filter_in : Days → List Row → Option LedgerFilter
ledger_filter_in days rows = do
  fund ← id_in (codes "fund") rows
  dept ← id_in (codes "dept") rows
  object ← id_in (codes "object") rows
  line ← option_in 0 4095 (first_of (codes "line") rows)
  source ← id_in (codes "source") rows
  vendor ← option_in 0 4294967295 (first_of (codes "vendor") rows)
  year ← option_year_in rows
  Some (record {
    fund = fund;
    dept = dept;
    object = object;
    line = line;
    source = source;
    vendor = vendor;
    year = year;
    from = days.from;
    through = days.through;
  })

abbrev pub document_kind_of : Text → Option DocumentKind
document_kind_of text =
    if bytes_eq text (codes "requisition") then Some document.Requisition
    else (if bytes_eq text (codes "order") then Some document.Order
    else (if bytes_eq text (codes "voucher") then Some document.Voucher
    else (if bytes_eq text (codes "bill") then Some document.Bill
    else (if bytes_eq text (codes "asset") then Some document.Asset
    else (if bytes_eq text (codes "bond") then Some document.Bond
    else (if bytes_eq text (codes "lease") then Some document.Lease
    else (if bytes_eq text (codes "loan") then Some document.Loan else None)))))))

abbrev pub option_kind_in : Option Text → Option (Option DocumentKind)
option_kind_in None = Some None
option_kind_in (Some text) = option_map (λ k. Some k) (document_kind_of text)

abbrev pub document_filter_in : List Row → Option DocumentFilter
document_filter_in rows = do
  kind ← option_kind_in (first_of (codes "kind") rows)
  party ← option_in 0 4294967295 (first_of (codes "party") rows)
  amount ← option_in 0 18446744073709551615 (first_of (codes "amount") rows)
  Some (record { kind = kind; party = party; amount = amount })

-- ---- commands

abbrev pub claims_in : List Row → Option Command
claims_in rows = do
  grant ← number_in 1 9999 (first_of (codes "first") rows)
  Some (command.Claims grant (is_csv rows))

abbrev pub posts_in : Option Day → List Row → Option Command
posts_in through rows = do
  filter ← filter_in rows
  Some (command.Posts filter through (is_csv rows))

abbrev pub balances_in : Option Day → List Row → Option Command
balances_in through rows = do
  year ← number_in 1971 last_year (first_of (codes "first") rows)
  Some (command.Balances year through (is_alone rows) (is_csv rows))

-- the statements that are said of entries through a day
abbrev pub has_days : ReportKind → Bool
has_days (Look kind.Balance) = true
has_days (Look kind.Operating) = true
has_days (Look kind.Budget) = true
has_days (Look kind.Position) = true
has_days (Look kind.Activities) = true
has_days (Look kind.Reconcile) = false
has_days (Look kind.Changes) = false
has_days Classes = false
has_days Components = false
has_days Major = false

abbrev pub kind_for : Option Day → ReportKind → Option ReportKind
kind_for through kind = if not (is_some through) || has_days kind then Some kind else None

-- a statement has the same words as for `report`
abbrev pub statement_in : Option Day → List Row → Option Command
statement_in through rows = do
  year ← number_in 1971 last_year (first_of (codes "first") rows)
  text ← first_of (codes "second") rows
  named ← report_kind_of text
  kind ← kind_for through named
  Some (command.Statement year kind through (is_csv rows))

abbrev pub ledger_in : Days → List Row → Option Command
ledger_in days rows = do
  filter ← ledger_filter_in days rows
  Some (command.Ledger filter (is_csv rows))

abbrev pub documents_in : List Row → Option Command
documents_in rows = do
  filter ← document_filter_in rows
  Some (command.Documents filter (is_csv rows))

abbrev pub paid_in : List Row → Option Command
paid_in rows = do
  year ← number_in 1971 last_year (first_of (codes "first") rows)
  Some (command.Paid year (is_csv rows))
