-- What the words name that a chart doesn't have: an ending of its own, in place of a list without
-- rows.
use Rattle.std.specs.Prelude.{ℕ, Bool, ◌==◌, nat_lt, if◌then◌else◌, Option, Some, None, is_some}
use Rattle.std.specs.Option.{option_or}
use Rattle.cf_model.specs.Common.{Day, year_of_day}
use Rattle.cf_books_words.specs.declared.words.Command.{Command}
use Rattle.cf_books_words.specs.declared.words.Command.TheVariants as asked
use Rattle.cf_books_words.specs.declared.words.LedgerFilter.{LedgerFilter}
use Rattle.cf_books_words.specs.declared.words.PostFilter.{PostFilter}
use Rattle.cf_chart.specs.Common.{Plan, department_at, fund_at, line_at, object_at, source_at}
use Rattle.cf_books.specs.declared.unknown.NameKind.{NameKind}
use Rattle.cf_books.specs.declared.unknown.NameKind.TheVariants as kind
use Rattle.cf_books.specs.declared.unknown.Unknown.{Unknown}
use Rattle.cf_books.specs.declared.unknown.Unknown.TheVariants.{Early, Name}

-- ---- numbers

abbrev pub has_name : Plan → NameKind → ℕ → Bool
has_name plan kind.Fund n = is_some (fund_at plan n)
has_name plan kind.Department n = is_some (department_at plan n)
has_name plan kind.Line n = is_some (line_at plan n)
has_name plan kind.Object n = is_some (object_at plan n)
has_name plan kind.Source n = is_some (source_at plan n)

-- the number that is given, where the chart has no row of it
abbrev pub missing : Plan → NameKind → Option ℕ → Option Unknown
missing plan k None = None
missing plan k (Some n) = if has_name plan k n then None else Some (Name k n)

-- ---- days

abbrev pub is_early : Plan → Day → Bool
is_early plan day = nat_lt (year_of_day plan day) plan.first_year

-- the day that is given, where it lies before the first fiscal year
abbrev pub early : Plan → Option Day → Option Unknown
early plan None = None
early plan (Some day) = if is_early plan day then Some (Early day) else None

-- ---- commands: the first of several is told

-- the fund 0 of posts is the city as a whole, and no row of a chart
abbrev pub row_fund : Option ℕ → Option ℕ
row_fund None = None
row_fund (Some n) = if n == 0 then None else Some n

abbrev pub unknown_in_posts : Plan → PostFilter → Option Day → Option Unknown
unknown_in_posts plan filter through =
    option_or (missing plan kind.Fund (row_fund filter.fund)) (early plan through)

abbrev pub unknown_account : Plan → LedgerFilter → Option Unknown
unknown_account plan filter =
    option_or (missing plan kind.Fund filter.fund)
    (option_or (missing plan kind.Department filter.dept) (missing plan kind.Object filter.object))

abbrev pub unknown_in_ledger : Plan → LedgerFilter → Option Unknown
unknown_in_ledger plan filter =
    option_or (unknown_account plan filter)
    (option_or (missing plan kind.Line filter.line)
    (option_or (missing plan kind.Source filter.source)
    (option_or (early plan filter.from) (early plan filter.through))))

abbrev pub unknown_in : Plan → Command → Option Unknown
unknown_in plan (asked.Posts filter through csv) = unknown_in_posts plan filter through
unknown_in plan (asked.Balances year through alone csv) = early plan through
unknown_in plan (asked.Statement year kind through csv) = early plan through
unknown_in plan (asked.Ledger filter csv) = unknown_in_ledger plan filter
unknown_in plan asked.CheckChart = None
unknown_in plan asked.CheckGrants = None
unknown_in plan asked.Check = None
unknown_in plan (asked.List csv) = None
unknown_in plan asked.Calls = None
unknown_in plan asked.Chart = None
unknown_in plan asked.Lines = None
unknown_in plan (asked.Claims grant csv) = None
unknown_in plan (asked.Open csv) = None
unknown_in plan (asked.Documents filter csv) = None
unknown_in plan (asked.Month month csv) = None
unknown_in plan (asked.Paid year csv) = None
