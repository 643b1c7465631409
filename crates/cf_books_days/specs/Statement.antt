-- A statement of a fiscal year, made of the entries that are dated through a day.
use Rattle.std.specs.Prelude.{ℕ, Bool, List}
use Rattle.cf_model.specs.Common.{Day, Entry, Row}
use Rattle.cf_base.specs.declared.statement.Kind.TheVariants as kind
use Rattle.cf_chart.specs.Common.{Plan}
use Rattle.cf_statements.specs.Activities.{activities_rows}
use Rattle.cf_statements.specs.Balance.{balance_rows}
use Rattle.cf_statements.specs.Budget.{budget_rows}
use Rattle.cf_statements.specs.Operating.{operating_rows}
use Rattle.cf_statements.specs.Position.{position_rows}
use Rattle.cf_statements.specs.Sums.{Sums}
use Rattle.cf_run_words.specs.declared.words.ReportKind.{ReportKind}
use Rattle.cf_run_words.specs.declared.words.ReportKind.TheVariants.{Look}
use Rattle.cf_books_lists.specs.Statement.{text_of}
use Rattle.cf_books_days.specs.declared.statement.DatedKind.{DatedKind}
use Rattle.cf_books_days.specs.declared.statement.DatedKind.TheVariants as dated
use Rattle.cf_books_days.specs.Through.{sums_through}

-- the statements that are made of sums alone
abbrev pub report_kind : DatedKind → ReportKind
report_kind dated.Balance = Look kind.Balance
report_kind dated.Operating = Look kind.Operating
report_kind dated.Budget = Look kind.Budget
report_kind dated.Position = Look kind.Position
report_kind dated.Activities = Look kind.Activities

-- their rows, as `report` makes them of the sums of a history
abbrev pub rows_by : Plan → Sums → ℕ → DatedKind → List Row
rows_by plan sums year dated.Balance = balance_rows plan sums year
rows_by plan sums year dated.Operating = operating_rows plan sums year
rows_by plan sums year dated.Budget = budget_rows plan sums year
rows_by plan sums year dated.Position = position_rows sums year
rows_by plan sums year dated.Activities = activities_rows plan sums year

abbrev pub through_text : Bool → Day → ℕ → DatedKind → Plan → List Entry → List ℕ
through_text csv day year kind plan history =
    text_of csv year (report_kind kind) plan
    (rows_by plan (sums_through plan day history) year kind)
