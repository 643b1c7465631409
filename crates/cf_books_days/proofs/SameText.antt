-- Where no entry is dated later, the text of a statement through a day is that of the history.
use Rattle.std.proofs.Common.{◌≡◌, ℕ, ◌<◌, ◌≤◌, Bool, true, List, length, refl, ap, ◌∙◌}
use Rattle.cf_base.proofs.Common.{AllByRecursion}
use Rattle.cf_model.specs.Common.{Day, Entry, sums_of, IsLegal}
use Rattle.cf_base.specs.Common.{most_entries}
use Rattle.cf_chart.specs.Common.{Plan}
use Rattle.cf_books_lists.specs.Statement.{rows_of, statement_text, text_of}
use Rattle.cf_books_days.specs.declared.statement.DatedKind.{DatedKind}
use Rattle.cf_books_days.specs.declared.statement.DatedKind.TheVariants as dated
use Rattle.cf_books_days.specs.Statement.{report_kind, rows_by, through_text}
use Rattle.cf_books_days.specs.Through.{is_through}
use Rattle.cf_books_days.proofs.Same.{rows_all}

rows_are : (plan : Plan) (h : List Entry) (year : ℕ) (kind : DatedKind) → rows_by plan (sums_of plan h) year kind ≡ rows_of plan h year (report_kind kind)
rows_are plan h year dated.Balance = refl
rows_are plan h year dated.Operating = refl
rows_are plan h year dated.Budget = refl
rows_are plan h year dated.Position = refl
rows_are plan h year dated.Activities = refl

pub text_all : (csv : Bool) (plan : Plan) (day : Day) (h : List Entry) (year : ℕ) (kind : DatedKind) → IsLegal plan h → length h ≤ most_entries → year < 2201 →
    AllByRecursion (λ e. is_through day e.change.on ≡ true) h → through_text csv day year kind plan h ≡ statement_text csv year (report_kind kind) plan h
text_all csv plan day h year kind legal few y all =
    ap (text_of csv year (report_kind kind) plan) (rows_all plan day h year kind legal few y all ∙ rows_are plan h year kind)
