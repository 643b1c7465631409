use Rattle.std.proofs.Common.{◌≡◌, ◌∙◌, Vec, Global, ℕ}
use Rattle.cf_base.proofs.Common.{IfOk-weaker}
use Rattle.cf_books_lists.specs.Statement.{text_of}
use Rattle.cf_books_days.specs.Statement.{rows_by}
use Rattle.cf_books_days.specs.Through.{sums_through}
use Rattle.cf_books_days.proofs.statement.statement_through_text.Goals as goal

pub returns-clause-text : goal.returns-clause-text
returns-clause-text c =
    let rest = c.args.rest.now in
    let csv = c.args.layout.csv in
    let year = c.args.year in
    let kind = c.args.kind in
    let sums = c.in_ok-sums.ensures in
    let rows : c.as_slice.result.now ≡ rows_by rest.plan (sums_through rest.plan c.args.day rest.entries) year kind =
    c.as_slice.ensures.value ∙ c.in_ok-rows.ensures
    ∙ (λ i. rows_by (sums.rest i).plan (sums_through (sums.rest i).plan (sums.day i) (sums.rest i).entries) year kind) in
    IfOk-weaker c.text_of_rows.result _ _
    (λ (v : Vec ℕ Global) text. text ∙ (λ i. text_of csv year (c.report_kind.ensures i) (c.chart-chart.ensures.value i) (rows i))) c.text_of_rows.ensures
