use Rattle.std.proofs.Common.{◌≡◌, ◌∙◌, arith, ap, Bool, ℕ, List, ◌++◌}
use Rattle.cf_base.proofs.Common.{IfOk-weaker}
use Rattle.cf_base.specs.Common.{year_of_month}
use Rattle.cf_model.specs.Common.{Month}
use Rattle.cf_chart.specs.Common.{Plan}
use Rattle.cf_office_history.specs.RestState.{RestState}
use Rattle.cf_books_lists.specs.Records.{head_text, record_text}
use Rattle.cf_books_lists.specs.Rows.{Written, added, none_written}
use Rattle.cf_books_lists.proofs.Adding.{added_two}
use Rattle.cf_books_month.specs.declared.rows.MonthRow.{MonthRow}
use Rattle.cf_books_month.specs.Month.{first_fields, head}
use Rattle.cf_books_month.specs.Records.{rows_text}
use Rattle.cf_books_month.specs.Rows.{month_rows}
use Rattle.cf_books_month.proofs.Months.{call_month, year_between}
use Rattle.cf_books_month.proofs.month.month_text.Goals as goal

pub returns-clause-text : goal.returns-clause-text
returns-clause-text c =
    let rest = c.args.rest.now in
    let m = c.args.month in
    let rows : List MonthRow = month_rows rest.plan rest.entries m (year_of_month rest.plan.first_month m) in
    let year : c.fiscal_year-year.result ≡ year_of_month rest.plan.first_month m =
    c.fiscal_year-year.ensures ∙ ap (λ first. year_of_month first m) (c.first_month.ensures.value ∙ ap (λ (p : Plan). p.first_month) c.chart.ensures.value) in
    let same : c.as_slice.result.now ≡ rows =
    c.as_slice.ensures.value ∙ c.in_ok-rows.ensures ∙ ap (λ (r : RestState). month_rows r.plan r.entries c.in_ok-sums.sums.month c.fiscal_year-year.result) c.in_ok-sums.ensures.rest
    ∙ ap (λ (x : Month). month_rows rest.plan rest.entries x c.fiscal_year-year.result) c.in_ok-sums.ensures.month ∙ ap (month_rows rest.plan rest.entries m) year in
    let names : Bool → List ℕ = λ b. head_text b head in
    let first : Bool → List ℕ = λ b. record_text b (first_fields rest.plan rest.entries m) in
    let below : Bool → List ℕ = λ b. rows_text b rest.plan rows in
    let empty = c.new-out.result in
    let named = c.put_head.new.out in
    let begun = c.put_first.new.out in
    let all = c.put_rows.new.out in
    let third : all ≡ added begun (below begun.csv) =
    c.in_ok-put_rows.ensures ∙ ap (λ (p : Plan). added begun (rows_text begun.csv p c.as_slice.result.now)) c.chart-2.ensures.value
    ∙ ap (λ rs. added begun (rows_text begun.csv rest.plan rs)) same in
    let wrote : all ≡ added empty (names empty.csv ++ (first empty.csv ++ below empty.csv)) =
    added_two names (λ b. first b ++ below b) empty named all c.in_ok-put_head.ensures (added_two first below named begun all c.in_ok-put_first.ensures third) in
    let from : empty ≡ none_written c.args.layout.csv = c.new-out.ensures in
    IfOk-weaker c.into_text.result _ _ (λ bytes is. is ∙ ap (λ (w : Written). w.text) (wrote ∙ ap (λ (w : Written). added w (names w.csv ++ (first w.csv ++ below w.csv))) from)) c.into_text.ensures

pub fiscal_year-year-requires : goal.fiscal_year-year-requires
fiscal_year-year-requires c = let at = call_month c.args.month c.requires.month in omega (arith, at.0)

pub month_sums-requires-clause-from : goal.month_sums-requires-clause-from
month_sums-requires-clause-from c = omega (arith, c.requires.from)

pub month_sums-requires-clause-to : goal.month_sums-requires-clause-to
month_sums-requires-clause-to c = (call_month c.args.month c.requires.month).0

pub month_sums-requires-clause-first : goal.month_sums-requires-clause-first
month_sums-requires-clause-first c = (call_month c.args.month c.requires.month).1

pub month_rows-requires-clause-from : goal.month_rows-requires-clause-from
month_rows-requires-clause-from c =
    let at = call_month c.args.month c.requires.month in
    rw c.fiscal_year-year.ensures (year_between c.first_month.result c.args.month c.requires.from at.0).0

pub month_rows-requires-clause-to : goal.month_rows-requires-clause-to
month_rows-requires-clause-to c =
    let at = call_month c.args.month c.requires.month in
    rw c.fiscal_year-year.ensures (year_between c.first_month.result c.args.month c.requires.from at.0).1
