use Rattle.std.proofs.Common.{◌≡◌, ◌∙◌, ap, List, [], ◌∷◌, ◌++◌, None}
use Rattle.cf_base.proofs.Common.{on_ok_weaker}
use Rattle.cf_chart.specs.Common.{Plan}
use Rattle.cf_model.specs.Common.{Department, Line, RevenueSource}
use Rattle.cf_books_month.specs.declared.rows.MonthRow.{MonthRow}
use Rattle.cf_books_month.specs.declared.rows.Part.TheVariants as part
use Rattle.cf_books_month.specs.Rows.{amounts_in, department_rows, fund_rows, line_rows, lines_of, source_rows, sources_of, total_row}
use Rattle.cf_books_month.proofs.Totals.{joined}
use Rattle.cf_books_month.proofs.rows.put_fund.Goals as goal

pub line_rows-requires-clause-all : goal.line_rows-requires-clause-all
line_rows-requires-clause-all c = c.lines.ensures.value ∙ ap (λ (p : Plan). p.lines) c.chart-chart.ensures

pub returns : goal.returns
unfolding fund_rows
returns c =
    let s = c.args.sums.now in
    let plan = s.rest.now.plan in
    let entries = s.rest.now.entries in
    let fund = c.args.fund in
    let year = c.args.year in
    let old : List MonthRow = c.args.out.now.items in
    let lines : List MonthRow = lines_of plan entries s.month year fund in
    let sources : List MonthRow = sources_of plan entries s.month year fund in
    let depts : List MonthRow = department_rows fund lines plan.departments in
    let lines_total : MonthRow = total_row part.Fund fund None (amounts_in lines) in
    let sources_total : MonthRow = total_row part.Sources fund None (amounts_in sources) in
    let line_is : c.in_ok-lines.lines.items ≡ lines =
    c.in_ok-lines.ensures ∙ ap (λ (ls : List Line). line_rows plan entries s.month year fund 0 ls) (c.lines.ensures.value ∙ ap (λ (p : Plan). p.lines) c.chart-chart.ensures) in
    let source_is : c.in_ok-sources.sources.items ≡ sources =
    c.in_ok-sources.ensures ∙ ap (λ (ss : List RevenueSource). source_rows plan entries s.month year fund ss) (c.sources.ensures.value ∙ ap (λ (p : Plan). p.sources) c.chart-chart.ensures) in
    let one : c.extend_from_slice.new.self.items ≡ old ++ lines = c.in_ok-extend_from_slice.ensures.items ∙ ap (λ (rs : List MonthRow). old ++ rs) (c.as_slice.ensures.value ∙ line_is) in
    let two : c.put_departments.new.out.items ≡ c.extend_from_slice.new.self.items ++ depts =
    c.in_ok-put_departments.ensures
    ∙ ap (λ (rs : List MonthRow). c.extend_from_slice.new.self.items ++ department_rows fund rs c.depts.result.now) (c.as_slice-2.ensures.value ∙ line_is)
    ∙ ap (λ (ds : List Department). c.extend_from_slice.new.self.items ++ department_rows fund lines ds) (c.depts.ensures.value ∙ ap (λ (p : Plan). p.departments) c.chart-chart.ensures) in
    let three : c.put_total.new.out.items ≡ c.put_departments.new.out.items ++ lines_total ∷ [] =
    c.in_ok-put_total.ensures ∙ ap (λ (rs : List MonthRow). c.put_departments.new.out.items ++ total_row part.Fund fund None (amounts_in rs) ∷ []) (c.as_slice-3.ensures.value ∙ line_is) in
    let four : c.extend_from_slice-2.new.self.items ≡ c.put_total.new.out.items ++ sources =
    c.in_ok-extend_from_slice-2.ensures.items ∙ ap (λ (rs : List MonthRow). c.put_total.new.out.items ++ rs) (c.as_slice-4.ensures.value ∙ source_is) in
    let all : c.extend_from_slice-2.new.self.items ≡ (((old ++ lines) ++ depts) ++ lines_total ∷ []) ++ sources =
    four ∙ ap (λ (x : List MonthRow). x ++ sources) (three ∙ ap (λ (x : List MonthRow). x ++ lines_total ∷ []) (two ∙ ap (λ (x : List MonthRow). x ++ depts) one)) in
    on_ok_weaker c.put_total-2.result
    (λ put.
    put ∙ ap (λ (rs : List MonthRow). c.extend_from_slice-2.new.self.items ++ total_row part.Sources fund None (amounts_in rs) ∷ []) (c.as_slice-5.ensures.value ∙ source_is)
    ∙ ap (λ (x : List MonthRow). x ++ sources_total ∷ []) all ∙ joined old lines depts sources lines_total sources_total)
    c.put_total-2.ensures
