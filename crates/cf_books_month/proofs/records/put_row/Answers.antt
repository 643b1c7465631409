use Rattle.std.proofs.Common.{◌≡◌, ◌∙◌, ap, decimal}
use Rattle.cf_base.specs.Common.{money_of}
use Rattle.cf_chart.specs.Common.{fund_at}
use Rattle.cf_books_lists.specs.Names.{fund_name}
use Rattle.cf_books_lists.specs.Open.{line_of}
use Rattle.cf_books_lists.specs.Records.{number_text}
use Rattle.cf_books_lists.specs.Statement.{row_part, row_part_name}
use Rattle.cf_books_month.specs.Records.{dept_text, part_word, percent_text, row_fields, source_text}
use Rattle.cf_books_month.proofs.records.put_row.Goals as goal

pub returns : goal.returns
unfolding row_fields
returns c =
    let plan = c.args.chart.now in
    let r = c.args.row.now in
    let n = c.in_ok-names.ensures in
    let m = c.in_ok-moneys.ensures in
    let part : c.as_slice.result.now ≡ part_word r.part = c.as_slice.ensures.value ∙ n.part in
    let fund : c.as_slice-2.result.now ≡ decimal r.fund = c.as_slice-2.ensures.value ∙ n.fund in
    let fund_named : c.as_bytes.result.now ≡ fund_name (fund_at plan r.fund) = c.as_bytes.ensures.value ∙ c.fund_name.ensures ∙ ap fund_name c.fund.ensures in
    let dept : c.as_slice-3.result.now ≡ number_text r.dept = c.as_slice-3.ensures.value ∙ n.dept in
    let dept_named : c.as_bytes-2.result.now ≡ dept_text plan r.dept = c.as_bytes-2.ensures.value ∙ c.dept_text.ensures in
    let line : c.as_slice-4.result.now ≡ number_text r.line = c.as_slice-4.ensures.value ∙ n.line in
    let line_part : c.as_slice-5.result.now ≡ row_part plan (line_of plan r.line) = c.as_slice-5.ensures.value ∙ n.line_part in
    let line_named : c.as_bytes-3.result.now ≡ row_part_name plan (line_of plan r.line) = c.as_bytes-3.ensures.value ∙ c.row_part_name.ensures ∙ ap (row_part_name plan) c.line_of.ensures in
    let source : c.as_slice-6.result.now ≡ number_text r.source = c.as_slice-6.ensures.value ∙ n.source in
    let source_named : c.as_bytes-4.result.now ≡ source_text plan r.source = c.as_bytes-4.ensures.value ∙ c.source_text.ensures in
    let budget : c.as_bytes-5.result.now ≡ money_of r.amounts.budget = c.as_bytes-5.ensures.value ∙ c.as_str.ensures.value ∙ m.budget in
    let month : c.as_bytes-6.result.now ≡ money_of r.amounts.month = c.as_bytes-6.ensures.value ∙ c.as_str-2.ensures.value ∙ m.month in
    let year : c.as_bytes-7.result.now ≡ money_of r.amounts.year = c.as_bytes-7.ensures.value ∙ c.as_str-3.ensures.value ∙ m.year in
    let on_order : c.as_bytes-8.result.now ≡ money_of r.amounts.on_order = c.as_bytes-8.ensures.value ∙ c.as_str-4.ensures.value ∙ m.on_order in
    let held : c.as_bytes-9.result.now ≡ money_of r.amounts.held = c.as_bytes-9.ensures.value ∙ c.as_str-5.ensures.value ∙ m.held in
    let left : c.as_bytes-10.result.now ≡ money_of r.amounts.left = c.as_bytes-10.ensures.value ∙ c.as_str-6.ensures.value ∙ m.left in
    let percent : c.as_bytes-11.result.now ≡ percent_text r.amounts.budget r.amounts.left = c.as_bytes-11.ensures.value ∙ c.as_str-7.ensures.value ∙ m.percent in
    let month_ago : c.as_bytes-12.result.now ≡ money_of r.amounts.month_ago = c.as_bytes-12.ensures.value ∙ c.as_str-8.ensures.value ∙ m.month_ago in
    let year_ago : c.as_bytes-13.result.now ≡ money_of r.amounts.year_ago = c.as_bytes-13.ensures.value ∙ c.as_str-9.ensures.value ∙ m.year_ago in
    rw (← part, ← fund, ← fund_named, ← dept, ← dept_named, ← line, ← line_part, ← line_named, ← source, ← source_named, ← budget, ← month, ← year, ← on_order, ← held, ← left, ← percent, ← month_ago, ← year_ago)
    (rw c.as_slice-7.ensures at c.put.ensures)
