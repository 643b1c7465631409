use Rattle.std.proofs.Common.{◌≡◌, ◌∙◌, ap, decimal}
use Rattle.cf_books_lists.specs.LineNames.{later_of, part_and_years, part_name}
use Rattle.cf_books_lists.specs.Names.{department_name, fund_name}
use Rattle.cf_chart.specs.Common.{department_at, fund_at}
use Rattle.cf_books.proofs.lines.put_line.Goals as goal

pub returns : goal.returns
returns c =
    let chart = c.args.chart.now in
    let line = c.args.line.now in
    let number : c.as_slice.result.now ≡ decimal c.args.number = c.as_slice.ensures.value ∙ c.in_ok-at.ensures in
    let fund : c.as_slice-2.result.now ≡ decimal line.fund = c.as_slice-2.ensures.value ∙ c.in_ok-fund.ensures in
    let fund_is : c.as_bytes.result.now ≡ fund_name (fund_at chart line.fund) = c.as_bytes.ensures.value ∙ c.fund_name.ensures ∙ ap fund_name c.fund-2.ensures in
    let dept : c.as_slice-3.result.now ≡ decimal line.dept = c.as_slice-3.ensures.value ∙ c.in_ok-dept.ensures in
    let dept_is : c.as_bytes-2.result.now ≡ department_name (department_at chart line.dept) = c.as_bytes-2.ensures.value ∙ c.department_name.ensures ∙ ap department_name c.dept.ensures in
    let later : c.later_of.result ≡ later_of (fund_at chart line.fund) = c.later_of.ensures ∙ ap later_of c.fund.ensures in
    let part : c.as_slice-4.result.now ≡ part_and_years line (later_of (fund_at chart line.fund)) = c.as_slice-4.ensures.value ∙ c.in_ok-part.ensures ∙ ap (part_and_years line) later in
    let part_is : c.as_bytes-3.result.now ≡ part_name chart line.part = c.as_bytes-3.ensures.value ∙ c.part_name.ensures in
    rw (← number, ← fund, ← fund_is, ← dept, ← dept_is, ← part, ← part_is) (rw c.as_slice-5.ensures at c.put.ensures)
