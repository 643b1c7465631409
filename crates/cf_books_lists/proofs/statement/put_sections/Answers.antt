use Rattle.cf_chart.specs.declared.rows.Fund.{Fund}
use Rattle.cf_books_lists.specs.Statement.{section_lines}
use Rattle.cf_books_lists.proofs.Next.{next_flat}
use Rattle.cf_books_lists.proofs.statement.put_sections.Goals as goal

pub loop-fund-preserved : goal.loop-fund-preserved
loop-fund-preserved c =
    next_flat (λ (f : Fund). section_lines c.args.chart.now c.args.year f.id) c.args.funds.now c.loop-fund.fund-index c.fund-item.result c.loop-fund.out.items c.put_section.new.out.items _
    c.loop-fund-test.true c.fund-item.is c.in_ok-put_section.ensures c.loop-fund.invariant
