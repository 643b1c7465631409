use Rattle.cf_chart.specs.declared.rows.Fund.{Fund}
use Rattle.cf_books_lists.specs.Balances.{fund_text}
use Rattle.cf_books_lists.proofs.Next.{next_rows}
use Rattle.cf_books_lists.proofs.balances.put_funds.Goals as goal

pub loop-fund-preserved : goal.loop-fund-preserved
loop-fund-preserved g c =
    let plan = g.B.AccountBalances.plan c.args.books.now in
    let balances = g.B.AccountBalances.balances c.args.books.now in
    next_rows (λ csv (f : Fund). fund_text csv plan balances c.args.year f.id) c.args.funds.now c.loop-fund.fund-index c.fund-item.result c.loop-fund.out c.put_fund.new.out _
    c.loop-fund-test.true c.fund-item.is c.in_ok-put_fund.ensures c.loop-fund.invariant
