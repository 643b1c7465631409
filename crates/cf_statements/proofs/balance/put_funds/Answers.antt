use Rattle.cf_statements.specs.Balance.{fund_rows}
use Rattle.cf_statements.proofs.Next.{next_flat}
use Rattle.cf_statements.proofs.balance.put_funds.Goals as goal

pub loop-fund-preserved : goal.loop-fund-preserved
loop-fund-preserved g c =
    next_flat (fund_rows (g.F.Figures.sums c.args.figures.now) c.args.year) c.args.funds.now c.loop-fund.fund-index c.fund-item.result c.loop-fund.rows.items c.put_fund.new.rows.items _
    c.loop-fund-test.true c.fund-item.is c.in_ok-put_fund.ensures c.loop-fund.invariant
