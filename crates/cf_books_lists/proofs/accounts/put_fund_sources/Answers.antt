use Rattle.std.proofs.Common.{◌==◌, rules}
use Rattle.cf_model.specs.Common.{RevenueSource}
use Rattle.cf_post.specs.Accounts.{revenue_of}
use Rattle.cf_books_lists.proofs.Next.{next_kept}
use Rattle.cf_books_lists.proofs.accounts.put_fund_sources.Goals as goal
use Rattle.cf_books_lists.proofs.accounts.put_fund_sources.Goals.{then-source-fund+in_ok-push, else-source-fund}

pub loop-source-preserved : goal.loop-source-preserved
loop-source-preserved c =
    let own = λ (s : RevenueSource). s.fund == c.args.fund in
    let account = λ (s : RevenueSource). revenue_of s.id in
    let i = c.loop-source.source-index in
    elim c.if-source-fund.branch [
      | then-source-fund+in_ok-push w ↦ rw w.out-is
          (next_kept account own c.args.sources.now i c.source-item.result c.loop-source.out.items w.push.new.self.items _ c.loop-source-test.true c.source-item.is (search rules) c.loop-source.invariant)
      | else-source-fund w ↦ rw w.out-is
          (next_kept account own c.args.sources.now i c.source-item.result c.loop-source.out.items c.loop-source.out.items _ c.loop-source-test.true c.source-item.is (search rules) c.loop-source.invariant)
    ]
