use Rattle.std.proofs.Common.{rules}
use Rattle.cf_model.specs.Common.{RevenueSource}
use Rattle.cf_post.specs.Accounts.{revenue_of}
use Rattle.cf_books_lists.proofs.Next.{next_mapped}
use Rattle.cf_books_lists.proofs.accounts.put_sources.Goals as goal

pub loop-source-preserved : goal.loop-source-preserved
loop-source-preserved c =
    next_mapped (λ (s : RevenueSource). revenue_of s.id) c.args.sources.now c.loop-source.source-index c.source-item.result c.loop-source.out.items c.push.new.self.items _
    c.loop-source-test.true c.source-item.is (search rules) c.loop-source.invariant
