use Rattle.std.proofs.Common.{arith}
use Rattle.cf_books_year.specs.YearBalances.{kept_balance}
use Rattle.cf_books_year.proofs.Opening.{kept_more}
use Rattle.cf_books_year.proofs.sums.kept.Goals as goal

pub loop-account-preserved : goal.loop-account-preserved
loop-account-preserved c =
    let inv = c.loop-account.invariant in
    let put = c.add_kept.ensures in
    let rest = c.args.rest.now in
    record {
      value =
          kept_more (kept_balance c.args.basis rest.plan c.args.year c.args.fund rest.entries) _ _ _ c.args.accounts.now c.loop-account.account-index
          c.loop-account-test.true put.value inv.value;
      small = omega (arith, inv.small, put.small);
    }
