use Rattle.std.proofs.Common.{refl}
use Rattle.cf_books_lists.specs.Balances.{account_text}
use Rattle.cf_books_lists.proofs.Next.{next_rows}
use Rattle.cf_books_lists.proofs.balances.put_accounts.Goals as goal

pub loop-account-preserved : goal.loop-account-preserved
loop-account-preserved g c =
    let plan = g.B.AccountBalances.plan c.args.books.now in
    let balances = g.B.AccountBalances.balances c.args.books.now in
    next_rows (λ csv. account_text csv plan balances c.args.basis c.args.year c.args.fund) c.args.accounts.now c.loop-account.account-index _ c.loop-account.out
    c.put_account.new.out _ c.loop-account-test.true refl c.in_ok-put_account.ensures c.loop-account.invariant
