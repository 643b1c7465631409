use Rattle.std.proofs.Common.{◌≡◌, drop}
use Rattle.cf_books_lists.specs.Balances.{accounts_text}
use Rattle.cf_books_lists.specs.Rows.{added}
use Rattle.cf_books_lists.proofs.balances.put_accounts.Given as goal

-- what was written, and what is still to come
abbrev pub invariant-loop-account : goal.invariant-loop-account
invariant-loop-account g l =
    let plan = g.B.AccountBalances.plan l.books in
    let balances = g.B.AccountBalances.balances l.books in
    added l.out (accounts_text l.out.csv plan balances l.basis l.year l.fund (drop l.account-index l.accounts)) ≡ added l.initial.out (accounts_text l.initial.out.csv plan balances l.basis l.year l.fund l.accounts)
