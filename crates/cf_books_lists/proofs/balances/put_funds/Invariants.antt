use Rattle.std.proofs.Common.{◌≡◌, drop}
use Rattle.cf_books_lists.specs.Balances.{funds_text}
use Rattle.cf_books_lists.specs.Rows.{added}
use Rattle.cf_books_lists.proofs.balances.put_funds.Given as goal

-- what was written, and what is still to come
abbrev pub invariant-loop-fund : goal.invariant-loop-fund
invariant-loop-fund g l =
    let plan = g.B.AccountBalances.plan l.books in
    let balances = g.B.AccountBalances.balances l.books in
    added l.out (funds_text l.out.csv plan balances l.year (drop l.fund-index l.funds)) ≡ added l.initial.out (funds_text l.initial.out.csv plan balances l.year l.funds)
