use Rattle.std.proofs.Common.{◌≡◌, ◌++◌, drop}
use Rattle.cf_books_days.specs.Ledgers.{in_balance}
use Rattle.cf_books_days.proofs.ledgers.in_balance.Given as goal

-- what was taken, and what is still to come
abbrev pub invariant-loop-post : goal.invariant-loop-post
invariant-loop-post l = l.balances.items ++ in_balance (drop l.post-index l.posts) ≡ in_balance l.posts
