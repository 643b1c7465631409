use Rattle.std.proofs.Common.{◌≡◌, ◌==◌, ◌++◌, drop, map, filter}
use Rattle.cf_post.specs.Accounts.{revenue_of}
use Rattle.cf_books_lists.proofs.accounts.put_fund_sources.Given as goal

-- what was appended, and what is still to come
abbrev pub invariant-loop-source : goal.invariant-loop-source
invariant-loop-source l =
    l.out.items ++ map (λ s. revenue_of s.id) (filter (λ s. s.fund == l.fund) (drop l.source-index l.sources))
    ≡ l.initial.out.items ++ map (λ s. revenue_of s.id) (filter (λ s. s.fund == l.fund) l.sources)
