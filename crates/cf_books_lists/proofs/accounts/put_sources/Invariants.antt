use Rattle.std.proofs.Common.{◌≡◌, ◌++◌, drop, map}
use Rattle.cf_post.specs.Accounts.{revenue_of}
use Rattle.cf_books_lists.proofs.accounts.put_sources.Given as goal

-- what was appended, and what is still to come
abbrev pub invariant-loop-source : goal.invariant-loop-source
invariant-loop-source l = l.out.items ++ map (λ x. revenue_of x.id) (drop l.source-index l.sources) ≡ l.initial.out.items ++ map (λ x. revenue_of x.id) l.sources
