use Rattle.std.proofs.Common.{◌≡◌, ◌++◌, drop}
use Rattle.cf_books_days.specs.Gathered.{posts_through}
use Rattle.cf_books_days.proofs.ledgers.posts_through.Given as goal

-- what was taken, and what is still to come
abbrev pub invariant-loop-post : goal.invariant-loop-post
invariant-loop-post l = l.posts.items ++ posts_through l.day (drop l.post-index l.dated) ≡ posts_through l.day l.dated
