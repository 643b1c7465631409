use Rattle.std.proofs.Common.{◌≡◌, ◌++◌, drop}
use Rattle.cf_books_days.specs.Gathered.{posts_on}
use Rattle.cf_books_days.proofs.gathered.put_posts.Given as goal

-- what was appended, and what is still to come
abbrev pub invariant-loop-post : goal.invariant-loop-post
invariant-loop-post l = l.out.items ++ posts_on l.on (drop l.post-index l.posts) ≡ l.initial.out.items ++ posts_on l.on l.posts
