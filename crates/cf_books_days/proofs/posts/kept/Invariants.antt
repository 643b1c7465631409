use Rattle.std.proofs.Common.{◌≡◌, ◌++◌, drop}
use Rattle.cf_books_days.specs.Posts.{kept}
use Rattle.cf_books_days.proofs.posts.kept.Given as goal

-- what was kept, and what is still to come
abbrev pub invariant-loop-post : goal.invariant-loop-post
invariant-loop-post l = l.kept.items ++ kept l.day l.entries (drop l.post-index l.posts) ≡ kept l.day l.entries l.posts
