use Rattle.std.proofs.Common.{◌≡◌, ◌++◌, drop}
use Rattle.cf_books_lists.specs.Posts.{placed}
use Rattle.cf_books_lists.proofs.posts.put_placed.Given as goal

-- what was added, and what is still to come
abbrev pub invariant-loop-post : goal.invariant-loop-post
invariant-loop-post l = l.out.items ++ placed l.place l.basis (drop l.post-index l.posts) ≡ l.initial.out.items ++ placed l.place l.basis l.posts
