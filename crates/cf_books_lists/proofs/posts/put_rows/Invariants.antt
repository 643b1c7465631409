use Rattle.std.proofs.Common.{◌≡◌, drop}
use Rattle.cf_books_lists.specs.Posts.{rows_text}
use Rattle.cf_books_lists.specs.Rows.{added}
use Rattle.cf_books_lists.proofs.posts.put_rows.Given as goal

-- what was written, and what is still to come
abbrev pub invariant-loop-post : goal.invariant-loop-post
invariant-loop-post l =
    added l.sheet.out (rows_text l.sheet.out.csv l.filter l.chart l.entries (drop l.post-index l.posts))
    ≡ added l.initial.sheet.out (rows_text l.initial.sheet.out.csv l.filter l.chart l.entries l.posts)
