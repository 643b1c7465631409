use Rattle.std.proofs.Common.{refl}
use Rattle.cf_books_lists.specs.Posts.{placed_text}
use Rattle.cf_books_lists.proofs.Next.{next_rows}
use Rattle.cf_books_lists.proofs.posts.put_rows.Goals as goal

pub loop-post-preserved : goal.loop-post-preserved
loop-post-preserved c =
    next_rows (λ csv. placed_text csv c.args.filter c.args.chart.now c.args.entries.now) c.args.posts.now c.loop-post.post-index _ c.loop-post.sheet.out c.put_placed_row.new.sheet.out _
    c.loop-post-test.true refl c.in_ok-put_placed_row.ensures c.loop-post.invariant
