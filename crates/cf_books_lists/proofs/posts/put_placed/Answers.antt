use Rattle.std.proofs.Common.{refl}
use Rattle.cf_ledger.specs.declared.post.Post.{Post}
use Rattle.cf_books_lists.specs.declared.posts.PlacedPost.{PlacedPost}
use Rattle.cf_books_lists.proofs.Next.{next_mapped}
use Rattle.cf_books_lists.proofs.posts.put_placed.Goals as goal

pub loop-post-preserved : goal.loop-post-preserved
loop-post-preserved c =
    let placed : Post → PlacedPost = λ p. record { place = c.args.place; basis = c.args.basis; post = p } in
    next_mapped placed c.args.posts.now c.loop-post.post-index _ c.loop-post.out.items c.push.new.self.items _ c.loop-post-test.true refl
    c.in_ok-push.ensures.items c.loop-post.invariant
