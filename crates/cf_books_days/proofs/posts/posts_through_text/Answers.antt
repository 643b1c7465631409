use Rattle.std.proofs.Common.{◌≡◌, ◌∙◌, ap, Vec, Global, ℕ}
use Rattle.cf_base.proofs.Common.{IfOk-weaker}
use Rattle.cf_books_lists.specs.Posts.{placed_in, text_of}
use Rattle.cf_books_days.specs.Posts.{kept}
use Rattle.cf_books_days.specs.Through.{seen_through}
use Rattle.cf_books_days.proofs.Keeping.{kept_is}
use Rattle.cf_books_days.proofs.posts.posts_through_text.Goals as goal

pub returns : goal.returns
returns g c =
    let book = c.args.book.now in
    let day = c.args.day in
    let is : c.as_slice.result.now ≡ placed_in (seen_through book.plan day book.entries) =
    c.as_slice.ensures.value ∙ c.in_ok-kept.ensures ∙ (λ i. kept day (c.entries.ensures.value i) (c.requires i)) ∙ kept_is book.plan day book.entries in
    IfOk-weaker c.posts_text.result _ _ (λ (v : Vec ℕ Global) text. text ∙ ap (text_of c.args.layout.csv c.args.filter book.plan book.entries) is) c.posts_text.ensures
