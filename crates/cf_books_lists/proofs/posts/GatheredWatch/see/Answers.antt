use Rattle.std.proofs.Common.{◌++◌, ap, sym, ◌∙◌, append_assoc}
use Rattle.cf_base.proofs.Common.{on_ok_weaker}
use Rattle.cf_journal_book.specs.Watching.{Posted, all_posted, shown_as}
use Rattle.cf_model.specs.Common.{Gov as GovBasis}
use Rattle.cf_calls.specs.declared.read.Basis.TheVariants.{Fund as FundBasis}
use Rattle.cf_books_lists.specs.Posts.{placed}
use Rattle.cf_books_lists.proofs.Seen.{placed_push}
use Rattle.cf_books_lists.proofs.posts.GatheredWatch.see.Goals as goal

pub returns : goal.returns
returns c =
    let self = c.args.self.now in
    let x : Posted = shown_as c.args.place c.args._entry.now c.args._before.now.registers c.args.fund.now c.args.gov.now in
    let fund = placed x.place FundBasis x.fund in
    let gov = placed x.place GovBasis x.gov in
    λ history was next.
    on_ok_weaker c.put_placed-2.result
    (λ put.
    put ∙ ap (λ t. t ++ gov) c.in_ok-put_placed.ensures ∙ append_assoc self.posts.items fund gov ∙ ap (λ t. t ++ (fund ++ gov)) was
    ∙ sym (placed_push (all_posted c.args._chart.now history) x))
    c.put_placed-2.ensures
