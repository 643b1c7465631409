use Rattle.std.proofs.Common.{◌++◌, ap, sym, ◌∙◌}
use Rattle.cf_base.proofs.Common.{on_ok_weaker}
use Rattle.cf_journal_book.specs.Watching.{Posted, all_posted, shown_as}
use Rattle.cf_books_days.specs.Gathered.{changed_through, posts_on}
use Rattle.cf_books_days.proofs.Gathering.{fund_push, gov_push, changes_push}
use Rattle.cf_books_days.proofs.gathered.DatedWatch.see.Goals as goal

pub returns : goal.returns
returns c =
    let self = c.args.self.now in
    let plan = c.args._chart.now in
    let x : Posted = shown_as c.args._place c.args.entry.now c.args._before.now.registers c.args.fund.now c.args.gov.now in
    let on = c.args.entry.now.change.on in
    λ history was next.
    on_ok_weaker c.put_changes.result
    (λ put. record {
      fund = c.in_ok-put_posts.ensures ∙ ap (λ t. t ++ posts_on on x.fund) was.fund ∙ sym (fund_push (all_posted plan history) x);
      gov = c.in_ok-put_posts-2.ensures ∙ ap (λ t. t ++ posts_on on x.gov) was.gov ∙ sym (gov_push (all_posted plan history) x);
      changes = λ day line year.
          ap (changed_through day line year) put
          ∙ changes_push plan (all_posted plan history) x self.changes.items c.args.changes.now was.changes next.makes.made day line year;
    })
    c.put_changes.ensures
