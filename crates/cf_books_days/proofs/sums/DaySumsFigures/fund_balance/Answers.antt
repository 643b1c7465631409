use Rattle.std.proofs.Common.{◌∙◌, ap, rules}
use Rattle.cf_base.proofs.Common.{to_z-of_z}
use mir.Val.{SFits}
use mir.Syntax.{w128}
use Rattle.cf_ledger.specs.Posts.{balance}
use Rattle.cf_books_days.specs.Through.{fund_posts, seen_through}
use Rattle.cf_books_days.proofs.Bounds.{in_balance_is}
use Rattle.cf_books_days.proofs.sums.DaySumsFigures.fund_balance.Goals as goal

pub returns : goal.returns
returns c =
    let s = c.args.self.now in
    let fits : SFits w128 c.balance.result = search rules in
    record {
      value = rw (to_z-of_z w128 c.balance.result fits)
          (c.balance.ensures ∙ ap (λ ps. balance ps c.args.year c.args.fund 0) s.in_balance
          ∙ in_balance_is (fund_posts (seen_through s.rest.now.plan s.day s.rest.now.entries)) c.args.year c.args.fund);
    }
