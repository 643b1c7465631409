use Rattle.std.proofs.Common.{◌<◌, ◌^◌, ◌∙◌, ap, unsigned_abs, sym, subst, rules}
use Rattle.cf_base.proofs.Common.{to_z-of_z}
use mir.Val.{SFits}
use mir.Syntax.{w128}
use Rattle.cf_ledger.specs.Posts.{balance}
use Rattle.cf_books_days.specs.Through.{posts_by, seen_through}
use Rattle.cf_books_days.proofs.Bounds.{balance_small, by_small, posts_are}
use Rattle.cf_books_days.proofs.sums.DaySums.balance.Goals as goal

pub returns-clause-value : goal.returns-clause-value
returns-clause-value c =
    let s = c.args.self.now in
    let seen = seen_through s.rest.now.plan s.day s.rest.now.entries in
    let fits : SFits w128 c.balance.result = search rules in
    rw (to_z-of_z w128 c.balance.result fits) (c.balance.ensures ∙ ap (λ ps. balance ps c.args.year c.args.fund c.args.account) (posts_are s.ledger seen s.fund s.gov c.args.basis))

pub returns-clause-small : goal.returns-clause-small
returns-clause-small c =
    let s = c.args.self.now in
    let seen = seen_through s.rest.now.plan s.day s.rest.now.entries in
    let fits : SFits w128 c.balance.result = search rules in
    rw (to_z-of_z w128 c.balance.result fits)
    (subst (λ z. unsigned_abs z < 2 ^ 104) (sym (c.balance.ensures ∙ ap (λ ps. balance ps c.args.year c.args.fund c.args.account) (posts_are s.ledger seen s.fund s.gov c.args.basis)))
    (balance_small (posts_by c.args.basis seen) c.args.year c.args.fund c.args.account
    (by_small s.rest.now.plan s.day s.rest.now.entries c.entries-legal.ensures.whole c.entries-legal.ensures.legal c.entries-legal.ensures.few c.args.basis)))
