use Rattle.std.proofs.Common.{rules, ◌∙◌, ap}
use Rattle.cf_base.proofs.Common.{to_z-of_z}
use mir.Val.{SFits}
use mir.Syntax.{w128}
use Rattle.cf_ledger.specs.Books.{Posted}
use Rattle.cf_ledger.specs.Places.{cells_at}
use Rattle.cf_ledger.specs.Posts.{balance, is_of}
use Rattle.cf_ledger.proofs.Sums.{stands_through}
use Rattle.cf_ledger.proofs.Stands.{all_fit}
use Rattle.cf_ledger.proofs.book.Book.balance.Goals as goal

pub sum_at-requires : goal.sum_at-requires
sum_at-requires c =
    all_fit (is_of c.args.fund c.args.account) c.self.inside.history.items (cells_at c.self.inside.rows.entries c.args.fund c.args.account)
    c.self.invariant.years c.self.invariant.small (c.self.invariant.rows c.args.fund c.args.account)

pub returns : goal.returns
returns c =
    let fits : SFits w128 c.sum_at.result = search rules in
    to_z-of_z w128 c.sum_at.result fits ∙ c.sum_at.ensures
    ∙ stands_through (is_of c.args.fund c.args.account) c.self.inside.history.items (cells_at c.self.inside.rows.entries c.args.fund c.args.account)
    c.self.invariant.years (c.self.invariant.rows c.args.fund c.args.account) c.args.year
    ∙ ap (λ (b : Posted). balance b.posts c.args.year c.args.fund c.args.account) c.self.view_is
