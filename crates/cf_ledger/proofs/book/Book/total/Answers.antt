use Rattle.std.proofs.Common.{rules, ◌∙◌, ap}
use Rattle.cf_base.proofs.Common.{to_z-of_z}
use mir.Val.{SFits}
use mir.Syntax.{w128}
use Rattle.cf_ledger.specs.Books.{Posted}
use Rattle.cf_ledger.specs.Posts.{total, is_in_total}
use Rattle.cf_ledger.proofs.Sums.{stands_through}
use Rattle.cf_ledger.proofs.Stands.{all_fit}
use Rattle.cf_ledger.proofs.book.Book.total.Goals as goal

pub sum_through-requires : goal.sum_through-requires
sum_through-requires c = all_fit is_in_total c.self.inside.history.items c.self.inside.totals c.self.invariant.years c.self.invariant.small c.self.invariant.totals

pub returns : goal.returns
returns c =
    let fits : SFits w128 c.sum_through.result = search rules in
    to_z-of_z w128 c.sum_through.result fits ∙ c.sum_through.ensures
    ∙ stands_through is_in_total c.self.inside.history.items c.self.inside.totals c.self.invariant.years c.self.invariant.totals c.args.year
    ∙ ap (λ (b : Posted). total b.posts c.args.year) c.self.view_is
