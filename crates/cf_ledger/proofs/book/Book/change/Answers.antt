use Rattle.std.proofs.Common.{rules, ◌∙◌, ap, ◌-◌, ◌-ℤ◌}
use Rattle.cf_base.proofs.Common.{to_z-of_z}
use mir.Val.{SFits}
use mir.Syntax.{w128}
use Rattle.cf_ledger.specs.Books.{Posted}
use Rattle.cf_ledger.specs.Posts.{total, is_in_total}
use Rattle.cf_ledger.proofs.YearChanges.{year_change}
use Rattle.cf_ledger.proofs.book.Book.change.Goals as goal

pub returns : goal.returns
returns c =
    let fits : SFits w128 c.amount_in.result = search rules in
    to_z-of_z w128 c.amount_in.result fits
    ∙ year_change is_in_total c.self.inside.history.items c.self.inside.totals c.args.year c.amount_in.result c.self.invariant.years c.self.invariant.totals c.amount_in.ensures.before c.amount_in.ensures.value
    ∙ ap (λ (b : Posted). total b.posts c.args.year -ℤ total b.posts (c.args.year - 1)) c.self.view_is
