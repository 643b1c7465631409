use Rattle.std.proofs.Common.{◌∙◌, rules}
use Rattle.cf_base.proofs.Common.{to_z-of_z}
use mir.Val.{SFits}
use mir.Syntax.{w128}
use Rattle.cf_model.proofs.Common.{fund_balance_is}
use Rattle.cf_office_looks.proofs.books.fund_balance.Goals as goal

pub returns : goal.returns
returns c =
    let fits : SFits w128 c.fund_sum.result = search rules in
    rw (to_z-of_z w128 c.fund_sum.result fits)
    (c.fund_sum.ensures ∙ fund_balance_is c.args.history.now.plan c.args.year c.args.fund c.args.history.now.entries)
