use Rattle.std.proofs.Common.{◌<◌, ◌^◌, ◌≤◌, length, unsigned_abs, sym, subst, rules}
use Rattle.cf_base.proofs.Common.{to_z-of_z}
use Rattle.cf_base.specs.Common.{most_entries}
use mir.Val.{SFits}
use mir.Syntax.{w128}
use Rattle.cf_office_looks.proofs.SmallBalance.{small_balance}
use Rattle.cf_office_looks.proofs.books.balance.Goals as goal

pub returns-clause-small : goal.returns-clause-small
returns-clause-small c =
    let few : length c.args.history.now.entries ≤ most_entries = search rules in
    let fits : SFits w128 c.balance.result = search rules in
    rw (to_z-of_z w128 c.balance.result fits)
    (subst (λ z. unsigned_abs z < 2 ^ 104) (sym c.balance.ensures)
    (small_balance c.args.basis c.args.history.now.plan c.args.history.now.entries c.args.year c.args.fund c.args.account
    c.chart-chart.ensures.whole c.chart-chart.ensures.legal few))
