use Rattle.std.proofs.Common.{◌<◌, ◌^◌, unsigned_abs, sym, subst, rules}
use Rattle.cf_base.proofs.Common.{to_z-of_z}
use mir.Val.{SFits}
use mir.Syntax.{w128}
use Rattle.cf_office_looks.proofs.SmallBalance.{small_balance}
use Rattle.cf_books_year.proofs.sums.balance.Goals as goal

pub returns-clause-small : goal.returns-clause-small
returns-clause-small c =
    let known = c.entries-entries.ensures in
    let fits : SFits w128 c.balance.result = search rules in
    rw (to_z-of_z w128 c.balance.result fits)
    (subst (λ z. unsigned_abs z < 2 ^ 104) (sym c.balance.ensures)
    (small_balance c.args.basis c.args.rest.now.plan c.args.rest.now.entries c.args.year c.args.fund c.args.account known.whole known.legal known.few))
