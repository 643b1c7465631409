use Rattle.std.proofs.Common.{◌*◌, length, arith}
use Rattle.cf_debt.proofs.steps.new_bond.Goals as goal

pub returns-clause-last : goal.returns-clause-last
returns-clause-last c =
    let terms = c.args.terms.now in
    rw c.as_slice.ensures (omega (arith, c.number_of_day-month.ensures.later (terms.every * length terms.principals) c.requires.form.last_due))
