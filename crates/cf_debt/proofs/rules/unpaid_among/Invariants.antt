use Rattle.std.proofs.Common.{◌≡◌, drop}
use Rattle.cf_debt.specs.Rows.{view_payments}
use Rattle.cf_debt.proofs.Lasting.{unpaid_number}
use Rattle.cf_model.specs.Common.{first_refusal}
use Rattle.cf_debt.proofs.rules.unpaid_among.Given as goal

abbrev pub invariant-loop-number : goal.invariant-loop-number
invariant-loop-number l =
    first_refusal (unpaid_number l.chart l.closed (view_payments l.payments) l.bonds) (drop l.number-index l.live) ≡ first_refusal (unpaid_number l.chart l.closed (view_payments l.payments) l.bonds) l.live
