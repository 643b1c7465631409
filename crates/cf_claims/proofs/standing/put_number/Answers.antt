use Rattle.std.proofs.Common.{◌∙◌, ap, Some, if◌then◌else◌, nat_cmp}
use Rattle.cf_base.proofs.Common.{get}
use Rattle.cf_claims.proofs.RowsSay.{same_number}
use Rattle.cf_claims.proofs.standing.put_number.Goals as goal

pub returns : goal.returns
returns c n =
    c.in_ok-insert.ensures.updates.0 n ∙ ap (λ b. if b then Some c.args.bill else get nat_cmp c.args.bills.now n) (same_number c.args.voucher n)
