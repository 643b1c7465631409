use Rattle.std.proofs.Common.{◌∙◌, ap, Some, if◌then◌else◌, nat_cmp}
use Rattle.cf_base.proofs.Common.{get}
use Rattle.cf_books_payments.proofs.Noted.{same_number}
use Rattle.cf_books_payments.proofs.payments.put_amount.Goals as goal

pub returns : goal.returns
returns c n =
    c.in_ok-insert.ensures.updates.0 n ∙ ap (λ b. if b then Some c.args.amount else get nat_cmp c.args.amounts.now n) (same_number c.args.number n)
