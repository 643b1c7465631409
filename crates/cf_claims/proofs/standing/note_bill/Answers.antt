use Rattle.std.proofs.Common.{◌∙◌, ap, Some, if◌then◌else◌, nat_cmp}
use Rattle.cf_base.proofs.Common.{on_ok_weaker, get}
use Rattle.cf_claims.proofs.standing.note_bill.Goals as goal

pub returns-in-Some : goal.returns-in-Some
returns-in-Some c =
    on_ok_weaker c.put_number.result
    (λ put n small. put n ∙ ap (λ b. if b then Some c.args.entry.now.drawn.number else get nat_cmp c.args.bills.now n) (rw c.in-Some.is at (c.claimed_number.ensures n small)))
    c.put_number.ensures

pub returns-in-None : goal.returns-in-None
returns-in-None c = λ n small.
    ap (λ b. if b then Some c.args.entry.now.drawn.number else get nat_cmp c.args.bills.now n) (rw c.in-None.is at (c.claimed_number.ensures n small))
