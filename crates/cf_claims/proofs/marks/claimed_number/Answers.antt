use Rattle.std.proofs.Common.{◌<◌, ◌^◌, IfSome, rules}
use Rattle.cf_claims.proofs.Numbers.{number_of_claim}
use Rattle.cf_claims.proofs.marks.claimed_number.Goals as goal

pub returns-in-Bill : goal.returns-in-Bill
returns-in-Bill c = λ n h.
    let small : IfSome c.claim_number.result (λ m. m < 2 ^ 32) = search rules in
    rw c.in-Bill.is (number_of_claim c.args.change.now.key c.claim_number.result small (rw c.as_str.ensures at c.claim_number.ensures) n h)
