use Rattle.std.proofs.Common.{arith, rules, ◌≡◌, ◌+ℤ◌}
use Rattle.cf_base.proofs.Common.{ints, to_z-of_z}
use mir.Val.{SFits}
use mir.Syntax.{w128}
use Rattle.cf_statements.proofs.activity.plus.Goals as goal

pub returns : goal.returns
returns c =
    let f1 : SFits w128 c.sum.result = search rules in
    let f2 : SFits w128 c.sum-2.result = search rules in
    let f3 : SFits w128 c.sum-3.result = search rules in
    let f4 : SFits w128 c.sum-4.result = search rules in
    let e1 : c.sum.result ≡ c.args.one.expenses +ℤ c.args.other.expenses = omega (arith, ints, c.sum.ensures.value) in
    let e2 : c.sum-2.result ≡ c.args.one.charges +ℤ c.args.other.charges = omega (arith, ints, c.sum-2.ensures.value) in
    let e3 : c.sum-3.result ≡ c.args.one.operating_grants +ℤ c.args.other.operating_grants = omega (arith, ints, c.sum-3.ensures.value) in
    let e4 : c.sum-4.result ≡ c.args.one.capital_grants +ℤ c.args.other.capital_grants = omega (arith, ints, c.sum-4.ensures.value) in
    rw (to_z-of_z w128 c.sum.result f1, to_z-of_z w128 c.sum-2.result f2, to_z-of_z w128 c.sum-3.result f3, to_z-of_z w128 c.sum-4.result f4)
    (λ i. record { expenses = e1 i; charges = e2 i; operating_grants = e3 i; capital_grants = e4 i })
