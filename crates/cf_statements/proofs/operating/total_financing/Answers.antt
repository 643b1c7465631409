use Rattle.std.proofs.Common.{◌≡◌, ℕ, ℤ, pos, neg_ℤ, ◌+ℤ◌, ◌-ℤ◌, arith, rules}
use Rattle.cf_base.proofs.Common.{ints, to_z-of_z}
use mir.Val.{SFits}
use mir.Syntax.{w128}
use Rattle.cf_statements.specs.Sums.{in_year}
use Rattle.cf_statements.proofs.operating.total_financing.Goals as goal

turned : (r t a b c d e : ℤ) → r ≡ pos 0 -ℤ t → t ≡ a +ℤ (b +ℤ (c +ℤ (d +ℤ (e +ℤ pos 0)))) → r ≡ (neg_ℤ a -ℤ b) +ℤ ((neg_ℤ c +ℤ neg_ℤ e) +ℤ neg_ℤ d)
turned r t a b c d e p q = omega (arith, ints, p, q)

pub returns-clause-value : goal.returns-clause-value
returns-clause-value g c =
    let of : ℕ → ℤ = in_year (g.F.Figures.sums c.args.figures.now) c.args.year c.args.fund in
    let r = c.difference.result in
    let t = c.table_total-balance.result in
    let fits : SFits w128 r = search rules in
    let less : r ≡ pos 0 -ℤ t = omega (arith, ints, c.difference.ensures.value) in
    rw (to_z-of_z w128 r fits)
    (turned r t (of 600001) (of 610001) (of 600002) (of 600004) (of 600003) less c.table_total-balance.ensures.value)
