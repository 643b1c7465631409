use Rattle.std.proofs.Common.{◌≡◌, ◌∙◌, ◌+◌, ◌+ℤ◌, ap, sym, drop, pos, List, ℤ, rules}
use Rattle.cf_base.proofs.Common.{int_wrap_fits, to_z-of_z, at_drop_more, at_drop_all}
use mir.Val.{SFits}
use mir.Syntax.{w128}
use Rattle.cf_model.specs.Common.{int_sum}
use Rattle.cf_books_month.specs.declared.amounts.Amounts.{Amounts}
use Rattle.cf_books_month.specs.Amounts.{amount_of, held, total_of}
use Rattle.cf_books_month.proofs.Totals.{from_zero, one_more, to_zero}
use Rattle.cf_books_month.proofs.amounts.total_of.Goals as goal

pub loop-one-init : goal.loop-one-init
loop-one-init c = from_zero (int_sum (amount_of c.args.column) c.args.amounts.now)

pub loop-one-preserved : goal.loop-one-preserved
loop-one-preserved c =
    let xs = c.args.amounts.now in
    let i = c.loop-one.one-index in
    let f = amount_of c.args.column in
    let t = c.loop-one.total.cents in
    let later : ℤ = int_sum f (drop (i + 1) xs) in
    ap (λ (z : ℤ). held (z +ℤ later)) c.add.ensures ∙ one_more t _ later
    ∙ sym (at_drop_more (λ (ys : List Amounts). held (t +ℤ int_sum f ys)) xs i _ c.loop-one-test.true) ∙ c.loop-one.invariant

pub returns : goal.returns
returns c =
    let xs = c.args.amounts.now in
    let f = amount_of c.args.column in
    let t = c.loop-one.total.cents in
    let fits : SFits w128 t = search rules in
    let all : held (t +ℤ pos 0) ≡ total_of c.args.column xs =
    sym (at_drop_all (λ (ys : List Amounts). held (t +ℤ int_sum f ys)) xs c.loop-one.one-index c.loop-one-test.false) ∙ c.loop-one.invariant in
    simp to_z-of_z (sym (int_wrap_fits w128 t fits) ∙ ap held (sym (to_zero t)) ∙ all)
