use Rattle.std.proofs.Common.{◌-◌, ◌∙◌, ap, arith, slice_index_or, sum_by}
use Rattle.cf_base.proofs.Common.{take_all}
use Rattle.cf_debt.specs.Rows.{view_payments}
use Rattle.cf_debt.proofs.Lasting.{charge_of_number, few_live, live_place, live_sum, no_bond, numbered}
use Rattle.cf_debt.proofs.debt.interest_of.Goals as goal

pub overflow_sub-bond : goal.overflow_sub-bond
overflow_sub-bond c =
    let h = c.requires.bonds in
    (live_place c.args.closed c.args.bonds.now c.args.live.now (numbered _ _ _ h.each) h.lasting c.loop-number.number-index 0 (omega (arith, c.loop-number-test.true))).first

pub bounds-bonds-number : goal.bounds-bonds-number
bounds-bonds-number c =
    let h = c.requires.bonds in
    let place = live_place c.args.closed c.args.bonds.now c.args.live.now (numbered _ _ _ h.each) h.lasting c.loop-number.number-index 0 (omega (arith, c.loop-number-test.true)) in
    omega (arith, place.first, place.last)

pub bond_charge-requires-clause-bond : goal.bond_charge-requires-clause-bond
bond_charge-requires-clause-bond c =
    let h = c.requires.bonds in
    let n = slice_index_or c.args.live.now c.loop-number.number-index 0 in
    let place = live_place c.args.closed c.args.bonds.now c.args.live.now (numbered _ _ _ h.each) h.lasting c.loop-number.number-index 0 (omega (arith, c.loop-number-test.true)) in
    (h.each (n - 1) no_bond (omega (arith, place.first, place.last))).bond

pub returns-clause-value : goal.returns-clause-value
returns-clause-value c =
    let h = c.requires.bonds in
    let all = view_payments c.args.payments.now in
    c.loop-number.invariant.is
    ∙ ap (sum_by (charge_of_number c.args.closed all c.args.bonds.now)) (take_all c.loop-number.number-index c.args.live.now (omega (arith, c.loop-number-test.false)))
    ∙ live_sum c.args.closed all c.args.bonds.now c.args.live.now h.each h.lasting

pub returns-clause-most : goal.returns-clause-most
returns-clause-most c =
    omega (arith, c.loop-number.invariant.most, c.loop-number.auto.number-index-end, few_live c.args.closed c.args.bonds.now c.args.live.now c.requires.bonds.lasting, c.requires.few)
