use Rattle.std.proofs.Common.{◌≡◌, ◌-◌, ◌<◌, ◌∙◌, length, ap, sym, Some, arith, slice_index_or}
use Rattle.cf_base.proofs.Common.{drop_all, get_or_default}
use Rattle.cf_debt.specs.Register.{debt_due_of}
use Rattle.cf_debt.specs.Rows.{view_payments}
use Rattle.cf_debt.proofs.Lasting.{first_found, live_first, live_place, no_bond, numbered, row_at, unpaid_number}
use Rattle.cf_model.specs.Common.{first_refusal}
use Rattle.cf_debt.proofs.rules.unpaid_among.Goals as goal

pub overflow_sub-bond : goal.overflow_sub-bond
overflow_sub-bond c =
    let h = c.requires.bonds in
    (live_place c.args.closed c.args.bonds.now c.args.live.now (numbered _ _ _ h.each) h.lasting c.loop-number.number-index 0 (omega (arith, c.loop-number-test.true))).first

pub bounds-bonds-number : goal.bounds-bonds-number
bounds-bonds-number c =
    let h = c.requires.bonds in
    let place = live_place c.args.closed c.args.bonds.now c.args.live.now (numbered _ _ _ h.each) h.lasting c.loop-number.number-index 0 (omega (arith, c.loop-number-test.true)) in
    omega (arith, place.first, place.last)

pub unpaid_day-requires-clause-bond : goal.unpaid_day-requires-clause-bond
unpaid_day-requires-clause-bond c =
    let h = c.requires.bonds in
    let n = slice_index_or c.args.live.now c.loop-number.number-index 0 in
    let place = live_place c.args.closed c.args.bonds.now c.args.live.now (numbered _ _ _ h.each) h.lasting c.loop-number.number-index 0 (omega (arith, c.loop-number-test.true)) in
    (h.each (n - 1) no_bond (omega (arith, place.first, place.last))).bond

pub returns-in-Some : goal.returns-in-Some
returns-in-Some c =
    let h = c.requires.bonds in
    let all = view_payments c.args.payments.now in
    let k = c.loop-number.number-index in
    let n = slice_index_or c.args.live.now k 0 in
    let l : k < length c.args.live.now = omega (arith, c.loop-number-test.true) in
    let place = live_place c.args.closed c.args.bonds.now c.args.live.now (numbered _ _ _ h.each) h.lasting k 0 l in
    let named : n ≡ (row_at c.args.bonds.now n).number = omega (arith, place.first, (h.each (n - 1) no_bond (omega (arith, place.first, place.last))).number) in
    first_found (unpaid_number c.args.chart.now c.args.closed all c.args.bonds.now) c.args.live.now k n _ l (get_or_default c.args.live.now k 0 n l)
    (ap (λ m. Some (debt_due_of m c.in-Some.day)) named ∙ c.in-Some.ensures) c.loop-number.invariant
    ∙ live_first c.args.chart.now c.args.closed all c.args.bonds.now c.args.live.now h.each h.lasting

pub returns : goal.returns
returns c =
    let h = c.requires.bonds in
    let all = view_payments c.args.payments.now in
    sym (ap (first_refusal (unpaid_number c.args.chart.now c.args.closed all c.args.bonds.now)) (drop_all c.loop-number.number-index c.args.live.now (omega (arith, c.loop-number-test.false))))
    ∙ c.loop-number.invariant
    ∙ live_first c.args.chart.now c.args.closed all c.args.bonds.now c.args.live.now h.each h.lasting
