use Rattle.std.proofs.Common.{◌<◌, ◌∙◌, length, ap, arith, filter}
use Rattle.cf_base.proofs.Common.{FiltersInPlace-all, FiltersInPlace-more_no, FiltersInPlace-more_set}
use Rattle.cf_debt.proofs.Lasting.{is_lasting, lasts, live_later, not_lasting, place_now}
use Rattle.cf_debt.proofs.steps.keep_live.Goals as goal
use Rattle.cf_debt.proofs.steps.keep_live.Goals.{then-closed-bonds, else-closed-bonds}

pub overflow_sub-number : goal.overflow_sub-number
overflow_sub-number c =
    (place_now c.requires.from.0 c.args.bonds.now c.args.live.now.items c.loop-k.live.items c.loop-k.k _ c.requires.numbered c.requires.from.2 c.loop-k.invariant.rest
    (omega (arith, c.loop-k-test.true, c.len-k-end.ensures)) c.index-number.ensures).first

pub bounds-bonds-number : goal.bounds-bonds-number
bounds-bonds-number c =
    let place = place_now c.requires.from.0 c.args.bonds.now c.args.live.now.items c.loop-k.live.items c.loop-k.k _ c.requires.numbered c.requires.from.2 c.loop-k.invariant.rest
    (omega (arith, c.loop-k-test.true, c.len-k-end.ensures)) c.index-number.ensures in
    omega (arith, place.first, place.last)

pub loop-k-preserved : goal.loop-k-preserved
loop-k-preserved c =
    let was = c.loop-k.invariant in
    let l : c.loop-k.k < length c.loop-k.live.items = omega (arith, c.loop-k-test.true, c.len-k-end.ensures, was.long) in
    elim c.if-closed-bonds.branch [
      | then-closed-bonds w ↦ rw (w.live-is, w.kept-is) (FiltersInPlace-more_set was l (is_lasting c.args.closed c.args.bonds.now c.index-number.result.now w.if-closed-bonds.true) c.index-number.ensures)
      | else-closed-bonds w ↦ rw (w.live-is, w.kept-is) (FiltersInPlace-more_no was l (not_lasting c.args.closed c.args.bonds.now c.index-number.result.now w.if-closed-bonds.false) c.index-number.ensures)
    ]

pub returns-clause-items : goal.returns-clause-items
returns-clause-items c =
    c.truncate.ensures.items
    ∙ FiltersInPlace-all c.loop-k.invariant (omega (arith, c.loop-k-test.false, c.len-k-end.ensures))
    ∙ ap (filter (lasts c.args.closed c.args.bonds.now)) c.requires.from.2
    ∙ live_later c.requires.from.0 c.args.closed c.args.bonds.now c.requires.numbered c.requires.from.1
