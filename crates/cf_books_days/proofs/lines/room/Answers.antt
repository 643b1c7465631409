use Rattle.std.proofs.Common.{◌∙◌, ◌+ℤ◌, ◌-ℤ◌, ap, rules}
use Rattle.cf_base.proofs.Common.{int_wrap, to_z-of_z}
use mir.Val.{SFits}
use mir.Syntax.{w128}
use Rattle.cf_books_days.proofs.LineSums.{room_is}
use Rattle.cf_books_days.proofs.lines.room.Goals as goal

pub returns : goal.returns
returns c =
    let r = c.args.row.now in
    let fits : SFits w128 c.less.result = search rules in
    let fits_sum : SFits w128 c.sum.result = search rules in
    let fits_asked : SFits w128 c.sum-asked.result = search rules in
    let fits_a : SFits w128 r.appropriated = search rules in
    let fits_h : SFits w128 r.held = search rules in
    let fits_e : SFits w128 r.encumbered = search rules in
    let fits_x : SFits w128 r.expended = search rules in
    rw (to_z-of_z w128 c.less.result fits)
    (c.less.ensures ∙ (λ i. int_wrap w128 (to_z-of_z w128 r.appropriated fits_a i -ℤ to_z-of_z w128 c.sum.result fits_sum i))
    ∙ ap (λ z. int_wrap w128 (r.appropriated -ℤ z))
    (c.sum.ensures ∙ (λ i. int_wrap w128 (to_z-of_z w128 c.sum-asked.result fits_asked i +ℤ to_z-of_z w128 r.expended fits_x i))
    ∙ ap (λ z. int_wrap w128 (z +ℤ r.expended)) (c.sum-asked.ensures ∙ (λ i. int_wrap w128 (to_z-of_z w128 r.held fits_h i +ℤ to_z-of_z w128 r.encumbered fits_e i))))
    ∙ room_is r.appropriated r.held r.encumbered r.expended)
