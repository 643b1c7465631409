use Rattle.std.proofs.Common.{◌<◌, List, length, get_or, ap, arith, sym, ◌∙◌}
use Rattle.cf_base.proofs.Common.{get_or_default}
use Rattle.cf_model.specs.Common.{Function, function_charge}
use Rattle.cf_post.specs.declared.deed.Deed.TheVariants as deed
use Rattle.cf_registers.specs.Deeds.{amortize_deed}
use Rattle.cf_registers.proofs.Gathering.{one_more}
use Rattle.cf_registers.proofs.closing.amortize.Goals as goal

pub loop-place-preserved : goal.loop-place-preserved
loop-place-preserved c closed assets are =
    let fs = c.args.chart.now.functions in
    let k = c.loop-place.place in
    let same = c.functions-functions.ensures.value in
    let x = c.index-functions-place.result in
    let y = get_or c.functions-functions.result.now c.loop-place.place c.index-functions-place.result in
    let l : c.loop-place.place < length c.args.chart.now.functions = omega (arith, c.loop-place-test.true, ap length c.functions-functions.ensures.value) in
    one_more (amortize_deed c.args.year closed assets) c.args.deeds.now.items c.loop-place.deeds.items c.push.new.self.items fs k y _ l
    c.in_ok-push.ensures.items (c.loop-place.invariant closed assets are)
    (get_or_default fs k y x l ∙ ap (λ (ys : List Function). get_or ys k x) (sym same))
    (ap (λ n. deed.Amortize (record { year = c.args.year; function = y.id; amount = n }))
    (are k x l ∙ ap (λ (ys : List Function). function_charge closed assets (get_or ys k x).id) (sym same)))
