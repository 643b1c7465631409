use Rattle.std.proofs.Common.{◌≡◌, ◌<◌, ◌∙◌, Some, List, length, map, option_map, slice_get, ap, arith, filter}
use Rattle.cf_model.specs.Common.{Act, is_number, Move, document_moves, release_move, document_number}
use Rattle.cf_orders.specs.Register.{line_move}
use Rattle.cf_office_rows.proofs.Rolled.{lapse_all, lapse_more}
use Rattle.cf_office_rows.proofs.rolls.put_released.Goals as goal

pub overflow_cast-count : goal.overflow_cast-count
overflow_cast-count c = omega (arith, c.moves-count.ensures.few c.args.on c.requires.form)

pub loop-nth-preserved : goal.loop-nth-preserved
loop-nth-preserved c =
    let plan = c.args.chart.now in
    let s = c.args.orders.now.documents in
    let held = filter (λ h. is_number (Some c.args.number) h.requisition) s.holds in
    let same : document_moves plan s (document_number s c.args.act.now) c.args.on c.args.act.now ≡ map release_move held =
    ap (λ (a : Act). document_moves plan s (document_number s a) c.args.on a) c.requires.named in
    let few : length (document_moves plan s (document_number s c.args.act.now) c.args.on c.args.act.now) ≡ length (map release_move held) = ap (λ (ms : List Move). length ms) same in
    let within : c.loop-nth.nth < length (map release_move held) = omega (arith, c.loop-nth-test.true, c.moves-count.ensures.value plan (document_number s c.args.act.now) c.args.on, few) in
    lapse_more plan c.args.place c.args.number c.args.year held c.loop-nth.nth c.move_at-moved.result c.loop-nth.out.items c.put_in_year.new.out.items _
    (c.move_at-moved.ensures.value ∙ ap (λ (ms : List Move). option_map line_move (slice_get ms c.loop-nth.nth)) same) within c.in_ok-put_in_year.ensures c.loop-nth.invariant

pub returns : goal.returns
returns c =
    let plan = c.args.chart.now in
    let s = c.args.orders.now.documents in
    let held = filter (λ h. is_number (Some c.args.number) h.requisition) s.holds in
    let few : length (document_moves plan s (document_number s c.args.act.now) c.args.on c.args.act.now) ≡ length (map release_move held) =
    ap (λ (a : Act). length (document_moves plan s (document_number s a) c.args.on a)) c.requires.named in
    lapse_all plan c.args.place c.args.number c.args.year held c.loop-nth.nth c.loop-nth.out.items _
    (omega (arith, c.loop-nth-test.false, c.moves-count.ensures.value plan (document_number s c.args.act.now) c.args.on, few)) c.loop-nth.invariant
