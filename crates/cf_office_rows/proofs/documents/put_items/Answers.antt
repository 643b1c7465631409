use Rattle.std.proofs.Common.{◌<◌, length, arith}
use Rattle.cf_model.specs.Common.{document_moves, document_number}
use Rattle.cf_office_rows.proofs.Gathered.{items_more}
use Rattle.cf_office_rows.proofs.documents.put_items.Goals as goal

pub overflow_cast-count : goal.overflow_cast-count
overflow_cast-count c = omega (arith, c.moves-count.ensures.few c.args.on c.requires.form)

pub loop-nth-preserved : goal.loop-nth-preserved
loop-nth-preserved c =
    let moves = document_moves c.args.chart.now c.args.orders.now.documents (document_number c.args.orders.now.documents c.args.act.now) c.args.on c.args.act.now in
    let within : c.loop-nth.nth < length moves = omega (arith, c.loop-nth-test.true, c.moves-count.ensures.value c.args.chart.now (document_number c.args.orders.now.documents c.args.act.now) c.args.on) in
    items_more c.args.chart.now c.args.place c.args.document moves c.loop-nth.nth c.move_at.result c.loop-nth.out.items c.put_move.new.out.items _ c.move_at.ensures.value within c.in_ok-put_move.ensures c.loop-nth.invariant
