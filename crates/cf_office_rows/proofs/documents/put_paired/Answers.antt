use Rattle.std.proofs.Common.{◌<◌, ◌∙◌, ap, length, option_map, arith}
use Rattle.cf_model.specs.Common.{document_moves, document_number}
use Rattle.cf_orders.specs.Register.{line_move}
use Rattle.cf_office_rows.proofs.Gathered.{first_half, paired_more, read_at, second_half}
use Rattle.cf_office_rows.proofs.documents.put_paired.Goals as goal

pub loop-nth-preserved : goal.loop-nth-preserved
loop-nth-preserved c = λ ms ns split first second.
    let moves = document_moves c.args.chart.now c.args.orders.now.documents (document_number c.args.orders.now.documents c.args.act.now) c.args.on c.args.act.now in
    let k = c.loop-nth.nth in
    let in_first : k < length ms = omega (arith, c.loop-nth-test.true, first) in
    let in_second : k < length ns = omega (arith, c.loop-nth-test.true, second) in
    let m = read_at ms k in_first in
    let n = read_at ns k in_second in
    let spent = first_half moves ms ns c.args.count k c.move_at-spent.result split first c.loop-nth-test.true c.move_at-spent.ensures.value ∙ ap (option_map line_move) m.1 in
    let liquidated = second_half moves ms ns c.args.count k c.move_at-liquidated.result split first in_second c.move_at-liquidated.ensures.value ∙ ap (option_map line_move) n.1 in
    paired_more c.args.chart.now c.args.place c.args.document ms ns k m.0 n.0 c.loop-nth.out.items c.put_pair.new.out.items _ m.1 m.2 n.2
    (c.in_ok-put_pair.ensures m.0 n.0 spent liquidated) (c.loop-nth.invariant ms ns split first second)
