use Rattle.std.proofs.Common.{arith}
use Rattle.cf_hall_names.proofs.Eight.{eight}
use Rattle.cf_hall.proofs.Begun.{counted}
use Rattle.cf_hall.proofs.opening.begin.Goals as goal

pub follow_all-requires-clause-totals : goal.follow_all-requires-clause-totals
follow_all-requires-clause-totals g c =
    let plan = g.N.City.plan in
    let under = c.args.chart.now in
    let list = c.args.recorder.list in
    let entries = c.args.entries.now in
    let r = c.requires in
    eight _
    (counted plan under 0 list entries _ _ r.chart r.list (r.counts 0 (omega arith)) (c.count_touched-more.ensures 0 (omega arith)))
    (counted plan under 1 list entries _ _ r.chart r.list (r.counts 1 (omega arith)) (c.count_touched-more.ensures 1 (omega arith)))
    (counted plan under 2 list entries _ _ r.chart r.list (r.counts 2 (omega arith)) (c.count_touched-more.ensures 2 (omega arith)))
    (counted plan under 3 list entries _ _ r.chart r.list (r.counts 3 (omega arith)) (c.count_touched-more.ensures 3 (omega arith)))
    (counted plan under 4 list entries _ _ r.chart r.list (r.counts 4 (omega arith)) (c.count_touched-more.ensures 4 (omega arith)))
    (counted plan under 5 list entries _ _ r.chart r.list (r.counts 5 (omega arith)) (c.count_touched-more.ensures 5 (omega arith)))
    (counted plan under 6 list entries _ _ r.chart r.list (r.counts 6 (omega arith)) (c.count_touched-more.ensures 6 (omega arith)))
    (counted plan under 7 list entries _ _ r.chart r.list (r.counts 7 (omega arith)) (c.count_touched-more.ensures 7 (omega arith)))
