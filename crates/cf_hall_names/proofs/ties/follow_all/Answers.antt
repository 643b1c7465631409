use Rattle.std.proofs.Common.{◌≡◌, ◌+◌, ◌∙◌, ap, sym, arith, Some, None, slice_index_or}
use Rattle.cf_model.specs.Common.{entry_touches}
use Rattle.cf_turns.specs.States.{PassState}
use Rattle.cf_turns.specs.Touching.{touch_count}
use Rattle.cf_hall_names.proofs.Eight.{eight}
use Rattle.cf_hall_names.proofs.ties.follow_all.Goals as goal

pub returns-clause-totals : goal.returns-clause-totals
returns-clause-totals g c =
    let list1 : c.follow.new.recorder.list ≡ c.args.recorder.now.list = c.follow.ensures.list in
    let list2 : c.follow-2.new.recorder.list ≡ c.args.recorder.now.list = c.follow-2.ensures.list ∙ list1 in
    let list3 : c.follow-3.new.recorder.list ≡ c.args.recorder.now.list = c.follow-3.ensures.list ∙ list2 in
    let list4 : c.follow-4.new.recorder.list ≡ c.args.recorder.now.list = c.follow-4.ensures.list ∙ list3 in
    let list5 : c.follow-5.new.recorder.list ≡ c.args.recorder.now.list = c.follow-5.ensures.list ∙ list4 in
    let list6 : c.follow-6.new.recorder.list ≡ c.args.recorder.now.list = c.follow-6.ensures.list ∙ list5 in
    let list7 : c.follow-7.new.recorder.list ≡ c.args.recorder.now.list = c.follow-7.ensures.list ∙ list6 in
    eight _ c.follow.ensures.total
    (c.follow-2.ensures.total ∙ ap (touch_count (entry_touches g.N.City.plan 1)) list1)
    (c.follow-3.ensures.total ∙ ap (touch_count (entry_touches g.N.City.plan 2)) list2)
    (c.follow-4.ensures.total ∙ ap (touch_count (entry_touches g.N.City.plan 3)) list3)
    (c.follow-5.ensures.total ∙ ap (touch_count (entry_touches g.N.City.plan 4)) list4)
    (c.follow-6.ensures.total ∙ ap (touch_count (entry_touches g.N.City.plan 5)) list5)
    (c.follow-7.ensures.total ∙ ap (touch_count (entry_touches g.N.City.plan 6)) list6)
    (c.follow-8.ensures.total ∙ ap (touch_count (entry_touches g.N.City.plan 7)) list7)

pub follow-requires-7 : goal.follow-requires-7
follow-requires-7 g c =
    let list1 : c.follow.new.recorder.list ≡ c.args.recorder.now.list = c.follow.ensures.list in
    let list2 : c.follow-2.new.recorder.list ≡ c.args.recorder.now.list = c.follow-2.ensures.list ∙ list1 in
    let list3 : c.follow-3.new.recorder.list ≡ c.args.recorder.now.list = c.follow-3.ensures.list ∙ list2 in
    let list4 : c.follow-4.new.recorder.list ≡ c.args.recorder.now.list = c.follow-4.ensures.list ∙ list3 in
    let list5 : c.follow-5.new.recorder.list ≡ c.args.recorder.now.list = c.follow-5.ensures.list ∙ list4 in
    let list6 : c.follow-6.new.recorder.list ≡ c.args.recorder.now.list = c.follow-6.ensures.list ∙ list5 in
    let tie : (p : PassState) → c.ties.inside.seventh ≡ Some p → p.table ≡ g.N.City.table = rw (← c.ties.view_is) at (c.requires.ties 6 (omega arith)) in
    let total : c.counts.inside.seventh.total + slice_index_or c.args.more.now 6 0 ≡ touch_count (entry_touches g.N.City.plan 6) c.args.recorder.now.list = rw (← c.counts.view_is) at (c.requires.totals 6 (omega arith)) in
    let away : c.ties.inside.seventh ≡ None → slice_index_or c.args.more.now 6 0 ≡ 0 = rw (← c.ties.view_is) at (c.requires.away 6 (omega arith)) in
    (omega arith, (c.requires.own.0, (c.follow-6.ensures.table, (tie, (total ∙ ap (touch_count (entry_touches g.N.City.plan 6)) (sym list6), away)))))

pub follow-requires-8 : goal.follow-requires-8
follow-requires-8 g c =
    let list1 : c.follow.new.recorder.list ≡ c.args.recorder.now.list = c.follow.ensures.list in
    let list2 : c.follow-2.new.recorder.list ≡ c.args.recorder.now.list = c.follow-2.ensures.list ∙ list1 in
    let list3 : c.follow-3.new.recorder.list ≡ c.args.recorder.now.list = c.follow-3.ensures.list ∙ list2 in
    let list4 : c.follow-4.new.recorder.list ≡ c.args.recorder.now.list = c.follow-4.ensures.list ∙ list3 in
    let list5 : c.follow-5.new.recorder.list ≡ c.args.recorder.now.list = c.follow-5.ensures.list ∙ list4 in
    let list6 : c.follow-6.new.recorder.list ≡ c.args.recorder.now.list = c.follow-6.ensures.list ∙ list5 in
    let list7 : c.follow-7.new.recorder.list ≡ c.args.recorder.now.list = c.follow-7.ensures.list ∙ list6 in
    let tie : (p : PassState) → c.ties.inside.eighth ≡ Some p → p.table ≡ g.N.City.table = rw (← c.ties.view_is) at (c.requires.ties 7 (omega arith)) in
    let total : c.counts.inside.eighth.total + slice_index_or c.args.more.now 7 0 ≡ touch_count (entry_touches g.N.City.plan 7) c.args.recorder.now.list = rw (← c.counts.view_is) at (c.requires.totals 7 (omega arith)) in
    let away : c.ties.inside.eighth ≡ None → slice_index_or c.args.more.now 7 0 ≡ 0 = rw (← c.ties.view_is) at (c.requires.away 7 (omega arith)) in
    (omega arith, (c.requires.own.0, (c.follow-7.ensures.table, (tie, (total ∙ ap (touch_count (entry_touches g.N.City.plan 7)) (sym list7), away)))))
