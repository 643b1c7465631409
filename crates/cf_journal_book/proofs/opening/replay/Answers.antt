use Rattle.std.proofs.Common.{◌∙◌, ap, sym, subst, List, [], ◌∷◌, ◌++◌}
use Rattle.cf_base.proofs.Common.{into_iter_items}
use Rattle.cf_model.specs.Common.{Entry}
use Rattle.cf_office.specs.BookState.{BookState}
use Rattle.cf_journal_book.specs.Watching.{all_posted}
use Rattle.cf_journal_book.proofs.Watched.{seen_on, all_taken}
use Rattle.cf_journal_book.proofs.Replaying.{items_on, records_on, record_at, few_on, gate_on, refused_on, refused_here, refused_none, nothing_left}
use Rattle.cf_journal_book.proofs.opening.replay.Goals as goal

pub returns-in-Err-clause-answer : goal.returns-in-Err-clause-answer
returns-in-Err-clause-answer g c =
    let l = c.loop-entry in
    refused_here (Unit {0}) BookState l.office.plan c.args.chart l.office.entries l.yielded (into_iter_items l.entry-iterator) (into_iter_items c.next.new.self) c.in-Some.entry l.gate _ c.in-Err.why
    l.invariant.4 l.invariant.5 c.in-Some.ensures.steps.0 l.invariant.8 c.in-Err.ensures.answer

pub loop-entry-preserved : goal.loop-entry-preserved
loop-entry-preserved g c =
    let l = c.loop-entry in
    let rest = into_iter_items l.entry-iterator in
    let later = into_iter_items c.next.new.self in
    let e = c.in-Some.entry in
    let next = c.in-Some.ensures.steps.0 in (
      tt,
      tt,
      items_on c.args.entries.items l.yielded rest later e l.invariant.2 next,
      records_on rest later e l.invariant.3 next,
      c.readmit.ensures.plan ∙ l.invariant.4,
      c.in-Ok.ensures.ok ∙ ap (λ (x : List Entry). x ++ e ∷ []) l.invariant.5,
      few_on l.office.entries l.yielded e l.invariant.5 c.in-Ok.ensures.few,
      gate_on l.yielded e l.gate c.record_len-len.result (record_at rest later e l.invariant.3 next) c.record_len-len.ensures l.invariant.7,
      refused_on l.office.plan c.args.chart l.office.entries l.yielded rest later e l.gate c.record_len-len.result _ l.invariant.4 l.invariant.5 next c.record_len-len.ensures c.in-Ok.ensures.answer l.invariant.8,
      λ none. seen_on (g.W.Watch.has_seen c.readmit.new.watch) c.args.chart l.office.plan (l.yielded ++ e ∷ []) (l.office.entries ++ e ∷ []) (sym l.invariant.4) (ap (λ (x : List Entry). x ++ e ∷ []) (sym l.invariant.5))
          (c.in-Ok.ensures.watched (seen_on (g.W.Watch.has_seen l.watch) l.office.plan c.args.chart l.office.entries l.yielded l.invariant.4 l.invariant.5 (l.invariant.9 none))),
    )

pub returns-clause-answer : goal.returns-clause-answer
returns-clause-answer g c =
    let l = c.loop-entry in
    refused_none c.args.chart l.yielded (into_iter_items l.entry-iterator) l.gate _ (nothing_left (into_iter_items l.entry-iterator) (sym l.entry-iterator.rest.ok.0 ∙ c.in-None.ensures.steps.0)) l.invariant.8

pub returns-clause-watched : goal.returns-clause-watched
returns-clause-watched g c =
    let l = c.loop-entry in
    let none = nothing_left (into_iter_items l.entry-iterator) (sym l.entry-iterator.rest.ok.0 ∙ c.in-None.ensures.steps.0) in
    λ fresh. subst (λ (x : List Entry). g.W.Watch.has_seen l.watch c.args.chart (all_posted c.args.chart x)) (sym (all_taken c.args.entries.items l.yielded (into_iter_items l.entry-iterator) l.invariant.2 none)) (l.invariant.9 fresh)
