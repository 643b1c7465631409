use Rattle.std.proofs.Common.{◌≡◌, List, [], ◌++◌, map, All, ap, append-nil, sym, subst, ◌∙◌}
use Rattle.cf_base.proofs.Common.{All-push, into_iter_items}
use mathlib.Core.List.{IsPrefix}
use Rattle.cf_turns.specs.Lists.{TaggedCall, TaggedEntry, calls_of, places_of}
use Rattle.cf_turns.specs.States.{PassState}
use Rattle.cf_hall_names.specs.Closing.{faults_in, receipts_of}
use Rattle.cf_hall.proofs.Ending.{nothing_more, mapped_on, yielded_on, accepted_on, counted_on, faulted_on, quiet_on, parts_on, apart_on}
use Rattle.cf_hall.proofs.closing.end_all.Goals as goal

pub loop-pass-preserved : goal.loop-pass-preserved
loop-pass-preserved g c =
    let l = c.loop-pass in
    let e = c.end_one.ensures in
    let p : PassState = c.in-Some.pass in
    let here : p.places ≡ places_of p.number c.args.recorder.now.list = subst (λ (x : List TaggedEntry). p.places ≡ places_of p.number x) l.invariant.list e.places in
    let failed : p.failed ≡ calls_of p.number c.args.recorder.now.failed = subst (λ (x : List TaggedCall). p.failed ≡ calls_of p.number x) l.invariant.noted e.failed in
    record {
      next = tt;
      finite = tt;
      all = yielded_on c.args.passes.items l.yielded (into_iter_items l.pass-iterator) (into_iter_items c.next.new.self) p l.invariant.all c.in-Some.ensures.steps.0;
      table = e.table ∙ l.invariant.table;
      list = e.list ∙ l.invariant.list;
      ended = mapped_on (λ (q : PassState). q.number) c.args.recorder.now.ended l.recorder.ended c.end_one.new.recorder.ended l.yielded p l.invariant.ended e.ended;
      apart = apart_on l.recorder.ended c.end_one.new.recorder.ended p.number l.invariant.apart e.fresh e.ended;
      receipts = mapped_on receipts_of c.args.receipts.now.items l.receipts.items c.end_one.new.receipts.items l.yielded p l.invariant.receipts e.receipts;
      capacity = e.capacity ∙ l.invariant.capacity;
      places = All-push (λ (q : PassState). q.places ≡ places_of q.number c.args.recorder.now.list) l.yielded p l.invariant.places here;
      seen = All-push (λ (q : PassState). IsPrefix q.seen c.args.recorder.now.list) l.yielded p l.invariant.seen (subst (λ (x : List TaggedEntry). IsPrefix p.seen x) l.invariant.list e.seen);
      failed = All-push (λ (q : PassState). q.failed ≡ calls_of q.number c.args.recorder.now.failed) l.yielded p l.invariant.failed failed;
      noted = e.noted ∙ l.invariant.noted;
      counted = counted_on c.args.shares.now.faulted l.shares.faulted c.end_one.new.shares.faulted l.yielded p l.invariant.counted e.counted;
      parts = parts_on c.args.shares.now.parts l.shares.parts c.end_one.new.shares.parts l.yielded p l.invariant.parts e.parts;
      accepted = accepted_on c.args.shares.now.accepted l.shares.accepted c.end_one.new.shares.accepted l.yielded p l.invariant.accepted e.accepted;
      faulted = faulted_on c.args.shares.now.faulted l.shares.faulted c.end_one.new.shares.faulted l.yielded p l.invariant.faulted e.faulted;
      quiet = quiet_on c.args.shares.now.faulted l.shares.faulted c.end_one.new.shares.faulted l.yielded p l.invariant.quiet e.quiet;
    }

pub returns-clause-seen : goal.returns-clause-seen
returns-clause-seen g c =
    let l = c.loop-pass in
    let none : into_iter_items l.pass-iterator ≡ [] = nothing_more (into_iter_items l.pass-iterator) (sym l.pass-iterator.rest.ok.0 ∙ c.in-None.ensures.steps.0) in
    let all : c.args.passes.items ≡ l.yielded = l.invariant.all ∙ ap (λ (x : List PassState). l.yielded ++ x) none ∙ append-nil l.yielded in
    subst (λ (x : List PassState). All (λ (q : PassState). IsPrefix q.seen c.args.recorder.now.list) x) (sym all) l.invariant.seen

pub returns-clause-quiet : goal.returns-clause-quiet
returns-clause-quiet g c =
    let l = c.loop-pass in
    let none : into_iter_items l.pass-iterator ≡ [] = nothing_more (into_iter_items l.pass-iterator) (sym l.pass-iterator.rest.ok.0 ∙ c.in-None.ensures.steps.0) in
    let all : c.args.passes.items ≡ l.yielded = l.invariant.all ∙ ap (λ (x : List PassState). l.yielded ++ x) none ∙ append-nil l.yielded in
    subst (λ (x : List PassState). faults_in (map receipts_of x) ≡ 0 → l.shares.faulted ≡ c.args.shares.now.faulted) (sym all) l.invariant.quiet
