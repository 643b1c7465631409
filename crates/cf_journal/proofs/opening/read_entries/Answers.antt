use Rattle.std.proofs.Common.{◌≡◌, ◌+◌, ◌<◌, ℕ, List, [], ◌∷◌, ◌++◌, length, drop, sym, ◌∙◌, ap, subst, arith, Ok, Err, Result, length-drop}
use Rattle.cf_base.proofs.Common.{append-nil, take_rest, All-nil, All-push, All-same}
use Rattle.cf_calls.specs.declared.entry.Entry.{Entry}
use Rattle.cf_codec.specs.Entries.{IsOf}
use Rattle.cf_journal.specs.Records.{HasRecord, entries_from, records_of}
use Rattle.cf_journal.specs.Answers.{GivesEntry}
use Rattle.cf_journal.proofs.Reading.{with_front, front_none, front_push, front_more, nothing_read, steps_on, stops_at, ends_at, back_bytes, lies, refuses_all, ends}
use Rattle.cf_journal.proofs.opening.read_entries.Goals as goal

pub loop-place-init : goal.loop-place-init
loop-place-init c =
    let none = c.new-entries.ensures.items in
    let start : c.args.first + 0 ≡ c.args.first = omega arith in
    record {
      within = c.requires.some;
      all = All-same HasRecord c.new-entries.result.items [] none (All-nil HasRecord);
      of = All-same (IsOf c.args.version) c.new-entries.result.items [] none (All-nil (IsOf c.args.version));
      front = sym nothing_read ∙ ap records_of (sym none);
      read =
          ap (λ (es : List Entry). with_front es (entries_from c.args.version 0 (c.args.first + 0) c.args.records.now)) none
          ∙ front_none (entries_from c.args.version 0 (c.args.first + 0) c.args.records.now)
          ∙ ap (λ (k : ℕ). entries_from c.args.version 0 k c.args.records.now) start;
    }

pub loop-place-preserved : goal.loop-place-preserved
loop-place-preserved c =
    let records = c.args.records.now in
    let place = c.loop-place.place in
    let es = c.loop-place.entries.items in
    let n = c.in-Ok.n in
    let e = c.in-Ok.entry in
    let inv = c.loop-place.invariant in
    let at = c.args.first + place in
    let gives = subst (λ (b : List ℕ). GivesEntry (Ok (n, e)) c.args.version at b) (take_rest records (place + 1)) c.in-Ok.ensures in
    let lie = lies c.args.version (drop (place + 1) records) e (back_bytes (place + 1) records (λ i. omega (arith, c.type_inv.records i))) gives.1 in
    let items = c.in_ok-push-in-Ok.ensures.items in
    let within : place + (5 + n) < length records = omega (arith, gives.2, length-drop (place + 1) records) in
    let next : 5 + n + at ≡ c.args.first + (place + (5 + n)) = omega arith in
    let rest = drop (place + (5 + n)) records in
    let step = steps_on c.args.version records place at n e inv.within c.loop-place-test.true gives.1 gives.0 in
    record {
      within = within;
      all = All-same HasRecord c.push.new.self.items (es ++ e ∷ []) items (All-push HasRecord es e inv.all lie.form);
      of = All-same (IsOf c.args.version) c.push.new.self.items (es ++ e ∷ []) items (All-push (IsOf c.args.version) es e inv.of lie.of);
      front = front_more c.args.version records place n es e inv.within c.loop-place-test.true gives.0 lie inv.front ∙ ap records_of (sym items);
      read =
          ap (λ (l : List Entry). with_front l (entries_from c.args.version 0 (c.args.first + (place + (5 + n))) rest)) items
          ∙ ap (λ (k : ℕ). with_front (es ++ e ∷ []) (entries_from c.args.version 0 k rest)) (sym next)
          ∙ sym (front_push es e at (entries_from c.args.version 0 (5 + n + at) rest))
          ∙ ap (λ (r : Result (List Entry) ℕ). with_front es r) (sym step)
          ∙ inv.read;
    }

pub returns-in-Err-clause-answer : goal.returns-in-Err-clause-answer
returns-in-Err-clause-answer c =
    let records = c.args.records.now in
    let place = c.loop-place.place in
    let at = c.args.first + place in
    let inv = c.loop-place.invariant in
    let gives = subst (λ (b : List ℕ). GivesEntry (Err c.in-Err.e) c.args.version at b) (take_rest records (place + 1)) c.in-Err.ensures in
    refuses_all c.in-Err.e c.args.version at c.args.first (drop (place + 1) records) records gives
    (λ none. sym inv.read ∙ ap (λ (r : Result (List Entry) ℕ). with_front c.loop-place.entries.items r) (stops_at c.args.version records place at inv.within c.loop-place-test.true none))

pub returns-clause-answer : goal.returns-clause-answer
returns-clause-answer c =
    let es = c.loop-place.entries.items in
    let inv = c.loop-place.invariant in
    sym inv.read ∙ ap (λ (r : Result (List Entry) ℕ). with_front es r) (ends_at c.args.version c.args.records.now c.loop-place.place (c.args.first + c.loop-place.place) inv.within c.loop-place-test.false)
    ∙ ap (λ (l : List Entry). Ok l) (append-nil es)

pub returns-clause-layout : goal.returns-clause-layout
returns-clause-layout c =
    let inv = c.loop-place.invariant in
    ends c.args.version c.args.records.now c.loop-place.place c.args.first c.loop-place.entries.items inv.within c.loop-place-test.false inv.all inv.of inv.front
