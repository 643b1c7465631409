use Rattle.std.proofs.Common.{◌≡◌, ℕ, ◌+◌, ◌++◌, ◌∷◌, [], List, take, length, sym, ap, subst, ◌∙◌, arith, length-append}
use Rattle.cf_base.proofs.Common.{take_more}
use Rattle.cf_model.specs.Common.{Entry}
use Rattle.cf_hall_names.specs.Closing.{HasFirst}
use Rattle.cf_hall_names.specs.Lists.{entries_of}
use Rattle.cf_hall_names.specs.Shares.{TotalsState}
use Rattle.cf_hall_names.proofs.Entries.{entries_push}
use Rattle.cf_hall.proofs.Begun.{first_more}
use Rattle.cf_hall.proofs.opening.record_all.Goals as goal

pub loop-entry-preserved : goal.loop-entry-preserved
loop-entry-preserved g c =
    let l = c.loop-entry in
    let e = c.record_one.ensures in
    let x : Entry = c.entry-item.result in
    let xs = c.args.entries.now in
    let i = l.entry-index in
    let was = c.args.totals.now in
    let more : (was.accepted + i) + 1 ≡ was.accepted + (i + 1) = omega arith in
    record {
      list =
          ap entries_of e.list ∙ entries_push l.recorder.list x l.pass.number ∙ ap (λ (h : List Entry). h ++ x ∷ []) l.invariant.list
          ∙ ap (λ (y : Entry). take i xs ++ y ∷ []) c.entry-item.is ∙ sym (take_more xs i x c.loop-entry-test.true);
      long = omega (arith, ap length e.list, length-append l.recorder.list ((x, l.pass.number) ∷ []), l.invariant.long);
      same = record {
        table = e.recorder.table ∙ l.invariant.same.table;
        opened = e.recorder.opened ∙ l.invariant.same.opened;
        ended = e.recorder.ended ∙ l.invariant.same.ended;
        failed = e.recorder.failed ∙ l.invariant.same.failed;
      };
      totals = e.totals ∙ ap (λ (t : TotalsState). record t { accepted = t.accepted + 1 }) l.invariant.totals ∙ (λ k. record was { accepted = more k });
      places = subst (HasFirst (i + 1)) (sym (e.places ∙ ap (λ (n : ℕ). l.pass.places ++ (n + 1) ∷ []) l.invariant.long)) (first_more i l.pass.places l.invariant.places);
      seen = e.seen ∙ l.invariant.seen;
      faults = e.faults.0 ∙ l.invariant.faults;
      failed = e.faults.1 ∙ l.invariant.failed;
    }
