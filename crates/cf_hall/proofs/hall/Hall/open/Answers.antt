use Rattle.std.proofs.Common.{◌≡◌, List, [], length, sym, ap, subst, ◌∙◌, inl, arith}
use Rattle.cf_journal_book.specs.DurableState.{DurableBook}
use Rattle.cf_model.specs.Common.{Entry}
use Rattle.cf_chart.specs.Common.{Plan}
use Rattle.cf_hall_names.specs.Lists.{calls_in, entries_of}
use Rattle.cf_hall_names.specs.Shares.{TotalsState}
use Rattle.cf_hall_names.proofs.Entries.{entries_length}
use Rattle.cf_registers.specs.Moved.{AreTablesOf}
use Rattle.cf_turns.specs.Lists.{TaggedEntry}
use Rattle.cf_turns.specs.States.{RecorderState}
use Rattle.cf_hall.proofs.Begun.{begun}
use Rattle.cf_hall.proofs.Fronts.{opening_doubt}
use Rattle.cf_hall.proofs.hall.Hall.open.Goals as goal

pub invariant_of-taken : goal.invariant_of-taken
invariant_of-taken g c =
    let plan = g.N.City.plan in
    let lines = c.into_parts-lines.result.0 in
    let list = c.record_all.new.recorder.list in
    let parts = c.into_parts-lines.ensures in
    let entries : c.args.book.entries ≡ entries_of list =
    sym (ap (λ (a : DurableBook g.row.D.Denot). a.entries) parts.archive) ∙ sym (c.entries-entries.ensures.value ∙ c.rest.ensures.entries) ∙ sym c.record_all.ensures.list in
    let tables : AreTablesOf plan (entries_of list) lines =
    subst (λ (p : Plan). AreTablesOf p (entries_of list) lines) c.requires.plan.0 (subst (λ (h : List Entry). AreTablesOf c.args.book.plan h lines) entries parts.tables) in
    begun g.N.City.table plan lines list c.begin-recording.new.ties tables parts.whole c.begin-recording.ensures.ties

pub invariant_of-book : goal.invariant_of-book
invariant_of-book g c =
    let d = g.D.Disk in
    let parts = c.into_parts-lines.ensures in
    let list = c.record_all.new.recorder.list in
    let here : c.begin-recording.result.list ≡ list = c.begin-recording.ensures.list in
    let noted : c.begin-recording.result.failed ≡ [] =
    c.begin-recording.ensures.recorder.failed ∙ c.record_all.ensures.recorder.failed ∙ ap (λ (r : RecorderState). r.failed) c.open_pass.ensures.recorder ∙ c.open_ties-counts.ensures.recorder.3
    ∙ ap (λ (r : RecorderState). r.failed) c.args.opening.fresh in
    let entries : c.into_parts-lines.result.1.entries ≡ entries_of list = sym (c.entries-entries.ensures.value ∙ c.rest.ensures.entries) ∙ sym c.record_all.ensures.list in
    record {
      plan = ap (λ (a : DurableBook g.row.D.Denot). a.plan) parts.archive ∙ c.requires.plan.0;
      list = entries ∙ ap entries_of (sym here);
      from = omega (arith, c.requires.first, ap (λ (a : DurableBook g.row.D.Denot). length a.entries) parts.archive, ap length entries, entries_length list, ap (λ (l : List TaggedEntry). length l) here);
      accepted = omega (
        arith,
        ap (λ (t : TotalsState). t.accepted) c.record_all.ensures.totals,
        ap (λ (t : TotalsState). t.accepted) c.open-totals.ensures.totals,
        ap length c.record_all.ensures.list,
        entries_length list,
        ap (λ (l : List TaggedEntry). length l) here,
      );
      faulted = omega (
        arith,
        ap (λ (t : TotalsState). t.faulted) c.record_all.ensures.totals,
        ap (λ (t : TotalsState). t.faulted) c.open-totals.ensures.totals,
        c.requires.risen,
        ap (λ (a : DurableBook g.row.D.Denot). d.faults a.disk) parts.archive,
      );
      quiet = λ none. ap (λ (a : DurableBook g.row.D.Denot). d.faults a.disk) parts.archive ∙ c.requires.risen;
      clear = λ none. inl (ap (λ (a : DurableBook g.row.D.Denot). a.doubt) parts.archive ∙ c.requires.doubt);
      failed =
          ap (λ (t : TotalsState). t.faulted) c.record_all.ensures.totals
          ∙ ap (λ (t : TotalsState). t.faulted) c.open-totals.ensures.totals
          ∙ ap length (sym noted);
      unacknowledged = opening_doubt c.into_parts-lines.result.1.plan g.N.City.doubt (calls_in c.begin-recording.result.failed) c.into_parts-lines.result.1.entries c.into_parts-lines.result.1.doubt (ap (λ (a : DurableBook g.row.D.Denot). a.doubt) parts.archive ∙ c.requires.doubt);
      none_ended = c.begin-recording.ensures.recorder.ended ∙ c.record_all.ensures.recorder.ended ∙ ap (λ (r : RecorderState). r.ended) c.open_pass.ensures.recorder ∙ c.open_ties-counts.ensures.recorder.2
          ∙ ap (λ (r : RecorderState). r.ended) c.args.opening.fresh;
      since = λ tells. inl (ap (λ (a : DurableBook g.row.D.Denot). d.moment a.disk) parts.archive ∙ c.requires.begun);
    }
