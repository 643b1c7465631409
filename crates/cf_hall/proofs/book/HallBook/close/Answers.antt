use Rattle.std.proofs.Common.{◌≡◌, ◌≤◌, ◌∷◌, ◌++◌, [], List, IfSome, Some, length, map, sym, ap, subst, ◌∙◌, arith, Contains}
use Rattle.cf_journal_book.specs.Books.{RecoversNear}
use Rattle.cf_model.specs.Common.{Call, Entry, OfficeState, IsSoundState}
use Rattle.cf_hall_names.specs.Closing.{RoseBy, failed_calls, faults_in, receipts_of}
use Rattle.cf_hall_names.specs.Lists.{calls_in, entries_of}
use Rattle.cf_hall_names.proofs.Entries.{entries_length}
use Rattle.cf_turns.specs.States.{RecorderState}
use Rattle.cf_hall.specs.Fronts.{IsUnacknowledged, KeptSince}
use Rattle.cf_hall.proofs.Ending.{rose_less}
use Rattle.cf_hall.proofs.Fronts.{if_some_wider, kept_end, near_doubt, since_wider, unacknowledged_wider}
use Rattle.cf_hall.proofs.book.HallBook.close.Goals as goal

pub returns-clause-ends : goal.returns-clause-ends
returns-clause-ends g c =
    let d = g.D.Disk in
    let b = c.self.inside in
    let list = c.recording.inside.recorder.list in
    let doubt = b.archive.doubt in
    let plan = c.self.invariant.plan in
    let entries : b.archive.entries ≡ entries_of list = c.self.invariant.list ∙ ap (λ (r : RecorderState). entries_of r.list) (sym c.recording.view_is) in
    let was : OfficeState = record { plan = b.archive.plan; entries = b.archive.entries } in
    let now : OfficeState = record { plan = g.N.City.plan; entries = entries_of list } in
    let office : was ≡ now = λ i. record { plan = plan i; entries = entries i } in
    let in_doubt = g.N.City.doubt in
    let noted : List Call = calls_in b.recording.failed in
    let calls : List Call = failed_calls c.args.passes.items in
    let within : (x : Call) → Contains noted x → Contains calls x = λ x stands. c.close_in.ensures.failed x (subst (λ (r : RecorderState). Contains (calls_in r.failed) x) (sym c.recording.view_is) stands) in
    let long : g.N.City.first ≤ length b.archive.entries = omega (arith, c.self.invariant.from, ap length c.self.invariant.list, entries_length b.recording.list) in
    record {
      list = list;
      doubt = doubt;
      many_is = ap length (c.entries.ensures.value ∙ c.rest.ensures.entries ∙ entries) ∙ entries_length list;
      closes = c.close_in.ensures.closes;
      kept_seen = c.close_in.ensures.kept_seen;
      seen = c.close_in.ensures.seen;
      sound = subst IsSoundState office c.close.ensures.sound;
      doubt_sound = subst (λ (s : OfficeState). IfSome doubt (λ (e : Entry). IsSoundState (record { plan = s.plan; entries = s.entries ++ e ∷ [] }))) office c.close.ensures.doubt_sound;
      images = λ tells image is. subst (λ (s : OfficeState). RecoversNear s.plan s.entries (λ (e : Entry). doubt ≡ Some e) image) office (c.close.ensures.images tells image is);
      unacknowledged = subst (λ (s : OfficeState). IfSome doubt (IsUnacknowledged s.plan in_doubt calls s.entries)) office
          (if_some_wider doubt (IsUnacknowledged b.archive.plan in_doubt noted b.archive.entries) (IsUnacknowledged b.archive.plan in_doubt calls b.archive.entries)
          (unacknowledged_wider b.archive.plan in_doubt noted calls within b.archive.entries) c.self.invariant.unacknowledged);
      any_moment = λ tells.
          subst (λ (disk : g.row.D.Denot). KeptSince d.moment d.was_image g.N.City.plan g.N.City.first in_doubt calls (entries_of list) g.N.City.begun disk) (sym c.close.ensures.disk)
          (subst (λ (s : OfficeState). KeptSince d.moment d.was_image s.plan g.N.City.first in_doubt calls s.entries g.N.City.begun b.archive.disk) office
          (since_wider d.moment d.was_image b.archive.plan g.N.City.first in_doubt noted calls b.archive.entries g.N.City.begun b.archive.disk within
          (kept_end d.moment d.was_image b.archive.plan g.N.City.first in_doubt d.is_image noted b.archive.entries g.N.City.begun b.archive.disk long (g.met.D.Disk.only_now b.archive.disk)
          (λ image is. near_doubt b.archive.plan b.archive.entries doubt (IsUnacknowledged b.archive.plan in_doubt noted b.archive.entries) image c.self.invariant.unacknowledged
          (c.close.ensures.images tells image (subst (λ (disk : g.row.D.Denot). d.is_image disk image) (sym c.close.ensures.disk) is))) (c.self.invariant.since tells))));
      faulted =
          subst (λ (disk : g.row.D.Denot). RoseBy (faults_in (map receipts_of c.args.passes.items)) g.N.City.risen (d.faults disk)) (sym c.close.ensures.disk)
          (rose_less _ b.totals.faulted g.N.City.risen (d.faults b.archive.disk) c.close_in.ensures.faulted c.self.invariant.faulted);
      quiet = λ none. ap d.faults c.close.ensures.disk ∙ c.self.invariant.quiet (c.close_in.ensures.quiet none);
      clear = λ none. c.self.invariant.clear (c.close_in.ensures.quiet none);
    }
