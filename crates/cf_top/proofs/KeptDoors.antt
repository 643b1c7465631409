-- A run of `serve` over the journal of a disk.
use Rattle.std.proofs.Common.{◌≡◌, ⊎_elim, ℕ, ◌≤◌, List, [], ◌++◌, length, map, take, IfSome, Option, Ok, sym, subst, ap, ◌∙◌}
use Rattle.cf_base.proofs.Common.{length-take-le, take-append_seam}
use Rattle.cf_model_articulation.proofs.Articulated.{articulates_always}
use Rattle.cf_model_articulation.proofs.ReadCharts.{read_chart}
use Rattle.cf_journal_book.specs.DurableState.{DurableBook}
use Rattle.cf_journal_book.specs.Openings.{OpensBook, Refuses}
use Rattle.cf_journal_book.specs.Recovery.{recovered}
use Rattle.cf_journal_book.specs.declared.refused.BookRefused.{BookRefused}
use Rattle.cf_journal_book.specs.declared.refused.BookRefused.TheVariants as refused
use Rattle.cf_model.specs.Common.{Entry}
use Rattle.cf_chart.specs.Common.{chart_of}
use Rattle.cf_model_closed.proofs.ClosedYears.{closed_years_always}
use Rattle.cf_disk.specs.Moments.{AtEachMoment}
use Rattle.cf_hall.specs.Fronts.{IsUnacknowledged, KeptSince}
use Rattle.cf_http.specs.Doors.{DoorTells}
use Rattle.cf_serve.specs.HallServes.{HallRan, ServesDoors}
use Rattle.cf_serve.specs.declared.end.ServeEnd.{ServeEnd}
use Rattle.cf_serve.specs.declared.end.ServeEnd.TheVariants as end
use Rattle.cf_top.specs.Talks.{RoseBy}
use Rattle.cf_serve_laws.specs.ServeRuns.{failed_said, faults_said}
use Rattle.cf_run_status.specs.Devices.{Device}
use Rattle.cf_top.specs.DoorKinds.{DoorKind}
use Rattle.cf_top.specs.Serves.{IsUnserved, KeepsDoors, Served}

-- what was moved to the end of an empty list, and then others after it, stands in front
pub front_is : {R : Type 0} (count : ℕ) (old first back front rest last : List R) → count ≤ length old → first ≡ take count old → length back ≡ length first → front ≡ back → last ≡ front ++ rest
    → take count last ≡ back
front_is count old first back front rest last enough is same e l =
    let n : length back ≡ count = same ∙ ap length is ∙ length-take-le count old enough in
    ap (take count) (l ∙ ap (λ xs. xs ++ rest) e) ∙ ap (λ m. take m (back ++ rest)) (sym n) ∙ take-append_seam back rest

-- what is moved to the end of an empty list is that list
pub moved_is : {R : Type 0} (empty from to : List R) → to ≡ empty ++ from → empty ≡ [] → to ≡ from
moved_is empty from to e none = e ∙ ap (λ xs. xs ++ from) none

module _ {D R L : Type 0} (device : Device D) (kind : DoorKind R L) (links : ℕ) (old new : D) where
  -- ---- over an opened journal

  served_by : (book : DurableBook D) (bytes : List ℕ) (olds news : List (DoorTells L)) (given : ℕ)
      → OpensBook device.tells device.content device.is_image device.moment device.was_image device.faults old book → chart_of bytes ≡ Ok book.plan
      → HallRan (record { tells = device.tells; is_image = device.is_image; moment = device.moment; was_image = device.was_image; faults = device.faults }) kind.tells kind.known links book new olds news given
      → Served device kind links old new olds news
  served_by book bytes olds news given opens states h = record {
    plan = book.plan;
    first = book.entries;
    last = h.last;
    doubt = h.kept.doubt;
    recovers = opens.recovers;
    disk = book.disk;
    opening = opens.any_moment;
    ran = record {
      later = h.ran.later;
      goes_on = h.ran.goes_on;
      sound = h.ran.sound;
      doors = h.ran.doors;
      faults = subst (λ (n : ℕ). RoseBy (faults_said h.ran.doors.talks) n (device.faults new)) opens.quiet h.ran.faults;
      quiet = λ none. h.ran.quiet none ∙ opens.quiet;
    };
    closed = closed_years_always book.plan h.last (read_chart bytes book.plan states).whole h.ran.sound.legal;
    articulates = articulates_always bytes book.plan h.last states h.ran.sound.legal;
    images = h.kept.images;
    doubt_sound = h.kept.doubt_sound;
    clear = λ none. ⊎_elim (λ e. e ∙ opens.clear) (λ e. e) (h.clear none);
    unacknowledged = subst (λ (d : Option Entry). IfSome h.kept.doubt (IsUnacknowledged book.plan d (failed_said h.ran.doors.talks) h.last)) opens.clear h.unacknowledged;
    any_moment = λ t. subst (λ (d : Option Entry). KeptSince device.moment device.was_image book.plan (length book.entries) d (failed_said h.ran.doors.talks) h.last (device.moment book.disk) new) opens.clear (h.any_moment t);
  }

  -- where a hall wasn't opened over it, there was no memory, and the disk is as it was
  pub unopened : (book : DurableBook D) (olds news : List (DoorTells L)) (how : ServeEnd) (why : BookRefused)
      → ServesDoors (record { tells = device.tells; is_image = device.is_image; moment = device.moment; was_image = device.was_image; faults = device.faults }) kind.tells kind.known links book new olds news how
      → how ≡ end.Unopened why → (why ≡ refused.NoMemory) × (new ≡ book.disk)
  unopened book olds news how why h e =
      let k = subst (λ (x : ServeEnd). ServesDoors (record { tells = device.tells; is_image = device.is_image; moment = device.moment; was_image = device.was_image; faults = device.faults }) kind.tells kind.known links book new olds news x) e h in
      (k.0, k.2)

  pub disk_unopened : (book : DurableBook D) (olds news : List (DoorTells L)) (how : ServeEnd)
      → ServesDoors (record { tells = device.tells; is_image = device.is_image; moment = device.moment; was_image = device.was_image; faults = device.faults }) kind.tells kind.known links book new olds news how
      → how ≡ end.Unopened refused.Disk → ⊥
  disk_unopened book olds news how h e = let none : refused.Disk ≡ refused.NoMemory = (unopened book olds news how refused.Disk h e).0 in cc

  pub doors_kept : (book : DurableBook D) (bytes : List ℕ) (doors doors' : List R) (how : ServeEnd)
      → OpensBook device.tells device.content device.is_image device.moment device.was_image device.faults old book → chart_of bytes ≡ Ok book.plan
      → ServesDoors (record { tells = device.tells; is_image = device.is_image; moment = device.moment; was_image = device.was_image; faults = device.faults }) kind.tells kind.known links book new (map kind.state doors) (map kind.state doors') how
      → (how ≡ end.Unopened refused.NoMemory → doors' ≡ doors) → KeepsDoors device kind links old new doors doors' how
  doors_kept book bytes doors doors' (end.Served given) opens states h stay =
      (served_by book bytes (map kind.state doors) (map kind.state doors') given opens states h.0, h.1, h.0.given_is)
  doors_kept book bytes doors doors' (end.DoorFailed given) opens states h stay =
      (served_by book bytes (map kind.state doors) (map kind.state doors') given opens states h.0, h.1)
  doors_kept book bytes doors doors' (end.Unopened why) opens states h stay =
      let unserved : IsUnserved device old new doors doors' = record {
        doors_stay = stay (ap end.Unopened h.0);
        content = λ t. ap device.content h.2 ∙ opens.reads t;
        any_moment = subst (λ (d : D). AtEachMoment device.moment device.was_image old d (device.is_image old)) (sym h.2) opens.any_moment;
      } in
      (unserved, λ t. subst (λ (w : BookRefused). Refuses w (recovered (device.content old))) (sym h.0) tt, λ fine. ap device.faults h.2 ∙ opens.quiet)
