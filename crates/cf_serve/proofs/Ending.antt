-- From how the desks were kept, and what closing the hall tells, to how the service ended.
use Rattle.std.proofs.Common.{◌≡◌, ℕ, List, [], ◌∷◌, Bool, true, false, if◌then◌else◌, length, map, All, IfSome, Option, refl, sym, subst, ◌∙◌, sum_by}
use Rattle.cf_base.proofs.Common.{list_any, All-nil, All-cons, All-head, All-tail}
use mathlib.Core.List.{IsPrefix}
use Rattle.cf_journal_book.specs.DurableState.{DurableBook}
use Rattle.cf_journal_book.specs.declared.refused.BookRefused.{BookRefused}
use Rattle.cf_model.specs.Common.{Call, Entry}
use Rattle.cf_chart.specs.Common.{Plan}
use Rattle.cf_hall.specs.Endings.{HallEnds}
use Rattle.cf_hall.specs.Fronts.{IsUnacknowledged, KeptSince}
use Rattle.cf_http.specs.Doors.{DoorTells}
use Rattle.cf_http.specs.Links.{LinkTells}
use Rattle.cf_hall_names.specs.Closing.{HasFirst, IsFreshPass, failed_calls}
use Rattle.cf_hall_names.specs.Lists.{entries_of}
use Rattle.cf_turns.specs.States.{PassState}
use Rattle.cf_serve.specs.DesksRun.{DesksRan, EachKept, end_of}
use Rattle.cf_serve.specs.declared.end.ServeEnd.{ServeEnd}
use Rattle.cf_serve.specs.declared.end.ServeEnd.TheVariants.{Served, DoorFailed, Unopened}
use Rattle.cf_serve.specs.HallServes.{DiskTells, HallRan, ServesDoors}
use Rattle.cf_serve_laws.specs.Desks.{DeskState, end_links, is_fault}
use Rattle.cf_serve_laws.specs.ServeRuns.{AllKept, door_of, failed_said}
use Rattle.cf_serve_laws.proofs.ServeEnding.{all_quiet, some_rose, given_is}
use Rattle.cf_serve_laws.proofs.ServeRunning.{all_kept, serve_failed, serve_none, serve_ran}

all_unmapped : {X Y : Type 0} (P : X → Type 0) (f : Y → X) (ys : List Y) → All P (map f ys) → All (λ y. P (f y)) ys
all_unmapped P f [] h = All-nil (λ y. P (f y))
all_unmapped P f (y ∷ ys) h = All-cons (λ z. P (f z)) y ys (All-head P (f y) (map f ys) h) (all_unmapped P f ys (All-tail P (f y) (map f ys) h))

module _ {L : Type 0} where
  -- a hall whose desks were kept was opened
  pub was_opened : (desks : List (DeskState L)) (end : ServeEnd) (why : BookRefused) → end ≡ end_of desks → end ≡ Unopened why → ⊥
  was_opened desks end why is e = by (list_any (λ (d : DeskState L). is_fault d.end) desks) (sum_by (λ (d : DeskState L). end_links d.end) desks) (sym is ∙ e)
    where
      by : (failed : Bool) (given : ℕ) → (if failed then DoorFailed given else Served given) ≡ Unopened why → ⊥
      by true given e = cc
      by false given e = cc

module _ {D L : Type 0} (device : DiskTells D) (tells : L → LinkTells) (known : Bool) (links : ℕ) (book : DurableBook D) (disk : D) where
  -- what closing the hall tells, by its names
  abbrev Ends : Plan → ℕ → Option Entry → ℕ → ℕ → PassState → List PassState → ℕ → Type 0
  Ends plan first doubt begun risen kept passes many = HallEnds device.tells device.is_image device.moment device.was_image device.faults plan first doubt begun risen kept passes many disk

  -- the same by what the book was at opening
  abbrev EndsFrom : PassState → List PassState → ℕ → Type 0
  EndsFrom kept passes many = Ends book.plan (length book.entries) book.doubt (device.moment book.disk) (device.faults book.disk) kept passes many

  module _ (kept : PassState) (many : ℕ) (before after : List (DeskState L)) (same : length after ≡ length before) (fresh : All (λ (d : DeskState L). IsFreshPass (length book.entries) d.pass) before)
      (each : EachKept tells known book.plan links before after) (seen : entries_of kept.seen ≡ book.entries) (has : HasFirst (length book.entries) kept.places)
      (ends : EndsFrom kept (map (λ (d : DeskState L). d.pass) after) many) where
    all : AllKept tells known book.plan (length book.entries) ends.list links before after
    all = all_kept tells known book.plan (length book.entries) ends.list links before after same fresh each (all_unmapped (λ (p : PassState). IsPrefix p.seen ends.list) (λ (d : DeskState L). d.pass) after ends.seen)

    failed : failed_calls (map (λ (d : DeskState L). d.pass) after) ≡ failed_said (serve_ran tells known book.plan book.entries ends.list links before after kept (device.faults book.disk) (device.faults disk) all seen has
        ends.kept_seen ends.closes ends.sound ends.faulted ends.quiet).doors.talks
    failed = serve_failed tells known book.plan book.entries ends.list links before after kept (device.faults book.disk) (device.faults disk) all seen has ends.kept_seen ends.closes ends.sound ends.faulted ends.quiet

    ran : HallRan device tells known links book disk (map door_of before) (map door_of after) (sum_by (λ (d : DeskState L). end_links d.end) after)
    ran = record {
      last = entries_of ends.list;
      ran = serve_ran tells known book.plan book.entries ends.list links before after kept (device.faults book.disk) (device.faults disk) all seen has ends.kept_seen ends.closes ends.sound ends.faulted ends.quiet;
      kept = record { doubt = ends.doubt; images = ends.images; doubt_sound = ends.doubt_sound };
      clear = λ none. ends.clear (serve_none tells known book.plan book.entries ends.list links before after kept (device.faults book.disk) (device.faults disk) all seen has ends.kept_seen ends.closes
          ends.sound ends.faulted ends.quiet none);
      unacknowledged = subst (λ (cs : List Call). IfSome ends.doubt (IsUnacknowledged book.plan book.doubt cs (entries_of ends.list))) failed ends.unacknowledged;
      any_moment = λ t. subst (λ (cs : List Call). KeptSince device.moment device.was_image book.plan (length book.entries) book.doubt cs (entries_of ends.list) (device.moment book.disk) disk) failed (ends.any_moment t);
      given_is = sym (given_is tells known book.plan (length book.entries) ends.list links before after all);
    }

    by_end : (failed : Bool) → failed ≡ list_any (λ (d : DeskState L). is_fault d.end) after
        → ServesDoors device tells known links book disk (map door_of before) (map door_of after) (if failed then DoorFailed (sum_by (λ (d : DeskState L). end_links d.end) after) else Served (sum_by (λ (d : DeskState L). end_links d.end) after))
    by_end true is = (ran, some_rose tells known book.plan (length book.entries) ends.list links before after all (sym is))
    by_end false is = (ran, all_quiet tells known book.plan (length book.entries) ends.list links before after all (sym is))

  serves : (kept : PassState) (many : ℕ) (olds news : List (DoorTells L)) (passes : List PassState) (end : ServeEnd)
      → DesksRan tells known book.plan (length book.entries) links olds news passes end → entries_of kept.seen ≡ book.entries → HasFirst (length book.entries) kept.places
      → EndsFrom kept passes many → ServesDoors device tells known links book disk olds news end
  serves kept many olds news passes end d seen has ends =
      let closed : EndsFrom kept (map (λ (e : DeskState L). e.pass) d.after) many = subst (λ (ps : List PassState). EndsFrom kept ps many) d.passes_are ends in
      subst (λ (o : List (DoorTells L)). ServesDoors device tells known links book disk o news end) (sym d.olds_are)
      (subst (λ (n : List (DoorTells L)). ServesDoors device tells known links book disk (map door_of d.before) n end) (sym d.news_are)
      (subst (λ (e : ServeEnd). ServesDoors device tells known links book disk (map door_of d.before) (map door_of d.after) e) (sym d.ended)
      (by_end kept many d.before d.after d.many d.fresh d.kept seen has closed (list_any (λ (e : DeskState L). is_fault e.end) d.after) refl)))

  -- the same by what each call of the code says
  pub hall_served : (plan : Plan) (first : ℕ) (doubt : Option Entry) (begun risen : ℕ) (opened kept : PassState) (many : ℕ) (made olds news : List (DoorTells L)) (passes : List PassState) (end : ServeEnd)
      → book.plan ≡ plan → length book.entries ≡ first → book.doubt ≡ doubt → device.moment book.disk ≡ begun → device.faults book.disk ≡ risen → kept ≡ opened → made ≡ olds
      → entries_of opened.seen ≡ book.entries → HasFirst (length book.entries) opened.places → DesksRan tells known plan first links made news passes end
      → Ends plan first doubt begun risen kept passes many → ServesDoors device tells known links book disk olds news end
  hall_served plan first doubt begun risen opened kept many made olds news passes end plan_is first_is doubt_is begun_is risen_is kept_is olds_are seen has ran ends =
      let under : DesksRan tells known book.plan first links made news passes end = subst (λ (p : Plan). DesksRan tells known p first links made news passes end) (sym plan_is) ran in
      let here : DesksRan tells known book.plan (length book.entries) links made news passes end = subst (λ (n : ℕ). DesksRan tells known book.plan n links made news passes end) (sym first_is) under in
      let by_plan = subst (λ (p : Plan). Ends p first doubt begun risen kept passes many) (sym plan_is) ends in
      let by_first = subst (λ (n : ℕ). Ends book.plan n doubt begun risen kept passes many) (sym first_is) by_plan in
      let by_doubt = subst (λ (e : Option Entry). Ends book.plan (length book.entries) e begun risen kept passes many) (sym doubt_is) by_first in
      let by_moment = subst (λ (t : ℕ). Ends book.plan (length book.entries) book.doubt t risen kept passes many) (sym begun_is) by_doubt in
      let from : EndsFrom kept passes many = subst (λ (r : ℕ). Ends book.plan (length book.entries) book.doubt (device.moment book.disk) r kept passes many) (sym risen_is) by_moment in
      serves opened many olds news passes end
      (subst (λ (o : List (DoorTells L)). DesksRan tells known book.plan (length book.entries) links o news passes end) olds_are here) seen has
      (subst (λ (k : PassState). EndsFrom k passes many) kept_is from)
