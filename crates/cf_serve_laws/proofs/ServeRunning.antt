-- From what each worker says of its own door and pass, and the receipts, to what the run says.
use Rattle.std.proofs.Common.{◌≡◌, ℕ, zero, suc, ◌+◌, ◌-◌, ◌^◌, ◌<◌, min, List, [], ◌∷◌, ◌++◌, length, map, Bool, All, slice_index_or, refl, sym, ap, subst, ◌∙◌, arith}
use Rattle.cf_base.proofs.Common.{All-head, All-tail}
use mathlib.Core.List.{IsPrefix}
use Rattle.cf_model.specs.Common.{Call, Entry, IsSoundState}
use Rattle.cf_chart.specs.Common.{Plan}
use Rattle.cf_http.specs.Links.{LinkTells}
use Rattle.cf_hall_names.specs.Lists.{entries_of}
use Rattle.cf_turns.specs.Lists.{TaggedEntry}
use Rattle.cf_turns.specs.States.{PassState}
use Rattle.cf_hall_names.specs.Closing.{Closes, HasFirst, IsFreshPass, RoseBy, failed_calls, faults_in, receipts_of}
use Rattle.cf_serve_laws.specs.Desks.{DeskState, DeskKept}
use Rattle.cf_serve_laws.specs.Joins.{AreTalksOf, EachIsOne}
use Rattle.cf_serve_laws.specs.PassTalks.{Said, places_of, failed_of, faults_of}
use Rattle.cf_serve_laws.specs.ServeRuns.{DoorRan, AllRan, DoorsRan, ServeRan, AllKept, door_of, failed_said, faults_said}
use Rattle.cf_hall_names.proofs.Entries.{entries_length}
use Rattle.cf_serve_laws.proofs.Entries.{entries_front}
use Rattle.cf_serve_laws.proofs.Joining.{each_is_one}
use Rattle.cf_serve_laws.proofs.Talking.{talk_over, talk_places, talk_failed, talk_faults}

module _ {L : Type 0} (tells : L → LinkTells) (known : Bool) (plan : Plan) (first : ℕ) (list : List TaggedEntry) (links : ℕ) where
  -- what was said at each desk
  said_at : (olds news : List (DeskState L)) → AllKept tells known plan first list links olds news → List (List Said)
  said_at [] [] all = []
  said_at [] (n ∷ news) all = absurd all
  said_at (o ∷ olds) [] all = absurd all
  said_at (o ∷ olds) (n ∷ news) all = all.1.kept.said ∷ said_at olds news all.3

  door_ran : (o n : DeskState L) → IsFreshPass first o.pass → (kept : DeskKept tells known plan links o n) → IsPrefix n.pass.seen list
      → DoorRan tells known plan first (entries_of list) links (door_of o) (door_of n) kept.kept.said
  door_ran o n fresh kept front = record {
    end = n.end;
    count = kept.count;
    enough = kept.enough;
    quiet = kept.quiet;
    served = kept.kept.served;
    talk = talk_over plan o.pass n.pass kept.kept.said list first kept.kept.talked front fresh.seen;
  }

  all_ran : (olds news : List (DeskState L)) → (all : AllKept tells known plan first list links olds news)
      → AllRan tells known plan first (entries_of list) links (map door_of olds) (map door_of news) (said_at olds news all)
  unfolding said_at
  all_ran [] [] all = tt
  all_ran [] (n ∷ news) all = absurd all
  all_ran (o ∷ olds) [] all = absurd all
  all_ran (o ∷ olds) (n ∷ news) all = (door_ran o n all.0 all.1 all.2, all_ran olds news all.3)

  receipts_said : (olds news : List (DeskState L)) → (all : AllKept tells known plan first list links olds news)
      → AreTalksOf (said_at olds news all) (map receipts_of (map (λ (d : DeskState L). d.pass) news))
  unfolding said_at
  receipts_said [] [] all = tt
  receipts_said [] (n ∷ news) all = absurd all
  receipts_said (o ∷ olds) [] all = absurd all
  receipts_said (o ∷ olds) (n ∷ news) all = (
    talk_places plan o.pass n.pass all.1.kept.said all.1.kept.talked ∙ ap (λ (xs : List ℕ). xs ++ places_of all.1.kept.said) all.0.places,
    receipts_said olds news all.3,
  )

  pub doors_ran : (olds news : List (DeskState L)) (kept : PassState) → AllKept tells known plan first list links olds news → HasFirst first kept.places
      → Closes list (receipts_of kept ∷ map receipts_of (map (λ (d : DeskState L). d.pass) news))
      → DoorsRan tells known plan first (entries_of list) links (map door_of olds) (map door_of news)
  doors_ran olds news kept all has closes = record {
    talks = said_at olds news all;
    doors = all_ran olds news all;
    once = subst (λ (n : ℕ). EachIsOne first n (said_at olds news all)) (sym (entries_length list))
        (each_is_one list (receipts_of kept) (map receipts_of (map (λ (d : DeskState L). d.pass) news)) (said_at olds news all) first closes has (receipts_said olds news all));
  }

  -- ---- the faults

  -- where the passes' counts stop at their type's end, so does their sum
  one_fault : (before here rest said counted : ℕ) → counted ≡ min here (2 ^ 64 - 1) → min (before + said) (2 ^ 64 - 1) ≡ min (before + rest) (2 ^ 64 - 1)
      → min (before + (here + said)) (2 ^ 64 - 1) ≡ min (before + (counted + rest)) (2 ^ 64 - 1)
  one_fault before here rest said counted is more = omega (arith, is, more)

  faults_same : (olds news : List (DeskState L)) (before : ℕ) → (all : AllKept tells known plan first list links olds news)
      → min (before + faults_said (said_at olds news all)) (2 ^ 64 - 1) ≡ min (before + faults_in (map receipts_of (map (λ (d : DeskState L). d.pass) news))) (2 ^ 64 - 1)
  unfolding said_at
  faults_same [] [] before all = refl
  faults_same [] (n ∷ news) before all = absurd all
  faults_same (o ∷ olds) [] before all = absurd all
  faults_same (o ∷ olds) (n ∷ news) before all =
      let here = talk_faults plan o.pass n.pass all.1.kept.said (omega (arith, all.0.faults)) all.1.kept.talked in
      one_fault before (faults_of all.1.kept.said) (faults_in (map receipts_of (map (λ (d : DeskState L). d.pass) news))) (faults_said (said_at olds news all.3)) n.pass.faults
      (omega (arith, here, all.0.faults)) (faults_same olds news before all.3)

  pub faults_ran : (olds news : List (DeskState L)) (kept : PassState) (all : AllKept tells known plan first list links olds news) (has : HasFirst first kept.places)
      (closes : Closes list (receipts_of kept ∷ map receipts_of (map (λ (d : DeskState L). d.pass) news))) (before now : ℕ)
      → RoseBy (faults_in (map receipts_of (map (λ (d : DeskState L). d.pass) news))) before now → RoseBy (faults_said (doors_ran olds news kept all has closes).talks) before now
  unfolding doors_ran
  faults_ran olds news kept all has closes before now rose = omega (arith, rose, faults_same olds news before all)

  -- where no call was answered so, no pass was
  pub none_said : (olds news : List (DeskState L)) (kept : PassState) (all : AllKept tells known plan first list links olds news) (has : HasFirst first kept.places)
      (closes : Closes list (receipts_of kept ∷ map receipts_of (map (λ (d : DeskState L). d.pass) news)))
      → faults_said (doors_ran olds news kept all has closes).talks ≡ 0 → faults_in (map receipts_of (map (λ (d : DeskState L). d.pass) news)) ≡ 0
  unfolding doors_ran
  none_said olds news kept all has closes none = omega (arith, none, faults_same olds news 0 all)

  -- the passes' calls that were answered so are those of the talks
  failed_same : (olds news : List (DeskState L)) → (all : AllKept tells known plan first list links olds news)
      → failed_calls (map (λ (d : DeskState L). d.pass) news) ≡ failed_said (said_at olds news all)
  unfolding said_at
  failed_same [] [] all = refl
  failed_same [] (n ∷ news) all = absurd all
  failed_same (o ∷ olds) [] all = absurd all
  failed_same (o ∷ olds) (n ∷ news) all =
      let here : n.pass.failed ≡ failed_of all.1.kept.said = talk_failed plan o.pass n.pass all.1.kept.said all.1.kept.talked ∙ ap (λ (cs : List Call). cs ++ failed_of all.1.kept.said) all.0.failed in
      (λ i. here i ++ failed_same olds news all.3 i)

  pub failed_ran : (olds news : List (DeskState L)) (kept : PassState) (all : AllKept tells known plan first list links olds news) (has : HasFirst first kept.places)
      (closes : Closes list (receipts_of kept ∷ map receipts_of (map (λ (d : DeskState L). d.pass) news)))
      → failed_calls (map (λ (d : DeskState L). d.pass) news) ≡ failed_said (doors_ran olds news kept all has closes).talks
  unfolding doors_ran
  failed_ran olds news kept all has closes = failed_same olds news all

  -- ---- the history

  goes_on : (seen : List TaggedEntry) (first : List Entry) → entries_of seen ≡ first → IsPrefix seen list → (later : List Entry) × (entries_of list ≡ first ++ later)
  goes_on seen first is p = let q = entries_front seen list p in (q.0, sym q.1 ∙ ap (λ (h : List Entry). h ++ q.0) is)

  -- ---- from one by one to all

  pub all_kept : (olds news : List (DeskState L)) → length news ≡ length olds → All (λ (d : DeskState L). IsFreshPass first d.pass) olds
      → ((i : ℕ) (d : DeskState L) → i < length olds → DeskKept tells known plan links (slice_index_or olds i d) (slice_index_or news i d))
      → All (λ (d : DeskState L). IsPrefix d.pass.seen list) news → AllKept tells known plan first list links olds news
  all_kept [] [] same fresh each seen = tt
  all_kept [] (n ∷ news) same fresh each seen = absurd (omega (arith, same))
  all_kept (o ∷ olds) [] same fresh each seen = absurd (omega (arith, same))
  all_kept (o ∷ olds) (n ∷ news) same fresh each seen = (
    All-head (λ (d : DeskState L). IsFreshPass first d.pass) o olds fresh,
    each zero o (omega arith),
    All-head (λ (d : DeskState L). IsPrefix d.pass.seen list) n news seen,
    all_kept olds news (omega (arith, same)) (All-tail (λ (d : DeskState L). IsFreshPass first d.pass) o olds fresh) (λ i d low. each (suc i) d (omega (arith, low)))
        (All-tail (λ (d : DeskState L). IsPrefix d.pass.seen list) n news seen),
  )

-- ---- the run

module _ {L : Type 0} (tells : L → LinkTells) (known : Bool) (plan : Plan) (opening : List Entry) (list : List TaggedEntry) (links : ℕ) (olds news : List (DeskState L)) (kept : PassState) (before now : ℕ)
    (all : AllKept tells known plan (length opening) list links olds news) (is : entries_of kept.seen ≡ opening) (has : HasFirst (length opening) kept.places) (front : IsPrefix kept.seen list)
    (closes : Closes list (receipts_of kept ∷ map receipts_of (map (λ (d : DeskState L). d.pass) news))) where
  pub serve_ran : IsSoundState (record { plan = plan; entries = entries_of list }) → RoseBy (faults_in (map receipts_of (map (λ (d : DeskState L). d.pass) news))) before now
      → (faults_in (map receipts_of (map (λ (d : DeskState L). d.pass) news)) ≡ 0 → now ≡ before)
      → ServeRan tells known plan opening (entries_of list) links before now (map door_of olds) (map door_of news)
  serve_ran sound rose quiet =
      let on = goes_on tells known plan (length opening) list links kept.seen opening is front in
      record {
        later = on.0;
        goes_on = on.1;
        sound = sound;
        doors = doors_ran tells known plan (length opening) list links olds news kept all has closes;
        faults = faults_ran tells known plan (length opening) list links olds news kept all has closes before now rose;
        quiet = λ none. quiet (none_said tells known plan (length opening) list links olds news kept all has closes none);
      }

  pub serve_none : (sound : IsSoundState (record { plan = plan; entries = entries_of list })) (rose : RoseBy (faults_in (map receipts_of (map (λ (d : DeskState L). d.pass) news))) before now)
      (quiet : faults_in (map receipts_of (map (λ (d : DeskState L). d.pass) news)) ≡ 0 → now ≡ before)
      → faults_said (serve_ran sound rose quiet).doors.talks ≡ 0 → faults_in (map receipts_of (map (λ (d : DeskState L). d.pass) news)) ≡ 0
  unfolding serve_ran
  serve_none sound rose quiet none = none_said tells known plan (length opening) list links olds news kept all has closes none

  pub serve_failed : (sound : IsSoundState (record { plan = plan; entries = entries_of list })) (rose : RoseBy (faults_in (map receipts_of (map (λ (d : DeskState L). d.pass) news))) before now)
      (quiet : faults_in (map receipts_of (map (λ (d : DeskState L). d.pass) news)) ≡ 0 → now ≡ before)
      → failed_calls (map (λ (d : DeskState L). d.pass) news) ≡ failed_said (serve_ran sound rose quiet).doors.talks
  unfolding serve_ran
  serve_failed sound rose quiet = failed_ran tells known plan (length opening) list links olds news kept all has closes
