-- A legal history is taken again whole, and what is taken again whole is legal.
use Rattle.std.proofs.Common.{◌≡◌, ℕ, ◌+◌, Bool, true, false, if◌then◌else◌, List, [], ◌∷◌, ◌++◌, length, Option, Some, None, IfSome, Ok, refl, ap, subst, inl, inr, IsTrue, arith, eq-eqb}
use Rattle.cf_model.specs.Common.{Drawn, Entry, Verdict, Accept, Repeat, Refuse, Adds, IsLegal, IsLegalAfter, verdict_of, IsSoundState}
use Rattle.cf_calls.specs.Common.{IsEntryInForm}
use Rattle.cf_chart.specs.Common.{Plan, chart_of}
use Rattle.cf_journal.specs.Layout.{RecoversTo as FramesTo}
use Rattle.cf_journal.specs.Records.{record_len}
use Rattle.cf_journal.specs.Journal.{count_of}
use Rattle.cf_journal.specs.declared.journal.Journal.{Journal}
use Rattle.cf_model.proofs.Common.{legal_push, IsWhole}
use Rattle.cf_office.proofs.Sound.{sound_push}
use Rattle.cf_disk.specs.Moments.{AtEachMoment}
use Rattle.cf_journal_book.specs.Books.{Keeps, IsKept, FramesNear, RecoversNear}
use Rattle.cf_journal_book.specs.Recovery.{is_same_drawn, refusal_by, entry_refusal, first_refused, RecoversTo}

same_drawn : (d : Drawn) → is_same_drawn d d ≡ true
same_drawn d = rw (eq-eqb d.number d.number refl, eq-eqb d.second d.second refl) refl

pub added_again : (plan : Plan) (before : List Entry) (e : Entry) → Adds plan before e → entry_refusal plan before e ≡ None
added_again plan before e adds = rw (adds.accepts, same_drawn e.drawn) refl

legal_again : (plan : Plan) (before : List Entry) (at : ℕ) (later : List Entry) → IsLegalAfter plan before later → first_refused plan before at later ≡ None
unfolding first_refused
legal_again plan before at [] legal = refl
legal_again plan before at (e ∷ later) legal =
    let here : entry_refusal plan before e ≡ None = added_again plan before e legal.0 in
    let more : first_refused plan (before ++ e ∷ []) (at + record_len e) later ≡ None = legal_again plan (before ++ e ∷ []) (at + record_len e) later legal.1 in
    rw (here, more) refl

-- so its frames recover to it
pub legal_recovers : (plan : Plan) (chart : List ℕ) (entries : List Entry) (image : List ℕ) → chart_of chart ≡ Ok plan → IsLegal plan entries → FramesTo chart entries image → RecoversTo plan entries image
legal_recovers plan chart entries image states legal is = rw (is, states, legal_again plan [] (6 + length chart) entries legal) refl

-- ---- one entry more

-- an entry in form that is taken again is one that the step adds
pub taken_adds : (plan : Plan) (before : List Entry) (e : Entry) → IsEntryInForm e → entry_refusal plan before e ≡ None → Adds plan before e
taken_adds plan before e form none = record { form = form.change; after = form.no_after; accepts = by_verdict (verdict_of plan before e.change) none }
  where
    equal : (a b : Drawn) → is_same_drawn a b ≡ true → a ≡ b
    equal a b same =
        let number : a.number ≡ b.number = grind arith in
        let second : a.second ≡ b.second = grind arith in
        λ i. record { number = number i; second = second i }

    by_drawn : (d : Drawn) (same : Bool) → is_same_drawn d e.drawn ≡ same → (let r : Option ℕ = if same then None else Some 0 in r) ≡ None → Accept d ≡ Accept e.drawn
    by_drawn d true same none = ap Accept (equal d e.drawn same)
    by_drawn d false same none = cc

    by_verdict : (v : Verdict) → refusal_by e.drawn v ≡ None → v ≡ Accept e.drawn
    by_verdict (Accept d) none = by_drawn d (is_same_drawn d e.drawn) refl none
    by_verdict (Repeat was) none = cc
    by_verdict (Refuse r) none = cc

-- the entries behind it
pub next_refused : (plan : Plan) (before : List Entry) (at : ℕ) (e : Entry) (later : List Entry) → entry_refusal plan before e ≡ None
    → first_refused plan before at (e ∷ later) ≡ first_refused plan (before ++ e ∷ []) (at + record_len e) later
unfolding first_refused
next_refused plan before at e later none = rw none refl

pub here_refused : (plan : Plan) (before : List Entry) (at : ℕ) (e : Entry) (later : List Entry) (n : ℕ) → entry_refusal plan before e ≡ Some n → first_refused plan before at (e ∷ later) ≡ Some (at, n)
unfolding first_refused
here_refused plan before at e later n some = rw some refl

pub none_refused : (plan : Plan) (before : List Entry) (at : ℕ) → first_refused plan before at [] ≡ None
unfolding first_refused
none_refused plan before at = refl

-- ---- what a crash leaves of a book's disk

-- frames that are near the history recover near it
pub recovers_near : (plan : Plan) (chart : List ℕ) (h : List Entry) (P Q : Entry → Type 0) (image : List ℕ) → chart_of chart ≡ Ok plan → IsLegal plan h → ((e : Entry) → P e → Adds plan h e) → ((e : Entry) → P e → Q e)
    → FramesNear chart h P image → RecoversNear plan h Q image
recovers_near plan chart h P Q image states legal adds follows (inl without) = inl (legal_recovers plan chart h image states legal without)
recovers_near plan chart h P Q image states legal adds follows (inr with) =
    inr (with.0, follows with.0 with.1, legal_recovers plan chart (h ++ with.0 ∷ []) image states (legal_push plan h with.0 legal (adds with.0 with.1)) with.2)

-- the entry in doubt is one that the step would add
pub doubt_adds : (plan : Plan) (h : List Entry) (doubt : Option Entry) (e : Entry) → IfSome doubt (Adds plan h) → doubt ≡ Some e → Adds plan h e
doubt_adds plan h doubt e adds is = subst (λ (o : Option Entry). IfSome o (Adds plan h)) is adds

-- so the history is sound with it too
pub doubt_sound : (plan : Plan) (h : List Entry) (doubt : Option Entry) → IsWhole plan → IsLegal plan h → IfSome doubt (Adds plan h) → IfSome doubt (λ e. IsSoundState (record { plan = plan; entries = h ++ e ∷ [] }))
doubt_sound plan h None whole legal adds = tt
doubt_sound plan h (Some e) whole legal adds = sound_push plan h e whole legal adds

module _ {D : Type 0} (tells : Bool) (is_image : D → List ℕ → Type 0) where
  pub keeps_count : (journal : Journal) (disk : D) (chart : List ℕ) (h : List Entry) (doubt : Option Entry) → Keeps tells is_image journal disk chart h doubt → count_of journal ≡ length h
  keeps_count journal disk chart h None kept = kept.stands.count
  keeps_count journal disk chart h (Some e) kept = kept.stands.count

  pub kept_count : (plan : Plan) (h : List Entry) (journal : Journal) (disk : D) (chart : List ℕ) (doubt : Option Entry) → IsKept tells is_image plan h journal disk chart doubt → count_of journal ≡ length h
  kept_count plan h journal disk chart doubt kept = keeps_count journal disk chart h doubt kept.kept

  keeps_near : (journal : Journal) (disk : D) (chart : List ℕ) (h : List Entry) (doubt : Option Entry) → Keeps tells is_image journal disk chart h doubt → IsTrue tells → (image : List ℕ) → is_image disk image
      → FramesNear chart h (λ e. doubt ≡ Some e) image
  keeps_near journal disk chart h None kept t image is = inl (kept.images t image is).recovers
  keeps_near journal disk chart h (Some e) kept t image is = elim ((kept.images t image is).recovers) [
    | inl without ↦ inl without
    | inr with ↦ inr (e, refl, with)
  ]

  -- the history, or it and the entry in doubt
  pub images_recover : (plan : Plan) (h : List Entry) (journal : Journal) (disk : D) (chart : List ℕ) (doubt : Option Entry) → IsKept tells is_image plan h journal disk chart doubt → IsTrue tells → (image : List ℕ) → is_image disk image
      → RecoversNear plan h (λ e. doubt ≡ Some e) image
  images_recover plan h journal disk chart doubt kept t image is =
      recovers_near plan chart h (λ e. doubt ≡ Some e) (λ e. doubt ≡ Some e) image kept.states kept.legal (λ e d. doubt_adds plan h doubt e kept.adds d) (λ e d. d) (keeps_near journal disk chart h doubt kept.kept t image is)

  -- a call that leaves the disk
  pub still_near : (moment : D → ℕ) (was_image : D → ℕ → List ℕ → Type 0) (only_now : (disk : D) (image : List ℕ) → was_image disk (moment disk) image → is_image disk image)
      → (plan : Plan) (h : List Entry) (journal : Journal) (disk : D) (chart : List ℕ) (doubt : Option Entry) (P : Entry → Type 0) → IsKept tells is_image plan h journal disk chart doubt → ((e : Entry) → doubt ≡ Some e → P e)
      → IsTrue tells → AtEachMoment moment was_image disk disk (RecoversNear plan h P)
  still_near moment was_image only_now plan h journal disk chart doubt P kept follows t = record {
    later = omega arith;
    images = λ image was. recovers_near plan chart h (λ e. doubt ≡ Some e) P image kept.states kept.legal (λ e d. doubt_adds plan h doubt e kept.adds d) follows (keeps_near journal disk chart h doubt kept.kept t image (only_now disk image was));
    since = λ t' image le was. inl was;
  }
