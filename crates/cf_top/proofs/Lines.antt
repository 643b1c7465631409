-- What a crash leaves at each moment of a line that is answered over a book.
use Rattle.std.proofs.Common.{◌≡◌, ◌⊎◌, ℕ, ◌≤◌, List, [], ◌∷◌, ◌++◌, Option, Some, None, IfSome, IsTrue, length, length-append, refl, sym, subst, ◌∙◌, inl, inr, ⊎_elim, arith, Contains}
use Rattle.cf_base.proofs.Common.{Contains-push}
use Rattle.cf_model.specs.Common.{Call, Entry, Posted, Reply}
use Rattle.cf_calls.specs.declared.reply.Posted.TheVariants as posted
use Rattle.cf_chart.specs.Common.{Plan}
use Rattle.cf_disk.specs.Moments.{AtEachMoment}
use Rattle.cf_journal.proofs.Moments.{weaken}
use Rattle.cf_journal_book.specs.Books.{IsInHand, RecoversNear}
use Rattle.cf_journal_book.specs.DurableState.{DurableState}
use Rattle.cf_journal_book.specs.Recovery.{RecoversTo}
use Rattle.cf_journal_book.specs.Settling.{Settles, WouldAdd}
use Rattle.cf_hall.specs.Fronts.{IsUnacknowledged, RecoversToFrontAnd}
use Rattle.cf_hall.proofs.Fronts.{doubt_on, longer_front, whole_front, would_next}
use Rattle.cf_run_status.specs.Devices.{Device}
use Rattle.cf_top.specs.Answers.{LineAnswer}
use Rattle.cf_top.specs.Clerks.{CallMoments, LineMoments}
use Rattle.cf_top.specs.Talks.{line_failed, settled_failed}
use Rattle.cf_top.proofs.Talking.{GoesOn, settled_on}

replied_disk : {r : Reply} → posted.Reply r ≡ posted.Disk → ⊥
replied_disk bad = cc

memory_disk : posted.NoMemory ≡ posted.Disk → ⊥
memory_disk bad = cc

-- a call that was answered by a fault of the disk is noted
failed_here : (s : DurableState) (c : Call) (given : Posted) (after : DurableState) (settles : Settles s c given after) → given ≡ posted.Disk → Contains (settled_failed c settles) c
failed_here s c given after (Settles.replied body says) is = absurd (replied_disk is)
failed_here s c given after Settles.memory is = absurd (memory_disk is)
failed_here s c given after (Settles.failed _ fails) is = Contains-push [] c

-- ---- fronts

-- the entry in hand is that of an accepted call, with which the history goes on, or one that stays
-- in doubt
near_after : (P : List Entry → Entry → Type 0) (s : DurableState) (c : Call) (least : ℕ) (given : Posted) (after : DurableState) (rest : List Entry) → least ≤ length s.entries → after.entries ≡ s.entries ++ rest
    → Settles s c given after → (given ≡ posted.NoMemory → ⊥) → (given ≡ posted.Disk → (e : Entry) → WouldAdd s c e → P s.entries e) → IfSome s.doubt (P s.entries)
    → (image : List ℕ) → RecoversNear s.plan s.entries (IsInHand s c) image → RecoversToFrontAnd s.plan least P after.entries image
near_after P s c least given after rest long grows settles some fails p image near = by_near near
  where
    stays : (h : List Entry) → h ≡ s.entries ++ rest → RecoversNear s.plan s.entries (P s.entries) image → RecoversToFrontAnd s.plan least P h image
    stays h is front = subst (λ (l : List Entry). RecoversToFrontAnd s.plan least P l image) (sym is) (longer_front s.plan least s.entries rest P image long (whole_front s.plan least s.entries P image long front))

    by_settled : (e : Entry) → WouldAdd s c e → RecoversTo s.plan (s.entries ++ e ∷ []) image → (given : Posted) (after : DurableState) → Settles s c given after → after.entries ≡ s.entries ++ rest → (given ≡ posted.NoMemory → ⊥)
        → (given ≡ posted.Disk → (x : Entry) → WouldAdd s c x → P s.entries x) → RecoversToFrontAnd s.plan least P after.entries image
    by_settled e would with given after (Settles.replied body is) grows some fails =
        let next = would_next s c e would in
        let longer : least ≤ length (s.entries ++ e ∷ []) = omega (arith, long, length-append s.entries (e ∷ [])) in
        subst (λ (h : List Entry). RecoversToFrontAnd s.plan least P h image) (sym next) (whole_front s.plan least (s.entries ++ e ∷ []) P image longer (inl with))
    by_settled e would with given after Settles.memory grows some fails = absurd (some refl)
    by_settled e would with given after (Settles.failed _ f) grows some fails = stays after.entries grows (inr (e, fails refl e would, with))

    by_near : RecoversNear s.plan s.entries (IsInHand s c) image → RecoversToFrontAnd s.plan least P after.entries image
    by_near (inl without) = stays after.entries grows (inl without)
    by_near (inr with) =
        ⊎_elim
        (λ (was : s.doubt ≡ Some with.0). stays after.entries grows (inr (with.0, subst (λ (o : Option Entry). IfSome o (P s.entries)) was p, with.2)))
        (λ (would : WouldAdd s c with.0). by_settled with.0 would with.2 given after settles grows some fails)
        with.1

-- ---- one line

-- what stays so: an entry in doubt, as one that a crash leaves beyond a front, is that of one of
-- these calls
pub record LineKept {D : Type 0} (device : Device D) (calls : List Call) (least : ℕ) (after : DurableState) (old new : D) : Type 0 where
  pub doubt : IfSome after.doubt (IsUnacknowledged after.plan None calls after.entries)
  pub moments : IsTrue device.tells → (new ≡ old)
      ⊎ AtEachMoment device.moment device.was_image old new (RecoversToFrontAnd after.plan least (IsUnacknowledged after.plan None calls) after.entries)

module _ {D : Type 0} (device : Device D) (calls : List Call) (least : ℕ) where
  call_kept : (s : DurableState) (c : Call) (given : Posted) (after : DurableState) (settles : Settles s c given after) (old new : D) → CallMoments device s c given old new → least ≤ length s.entries
      → ((k : Call) → Contains (settled_failed c settles) k → Contains calls k) → IfSome s.doubt (IsUnacknowledged s.plan None calls s.entries) → LineKept device calls least after old new
  call_kept s c given after settles old new m long within p = record {
    doubt = subst (λ (q : Plan). IfSome after.doubt (IsUnacknowledged q None calls after.entries)) (sym on.plan) (doubt_on (IsUnacknowledged s.plan None calls) (IsUnacknowledged s.plan None calls) same s c given after settles fails p);
    moments = λ t. by_given t given refl;
  }
    where
      same : (l : List Entry) (e : Entry) → IsUnacknowledged s.plan None calls l e → IsUnacknowledged s.plan None calls l e
      same l e is = is

      on : GoesOn s after
      on = settled_on s c given after settles

      fails : given ≡ posted.Disk → (e : Entry) → WouldAdd s c e → IsUnacknowledged s.plan None calls s.entries e
      fails is e would = inr (record { call = c; stands = within c (failed_here s c given after settles is); adds = would_next s c e would })

      some_memory : IsTrue device.tells → (given ≡ posted.NoMemory → ⊥) → (new ≡ old) ⊎ AtEachMoment device.moment device.was_image old new (RecoversToFrontAnd after.plan least (IsUnacknowledged after.plan None calls) after.entries)
      some_memory t some = inr (weaken device.moment device.was_image old new (RecoversNear s.plan s.entries (IsInHand s c)) (RecoversToFrontAnd after.plan least (IsUnacknowledged after.plan None calls) after.entries) (m.any_moment t)
          (λ image near. subst (λ (q : Plan). RecoversToFrontAnd q least (IsUnacknowledged q None calls) after.entries image) (sym on.plan)
          (near_after (IsUnacknowledged s.plan None calls) s c least given after on.later long on.entries settles some fails p image near)))

      by_given : IsTrue device.tells → (g : Posted) → given ≡ g → (new ≡ old) ⊎ AtEachMoment device.moment device.was_image old new (RecoversToFrontAnd after.plan least (IsUnacknowledged after.plan None calls) after.entries)
      by_given t (posted.Reply r) is = some_memory t (λ none. let bad : posted.Reply r ≡ posted.NoMemory = sym is ∙ none in cc)
      by_given t posted.Disk is = some_memory t (λ none. let bad : posted.Disk ≡ posted.NoMemory = sym is ∙ none in cc)
      by_given t posted.NoMemory is = inl (m.memory is)

  pub line_kept : (s : DurableState) (line answer : List ℕ) (after : DurableState) (says : LineAnswer s line answer after) (old new : D) → LineMoments device s line answer after says old new → least ≤ length s.entries
      → ((k : Call) → Contains (line_failed says) k → Contains calls k) → IfSome s.doubt (IsUnacknowledged s.plan None calls s.entries) → LineKept device calls least after old new
  line_kept s line answer after (LineAnswer.form f is) old new m long within p = record { doubt = p; moments = λ t. inl m }
  line_kept s line answer after (LineAnswer.call c given _ is settles) old new m long within p = call_kept s c given after settles old new m long within p
  line_kept s line answer after LineAnswer.memory old new m long within p = record { doubt = p; moments = λ t. inl m }
