-- A book that takes the entries of another one's history.
use Rattle.std.proofs.Common.{◌≡◌, ◌⊎◌, inl, inr, ℕ, ◌≤◌, IsTrue, List, [], ◌∷◌, ◌++◌, length, take, refl, sym, ◌∙◌, ap, subst, arith, append_assoc, length-append, Option, Some, None, IfSome, IsSome}
use Rattle.cf_base.proofs.Common.{append-nil, take_all, take_min, length-take, take-append-le, take-append_seam}
use Rattle.cf_journal_book.specs.Admitting.{Admits as BookAdmits}
use Rattle.cf_journal_book.specs.Books.{IsInHand, RecoversNear}
use Rattle.cf_journal_book.specs.DurableState.{DurableBook, DurableState, state_of}
use Rattle.cf_journal_book.specs.Recovery.{RecoversTo, entry_refusal}
use Rattle.cf_journal_book.specs.Settling.{DiskFails, WouldAdd, entry_by}
use Rattle.cf_journal_book.proofs.Recovering.{taken_adds}
use Rattle.cf_calls.specs.Common.{IsEntryInForm}
use Rattle.cf_calls.specs.declared.call.Call.TheVariants as call
use Rattle.cf_model.specs.Common.{Change, Drawn, Entry, Accept, verdict_of}
use Rattle.cf_chart.specs.Common.{Plan}
use Rattle.cf_disk.specs.Moments.{AtEachMoment}
use Rattle.cf_follow.specs.Admitting.{Admits}
use Rattle.cf_follow.specs.declared.follower.Admission.{Admission}
use Rattle.cf_follow.specs.declared.follower.Admission.TheVariants as said
use Rattle.cf_journal.proofs.Moments.{weaken, both}
use Rattle.cf_run_follow.specs.Copies.{IsReached, IsSince, RecoversToFrontOf, book_office, with_failed}
use Rattle.cf_run_status.specs.Devices.{Device}

-- ---- fronts

-- a front that has more entries at least
from_later : (plan plan' : Plan) (least later : ℕ) (h : List Entry) (image : List ℕ) → plan' ≡ plan → least ≤ later → RecoversToFrontOf plan' later h image → RecoversToFrontOf plan least h image
from_later plan plan' least later h image same le f = subst (λ (p : Plan). RecoversToFrontOf p least h image) same (f.0, omega (arith, le, f.1), f.2)

same_front : (h x : List Entry) (n : ℕ) → take (length (take n h)) (h ++ x) ≡ take n h
same_front h x n = take-append-le (length (take n h)) h x (omega (arith, length-take n h)) ∙ ap (λ (k : ℕ). take k h) (length-take n h) ∙ take_min n h

-- a front of a history is one of a longer history
longer_front : (plan : Plan) (least : ℕ) (h x : List Entry) (image : List ℕ) → least ≤ length h → RecoversToFrontOf plan least h image → RecoversToFrontOf plan least (h ++ x) image
longer_front plan least h x image long f =
    (length (take f.0 h), omega (arith, long, f.1, length-take f.0 h), subst (λ (l : List Entry). RecoversTo plan l image) (sym (same_front h x f.0)) f.2)

-- what stands behind a front of a history
behind : (h more : List Entry) (failed : Option Entry) → (x : List Entry) × (with_failed (h ++ more) failed ≡ h ++ x)
behind h more None = (more, refl)
behind h more (Some e) = (more ++ e ∷ [], append_assoc h more (e ∷ []))

-- ---- doubt

no_doubt : (failed doubt : Option Entry) → doubt ≡ None → IfSome doubt (λ e. failed ≡ Some e)
no_doubt failed doubt is = subst (λ (d : Option Entry). IfSome d (λ e. failed ≡ Some e)) (sym is) tt

doubt_none : (failed doubt : Option Entry) → failed ≡ None → IfSome doubt (λ e. failed ≡ Some e) → doubt ≡ None
doubt_none failed None none is = refl
doubt_none failed (Some e) none is = absurd (cc (is, none))

module _ {D : Type 0} (device : Device D) where
  -- ---- what holds since an earlier book

  since_same : (a : DurableBook D) → a.doubt ≡ None → IsSince device a a None
  since_same a clear = record { plan = refl; more = []; grows = sym (append-nil a.entries); doubt = no_doubt None a.doubt clear; any_moment = λ t. inl refl }

  module _ (a b c : DurableBook D) (failed : Option Entry) (p : IsSince device a b None) (q : IsSince device b c failed) where
    longest : length a.entries ≤ length b.entries
    longest = omega (arith, ap length p.grows, length-append a.entries p.more)

    abbrev Front : List ℕ → Type 0
    Front = RecoversToFrontOf a.plan (length a.entries) (with_failed c.entries failed)

    first : (image : List ℕ) → RecoversToFrontOf a.plan (length a.entries) b.entries image → Front image
    first image f =
        let x = behind b.entries q.more failed in
        let joins : with_failed c.entries failed ≡ b.entries ++ x.0 = ap (λ (h : List Entry). with_failed h failed) q.grows ∙ x.1 in
        subst (λ (h : List Entry). RecoversToFrontOf a.plan (length a.entries) h image) (sym joins) (longer_front a.plan (length a.entries) b.entries x.0 image longest f)

    second : (image : List ℕ) → RecoversToFrontOf b.plan (length b.entries) (with_failed c.entries failed) image → Front image
    second image f = from_later a.plan b.plan (length a.entries) (length b.entries) (with_failed c.entries failed) image p.plan longest f

    joined : (b.disk ≡ a.disk) ⊎ AtEachMoment device.moment device.was_image a.disk b.disk (RecoversToFrontOf a.plan (length a.entries) b.entries)
        → (c.disk ≡ b.disk) ⊎ AtEachMoment device.moment device.was_image b.disk c.disk (RecoversToFrontOf b.plan (length b.entries) (with_failed c.entries failed))
        → (c.disk ≡ a.disk) ⊎ AtEachMoment device.moment device.was_image a.disk c.disk Front
    joined (inl e) (inl f) = inl (f ∙ e)
    joined (inl e) (inr s) = inr (subst (λ (d : D). AtEachMoment device.moment device.was_image d c.disk Front) e (weaken device.moment device.was_image b.disk c.disk _ _ s second))
    joined (inr r) (inl f) = inr (subst (λ (d : D). AtEachMoment device.moment device.was_image a.disk d Front) (sym f) (weaken device.moment device.was_image a.disk b.disk _ _ r first))
    joined (inr r) (inr s) = inr (both device.moment device.was_image a.disk b.disk c.disk _ (weaken device.moment device.was_image a.disk b.disk _ _ r first) (weaken device.moment device.was_image b.disk c.disk _ _ s second))

    since_more : IsSince device a c failed
    since_more = record {
      plan = q.plan ∙ p.plan;
      more = p.more ++ q.more;
      grows = q.grows ∙ ap (λ (l : List Entry). l ++ q.more) p.grows ∙ append_assoc a.entries p.more q.more;
      doubt = q.doubt;
      any_moment = λ t. joined (p.any_moment t) (q.any_moment t);
    }

  -- what was reached by steps
  pub reached_since : (a b : DurableBook D) (failed : Option Entry) → a.doubt ≡ None → IsReached device a b failed → IsSince device a b failed
  reached_since a _ _ clear (IsReached.here _) = since_same a clear
  reached_since a _ _ clear (IsReached.more _ m b failed steps step) =
      let early : IsSince device a m None = reached_since a m None clear steps in
      since_more a m b failed early (step (doubt_none None m.doubt refl early.doubt))

  -- ---- one entry

  module _ (old new : DurableBook D) (e : Entry) (form : IsEntryInForm e) (none : entry_refusal old.plan old.entries e ≡ None) where
    -- the states of before and after
    abbrev before : DurableState
    before = state_of device.faults old

    abbrev after : DurableState
    after = state_of device.faults new

    same_drawn : (a b : Drawn) → Accept a ≡ Accept b → a ≡ b
    same_drawn a b is = cc is

    same_change : (a b : Change) → call.Change a ≡ call.Change b → a ≡ b
    same_change a b is = cc is

    -- the call of the entry would add that entry alone
    would_add : (x : Entry) → WouldAdd before (call.Change e.change) x → x ≡ e
    would_add x would =
        let change : e.change ≡ would.change = same_change e.change would.change would.called in
        let accepts : verdict_of old.plan old.entries e.change ≡ Accept would.drawn = ap (verdict_of old.plan old.entries) change ∙ would.accepts in
        let drawn : e.drawn ≡ would.drawn = same_drawn e.drawn would.drawn (sym (taken_adds old.plan old.entries e form none).accepts ∙ accepts) in
        would.entry ∙ ap (λ (c : Change). entry_by c would.drawn) (sym change) ∙ ap (entry_by e.change) (sym drawn)
        ∙ (λ i. record { change = record e.change { after = sym form.no_after i }; drawn = e.drawn })

    in_hand : old.doubt ≡ None → (x : Entry) → IsInHand before (call.Change e.change) x → x ≡ e
    in_hand clear x (inl was) = absurd (cc (was, clear))
    in_hand clear x (inr would) = would_add x would

    near_front : old.doubt ≡ None → (image : List ℕ) → RecoversNear old.plan old.entries (IsInHand before (call.Change e.change)) image → RecoversToFrontOf old.plan (length old.entries) (old.entries ++ e ∷ []) image
    near_front clear image (inl without) = (length old.entries, omega arith, subst (λ (h : List Entry). RecoversTo old.plan h image) (sym (take-append_seam old.entries (e ∷ []))) without)
    near_front clear image (inr with) =
        let longer : List Entry = old.entries ++ e ∷ [] in
        let whole : old.entries ++ with.0 ∷ [] ≡ take (length longer) longer = ap (λ (x : Entry). old.entries ++ x ∷ []) (in_hand clear with.0 with.1) ∙ sym (take_all (length longer) longer (omega arith)) in
        (length longer, omega (arith, length-append old.entries (e ∷ [])), subst (λ (h : List Entry). RecoversTo old.plan h image) whole with.2)

    module _ (near : IsTrue device.tells → AtEachMoment device.moment device.was_image old.disk new.disk (RecoversNear old.plan old.entries (IsInHand before (call.Change e.change)))) where
      since_wrote : (failed : Option Entry) (more : List Entry) → new.plan ≡ old.plan → new.entries ≡ old.entries ++ more → with_failed new.entries failed ≡ old.entries ++ e ∷ [] → IfSome new.doubt (λ x. failed ≡ Some x) → old.doubt ≡ None
          → IsSince device old new failed
      since_wrote failed more plan grows joins doubt clear = record {
        plan = plan;
        more = more;
        grows = grows;
        doubt = doubt;
        any_moment = λ t. inr (weaken device.moment device.was_image old.disk new.disk _ _ (near t) (λ image is.
            subst (λ (h : List Entry). RecoversToFrontOf old.plan (length old.entries) h image) (sym joins) (near_front clear image is)));
      }

      pub since_added : BookAdmits before e said.Added after → old.doubt ≡ None → IsSince device old new None
      since_added is clear =
          let grows : new.entries ≡ old.entries ++ e ∷ [] = ap (λ (x : DurableState). x.entries) is.1 in
          since_wrote None (e ∷ []) (ap (λ (x : DurableState). x.plan) is.1) grows grows (no_doubt None new.doubt (ap (λ (x : DurableState). x.doubt) is.1)) clear

      pub since_failed : DiskFails before (call.Change e.change) after → old.doubt ≡ None → IsSince device old new (Some e)
      since_failed fails clear =
          since_wrote (Some e) [] fails.plan (fails.entries ∙ sym (append-nil old.entries)) (ap (λ (h : List Entry). h ++ e ∷ []) fails.entries) (by_doubt fails.doubt) clear
        where
          by_doubt : (new.doubt ≡ old.doubt) ⊎ ((new.doubt ≡ None) ⊎ (new.doubt ≡ Some fails.entry)) → IfSome new.doubt (λ x. Some e ≡ Some x)
          by_doubt (inl stays) = no_doubt (Some e) new.doubt (stays ∙ clear)
          by_doubt (inr (inl gone)) = no_doubt (Some e) new.doubt gone
          by_doubt (inr (inr is)) = subst (λ (d : Option Entry). IfSome d (λ x. Some e ≡ Some x)) (sym is) (ap (λ (x : Entry). Some x) (sym (would_add fails.entry fails.would)))

  -- the same book, by its state and its disk
  same_book : (old new : DurableBook D) → state_of device.faults new ≡ state_of device.faults old → new.disk ≡ old.disk → new ≡ old
  same_book old new same disk = λ i. record {
    plan = ap (λ (x : DurableState). x.plan) same i;
    entries = ap (λ (x : DurableState). x.entries) same i;
    doubt = ap (λ (x : DurableState). x.doubt) same i;
    disk = disk i;
  }

  -- what the book says, as an office that follows
  pub admits_as : (old new : DurableBook D) (e : Entry) → IsEntryInForm e
      → (IsTrue device.tells → AtEachMoment device.moment device.was_image old.disk new.disk (RecoversNear old.plan old.entries (IsInHand (state_of device.faults old) (call.Change e.change))))
      → (s : Admission) → BookAdmits (state_of device.faults old) e s (state_of device.faults new)
      → (IsSome (entry_refusal old.plan old.entries e) → new.disk ≡ old.disk) → (s ≡ said.NoMemory → new.disk ≡ old.disk) → Admits (book_office device) old e new s
  admits_as old new e form near said.Added is refused memory = record {
    none = is.0;
    grows = ap (λ (x : DurableState). x.entries) is.1;
    quiet = ap (λ (x : DurableState). x.faults) is.1;
    since = IsReached.more old old new None (IsReached.here old) (since_added old new e form is.0 near is);
  }
  admits_as old new e form near (said.Refused n) is refused memory = (is.0, same_book old new is.1 (refused (subst IsSome (sym is.0) refl)))
  admits_as old new e form near said.NoMemory is refused memory = same_book old new is (memory refl)
  admits_as old new e form near said.Disk is refused memory = record {
    none = is.0;
    stays = is.1.entries;
    rose = is.1.rose;
    since = IsReached.more old old new (Some e) (IsReached.here old) (since_failed old new e form is.0 near is.1);
  }
