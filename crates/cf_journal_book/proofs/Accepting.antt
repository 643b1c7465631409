-- An accepted change is written: what a crash leaves meanwhile.
use Rattle.std.proofs.Common.{◌≡◌, ℕ, Bool, List, Option, IsTrue, refl, sym, subst, ◌∙◌, inl, inr}
use Rattle.cf_calls.specs.declared.call.Call.TheVariants as call
use Rattle.cf_model.specs.Common.{Change, Drawn, Entry, Accept, Adds, verdict_of}
use Rattle.cf_calls.specs.Common.{IsChangeInForm}
use Rattle.cf_chart.specs.Common.{Plan}
use Rattle.cf_disk.specs.Moments.{AtEachMoment}
use Rattle.cf_journal.specs.Journal.{SamePlace}
use Rattle.cf_journal.specs.declared.journal.Journal.{Journal}
use Rattle.cf_journal.proofs.Moments.{weaken}
use Rattle.cf_model.proofs.Common.{adds_accepted}
use Rattle.cf_journal_book.specs.Books.{Keeps, IsKept, IsInHand, FramesNear, RecoversNear}
use Rattle.cf_journal_book.specs.DurableState.{DurableState}
use Rattle.cf_journal_book.specs.Settling.{entry_by}
use Rattle.cf_journal_book.specs.Snapshots.{IsOneOf}
use Rattle.cf_journal_book.proofs.Keeping.{keeps_same}
use Rattle.cf_journal_book.proofs.Recovering.{doubt_adds, recovers_near}

pub value_adds : (plan : Plan) (h : List Entry) (c : Change) (drawn : Drawn) (value : Entry) → IsChangeInForm c → verdict_of plan h c ≡ Accept drawn → value ≡ entry_by c drawn → Adds plan h value
value_adds plan h c drawn value form said is = subst (Adds plan h) (sym is) (adds_accepted plan h c drawn form said)

module _ {D : Type 0} (tells : Bool) (is_image : D → List ℕ → Type 0) (moment : D → ℕ) (was_image : D → ℕ → List ℕ → Type 0) where
  pub written_near : (plan : Plan) (h : List Entry) (first journal : Journal) (disk disk' : D) (chart : List ℕ) (doubt : Option Entry) (faults : ℕ) (c : Change) (drawn : Drawn) (value : Entry)
      → IsKept tells is_image plan h first disk chart doubt → SamePlace first journal → IsChangeInForm c → verdict_of plan h c ≡ Accept drawn → value ≡ entry_by c drawn
      → (IsTrue tells → (ch : List ℕ) (x : List Entry) → Keeps tells is_image journal disk ch x doubt → AtEachMoment moment was_image disk disk' (FramesNear ch x (IsOneOf doubt value)))
      → IsTrue tells → AtEachMoment moment was_image disk disk' (RecoversNear plan h (IsInHand (record { plan = plan; entries = h; doubt = doubt; faults = faults }) (call.Change c)))
  written_near plan h first journal disk disk' chart doubt faults c drawn value kept same form said is writes t =
      weaken moment was_image disk disk' (FramesNear chart h (IsOneOf doubt value)) (RecoversNear plan h (IsInHand s (call.Change c))) (writes t chart h (keeps_same tells is_image first journal disk chart h doubt same kept.kept))
      (λ image near. recovers_near plan chart h (IsOneOf doubt value) (IsInHand s (call.Change c)) image kept.states kept.legal adds hand near)
    where
      s : DurableState
      s = record { plan = plan; entries = h; doubt = doubt; faults = faults }

      adds : (e : Entry) → IsOneOf doubt value e → Adds plan h e
      adds e (inl d) = doubt_adds plan h doubt e kept.adds d
      adds e (inr v) = subst (Adds plan h) (sym v) (value_adds plan h c drawn value form said is)

      hand : (e : Entry) → IsOneOf doubt value e → IsInHand s (call.Change c) e
      hand e (inl d) = inl d
      hand e (inr v) = inr (record { change = c; drawn = drawn; called = refl; accepts = said; entry = v ∙ is })
