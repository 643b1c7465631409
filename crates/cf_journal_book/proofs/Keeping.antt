-- A book's journal goes on keeping its history.
use Rattle.std.proofs.Common.{◌≡◌, ℕ, Bool, true, false, List, [], ◌∷◌, ◌++◌, Option, Some, None, IfSome, sym, subst, inl, inr, refl, arith}
use Rattle.cf_model.specs.Common.{Entry, Adds}
use Rattle.cf_chart.specs.Common.{Plan}
use Rattle.cf_disk.specs.Moments.{AtEachMoment}
use Rattle.cf_journal.specs.Journal.{SamePlace, IsSettled, IsInDoubt, in_doubt}
use Rattle.cf_journal.specs.Layout.{RecoversToEither}
use Rattle.cf_journal.specs.declared.journal.Journal.{Journal}
use Rattle.cf_journal.proofs.Keeping.{settled_kept, doubt_kept}
use Rattle.cf_journal.proofs.Moments.{weaken, both}
use Rattle.cf_model.proofs.Common.{legal_push}
use Rattle.cf_journal_book.specs.Books.{Keeps, IsKept, IsDoubtAfter, FramesNear}

adds_after : (plan : Plan) (h : List Entry) (before doubt : Option Entry) (e : Entry) → IfSome before (Adds plan h) → Adds plan h e → IsDoubtAfter before e doubt → IfSome doubt (Adds plan h)
adds_after plan h before doubt e b a (inl is) = subst (λ (o : Option Entry). IfSome o (Adds plan h)) (sym is) b
adds_after plan h before doubt e b a (inr (inl is)) = subst (λ (o : Option Entry). IfSome o (Adds plan h)) (sym is) tt
adds_after plan h before doubt e b a (inr (inr is)) = subst (λ (o : Option Entry). IfSome o (Adds plan h)) (sym is) a

module _ {D : Type 0} (tells : Bool) (is_image : D → List ℕ → Type 0) where
  pub keeps_same : (old new : Journal) (disk : D) (chart : List ℕ) (h : List Entry) (doubt : Option Entry) → SamePlace old new → Keeps tells is_image old disk chart h doubt → Keeps tells is_image new disk chart h doubt
  keeps_same old new disk chart h None same k = settled_kept tells is_image old new disk chart h same k
  keeps_same old new disk chart h (Some e) same k = doubt_kept tells is_image old new disk chart h same e k

  -- the same office, by equal values
  kept_at : (plan plan' : Plan) (h h' : List Entry) (journal : Journal) (disk : D) (chart : List ℕ) (doubt : Option Entry) → plan' ≡ plan → h' ≡ h → IsKept tells is_image plan h journal disk chart doubt → IsKept tells is_image plan' h' journal disk chart doubt
  kept_at plan plan' h h' journal disk chart doubt p e k =
      subst (λ (q : Plan). IsKept tells is_image q h' journal disk chart doubt) (sym p)
      (subst (λ (x : List Entry). IsKept tells is_image plan x journal disk chart doubt) (sym e) k)

  -- memory was taken and nothing else moved
  pub kept_same : (plan plan' : Plan) (h h' : List Entry) (old new : Journal) (disk : D) (chart : List ℕ) (doubt : Option Entry) → plan' ≡ plan → h' ≡ h → SamePlace old new
      → IsKept tells is_image plan h old disk chart doubt → IsKept tells is_image plan' h' new disk chart doubt
  kept_same plan plan' h h' old new disk chart doubt p e same k = kept_at plan plan' h h' new disk chart doubt p e (record {
    legal = k.legal;
    states = k.states;
    kept = keeps_same old new disk chart h doubt same k.kept;
    adds = k.adds;
  })

  -- a write failed
  pub kept_failed : (plan plan' : Plan) (h h' : List Entry) (first old new : Journal) (disk disk' : D) (chart : List ℕ) (doubt after : Option Entry) (e : Entry) → plan' ≡ plan → h' ≡ h → SamePlace first old → Adds plan h e
      → ((c : List ℕ) (x : List Entry) → Keeps tells is_image old disk c x doubt → Keeps tells is_image new disk' c x after) → IsDoubtAfter doubt e after
      → IsKept tells is_image plan h first disk chart doubt → IsKept tells is_image plan' h' new disk' chart after
  kept_failed plan plan' h h' first old new disk disk' chart doubt after e p hs same adds fails which k = kept_at plan plan' h h' new disk' chart after p hs (record {
    legal = k.legal;
    states = k.states;
    kept = fails chart h (keeps_same first old disk chart h doubt same k.kept);
    adds = adds_after plan h doubt after e k.adds adds which;
  })

  -- the entry stands on the disk, and was added
  pub kept_added : (plan plan' : Plan) (h h' : List Entry) (first old new : Journal) (disk disk' : D) (chart : List ℕ) (doubt after : Option Entry) (e : Entry) → plan' ≡ plan → h' ≡ h ++ e ∷ [] → SamePlace first old → Adds plan h e
      → ((c : List ℕ) (x : List Entry) → Keeps tells is_image old disk c x doubt → Keeps tells is_image new disk' c (x ++ e ∷ []) after) → after ≡ None
      → IsKept tells is_image plan h first disk chart doubt → IsKept tells is_image plan' h' new disk' chart after
  kept_added plan plan' h h' first old new disk disk' chart doubt after e p hs same adds writes none k = kept_at plan plan' (h ++ e ∷ []) h' new disk' chart after p hs (record {
    legal = legal_push plan h e k.legal adds;
    states = k.states;
    kept = writes chart h (keeps_same first old disk chart h doubt same k.kept);
    adds = subst (λ (o : Option Entry). IfSome o (Adds plan (h ++ e ∷ []))) (sym none) tt;
  })

  -- ---- mending and appending

  -- where something is
  pub doubt_is : (journal : Journal) (disk : D) (chart : List ℕ) (h : List Entry) (doubt : Option Entry) → in_doubt journal ≡ true → Keeps tells is_image journal disk chart h doubt
      → (e : Entry) × (doubt ≡ Some e) × IsInDoubt tells is_image journal disk chart h e
  doubt_is journal disk chart h None is k = absurd (let clear : in_doubt journal ≡ false = k.clear in cc)
  doubt_is journal disk chart h (Some e) is k = (e, refl, k)

  pub settled_keeps : (journal : Journal) (disk : D) (chart : List ℕ) (h : List Entry) (doubt : Option Entry) → doubt ≡ None → IsSettled tells is_image journal disk chart h → Keeps tells is_image journal disk chart h doubt
  settled_keeps journal disk chart h doubt is k = subst (Keeps tells is_image journal disk chart h) (sym is) k

-- ---- at each moment

pub near_either : (chart : List ℕ) (h : List Entry) (P : Entry → Type 0) (e : Entry) (image : List ℕ) → P e → RecoversToEither chart h e image → FramesNear chart h P image
near_either chart h P e image p (inl without) = inl without
near_either chart h P e image p (inr with) = inr (e, p, with)

pub near_weaker : (chart : List ℕ) (h : List Entry) (P Q : Entry → Type 0) (image : List ℕ) → ((e : Entry) → P e → Q e) → FramesNear chart h P image → FramesNear chart h Q image
near_weaker chart h P Q image follows (inl without) = inl without
near_weaker chart h P Q image follows (inr with) = inr (with.0, follows with.0 with.1, with.2)

module _ {D : Type 0} (moment : D → ℕ) (was_image : D → ℕ → List ℕ → Type 0) where
  -- nothing was done to the disk
  pub at_rest : (disk : D) (P : List ℕ → Type 0) → ((image : List ℕ) → was_image disk (moment disk) image → P image) → AtEachMoment moment was_image disk disk P
  at_rest disk P now = record { later = omega arith; images = now; since = λ t image le was. inl was }

  pub joined : (old mid new : D) (P Q R : List ℕ → Type 0) → AtEachMoment moment was_image old mid P → AtEachMoment moment was_image mid new Q → ((image : List ℕ) → P image → R image) → ((image : List ℕ) → Q image → R image)
      → AtEachMoment moment was_image old new R
  joined old mid new P Q R first second p q = both moment was_image old mid new R (weaken moment was_image old mid P R first p) (weaken moment was_image mid new Q R second q)
