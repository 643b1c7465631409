-- What a reservation keeps.
use Rattle.std.proofs.Common.{ℕ, List, Bool, sym, subst, ◌∙◌}
use Rattle.cf_calls.specs.declared.entry.Entry.{Entry}
use Rattle.cf_codec.specs.Entries.{IsOf}
use Rattle.cf_journal.specs.Layout.{IsValid, IsAtRest, IsStaged}
use Rattle.cf_journal.specs.Journal.{IsSettled, IsInDoubt, SamePlace}
use Rattle.cf_journal.specs.declared.journal.Journal.{Journal}

module _ {D : Type 0} (tells : Bool) (is_image : D → List ℕ → Type 0) (old new : Journal) (disk : D) (chart : List ℕ) (history : List Entry) (same : SamePlace old new) where
  pub settled_kept : IsSettled tells is_image old disk chart history → IsSettled tells is_image new disk chart history
  settled_kept settled = record {
    clear = same.doubt ∙ settled.clear;
    stands = record { gate = same.gate ∙ settled.stands.gate; count = same.count ∙ settled.stands.count };
    valid = subst (λ (v : ℕ). IsValid v chart history) (sym same.version) settled.valid;
    images = λ told image is. subst (λ (v : ℕ). IsAtRest v chart history image) (sym same.version) (settled.images told image is);
  }

  pub doubt_kept : (entry : Entry) → IsInDoubt tells is_image old disk chart history entry → IsInDoubt tells is_image new disk chart history entry
  doubt_kept entry doubt = record {
    doubt = same.doubt ∙ doubt.doubt;
    stands = record { gate = same.gate ∙ doubt.stands.gate; count = same.count ∙ doubt.stands.count };
    valid = subst (λ (v : ℕ). IsValid v chart history) (sym same.version) doubt.valid;
    has = doubt.has;
    of = subst (λ (v : ℕ). IsOf v entry) (sym same.version) doubt.of;
    images = λ told image is. subst (λ (v : ℕ). IsStaged v chart history entry image) (sym same.version) (doubt.images told image is);
  }
