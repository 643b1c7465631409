-- How runs of calls join.
use Rattle.std.proofs.Common.{inl, inr, ⊎_elim, ℕ, List, arith}
use Rattle.cf_disk.specs.Moments.{AtEachMoment}

module _ {D : Type 0} (moment : D → ℕ) (was_image : D → ℕ → List ℕ → Type 0) where
  -- what each image has follows from what it has
  pub weaken : (old new : D) (P Q : List ℕ → Type 0) → AtEachMoment moment was_image old new P → ((image : List ℕ) → P image → Q image) → AtEachMoment moment was_image old new Q
  weaken old new P Q run follows = record {
    later = run.later;
    images = λ image was. follows image (run.images image was);
    since = λ t image le was. ⊎_elim (λ before. inl before) (λ p. inr (follows image p)) (run.since t image le was);
  }

  -- one run and then another
  pub both : (old mid new : D) (P : List ℕ → Type 0) → AtEachMoment moment was_image old mid P → AtEachMoment moment was_image mid new P → AtEachMoment moment was_image old new P
  both old mid new P first second = record {
    later = omega (arith, first.later, second.later);
    images = λ image was. ⊎_elim (first.images image) (λ p. p) (second.since (moment old) image first.later was);
    since = λ t image le was. ⊎_elim (first.since t image le) (λ p. inr p) (second.since t image (omega (arith, le, first.later)) was);
  }

  -- nothing was done
  pub unmoved : (disk : D) (P : List ℕ → Type 0) → ((image : List ℕ) → was_image disk (moment disk) image → P image) → AtEachMoment moment was_image disk disk P
  unmoved disk P now = record { later = omega arith; images = now; since = λ t image le was. inl was }
