-- What the cause of an opening that succeeded tells.
use Rattle.std.proofs.Common.{◌≡◌, ℕ, Ok, inl, inr}
use Rattle.cf_journal.specs.Answers.{HasDiskCause}

-- a call that succeeded has the cause of one that it made ..
pub ok_cause : {T U E F : Type 0} (x : T) (y : U) (e : E) (f : F) (before now : ℕ) → HasDiskCause e before now (Ok x) → HasDiskCause f before now (Ok y)
ok_cause x y e f before now cause = record {
  later = cause.later;
  failed = λ failed. absurd (cc failed);
  quiet = elim cause.quiet [
    | inl failed ↦ absurd (cc failed)
    | inr same ↦ inr same
  ];
}

-- .. and its count of faults stands as it was
pub ok_quiet : {T E : Type 0} (x : T) (e : E) (before now : ℕ) → HasDiskCause e before now (Ok x) → now ≡ before
ok_quiet x e before now cause = elim cause.quiet [
  | inl failed ↦ absurd (cc failed)
  | inr same ↦ same
]
