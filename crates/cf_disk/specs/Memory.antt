-- What a disk in memory holds, and what a crash may leave, by the record of its calls.
use Rattle.std.specs.Prelude.{◌≡◌, ℕ, ◌≤◌, List, [], ◌∷◌, ◌++◌, length, take, reverse, true, false, Vec}
use Rattle.std.specs.declared.alloc.Global.{Global}
use Rattle.cf_disk.specs.Images.{written, resized, Torn, HalfCut}
use Rattle.cf_disk.specs.declared.memory.DiskCall.{DiskCall}
use Rattle.cf_disk.specs.declared.memory.DiskCall.TheVariants.{Len, Read, Write, Cut, Sync}

-- what a read gives after these calls, the newest first
abbrev pub content_after : List ℕ → List DiskCall → List ℕ
content_after first [] = first
content_after first (Len ∷ earlier) = content_after first earlier
content_after first (Read at len ∷ earlier) = content_after first earlier
content_after first (Write at piece ∷ earlier) =
    written at piece.items (content_after first earlier)
content_after first (Cut len ∷ earlier) = resized len (content_after first earlier)
content_after first (Sync held ∷ earlier) = content_after first earlier

-- what a crash may leave after these calls, the newest first
abbrev pub IsImageAfter : List ℕ → List DiskCall → List ℕ → Type 0
IsImageAfter first [] image = image ≡ first
IsImageAfter first (Len ∷ earlier) image = IsImageAfter first earlier image
IsImageAfter first (Read at len ∷ earlier) image = IsImageAfter first earlier image
IsImageAfter first (Write at piece ∷ earlier) image = (old : List ℕ)
    × IsImageAfter first earlier old × Torn at (length piece.items) old image
IsImageAfter first (Cut len ∷ earlier) image = (old : List ℕ) × IsImageAfter first earlier old
    × HalfCut len old image
IsImageAfter first (Sync true ∷ earlier) image = image ≡ content_after first earlier
IsImageAfter first (Sync false ∷ earlier) image = IsImageAfter first earlier image

-- the same after all calls of a record, the oldest first
abbrev pub IsImageOf : List ℕ → List DiskCall → List ℕ → Type 0
IsImageOf first calls image = IsImageAfter first (reverse calls) image

-- at some moment from the call of number t on
pub record WasImageOf (first : List ℕ) (calls : List DiskCall) (t : ℕ)
    (image : List ℕ) : Type 0 where
  pub at : ℕ
  pub from : t ≤ at
  pub to : at ≤ length calls
  pub then : IsImageOf first (take at calls) image

-- the record has the write of a piece more
pub record AddsWrite (at : ℕ) (piece : List ℕ) (old new : List DiskCall) : Type 0 where
  pub copy : Vec ℕ Global
  pub same : copy.items ≡ piece
  pub added : new ≡ old ++ Write at copy ∷ []

-- a call that changes no byte
abbrev pub IsStill : DiskCall → Type 0
IsStill call = (first : List ℕ) (earlier : List DiskCall)
    → content_after first (call ∷ earlier) ≡ content_after first earlier
