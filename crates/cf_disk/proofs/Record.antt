-- One call more in the record of a disk in memory.
use Rattle.std.proofs.Common.{◌≡◌, ◌⊎◌, inl, inr, ℕ, ◌+◌, ◌<◌, ◌≤◌, List, [], ◌∷◌, ◌++◌, length, sym, ◌∙◌, ap, subst, arith, length-append, Bool, true, false, reverse}
use Rattle.cf_base.proofs.Common.{take_all, take-append-le, reverse-append, cases_lt}
use Rattle.cf_disk.specs.Images.{AddsNone}
use Rattle.cf_disk.specs.Memory.{IsImageAfter, IsImageOf, WasImageOf}
use Rattle.cf_disk.specs.MemoryLaws.{content_is_image}
use Rattle.cf_disk.specs.MemoryView.{AddsCall}
use Rattle.cf_disk.specs.Moments.{Advances}
use Rattle.cf_disk.specs.declared.memory.DiskCall.{DiskCall}
use Rattle.cf_disk.specs.declared.memory.DiskCall.TheVariants.{Sync}
use Rattle.cf_disk.specs.declared.memory.MemDisk.{MemDisk}

module _ (first : List ℕ) (calls : List DiskCall) (call : DiskCall) where
  abbrev longer : List DiskCall
  longer = calls ++ call ∷ []

  length-longer : length longer ≡ length calls + 1
  length-longer = length-append calls (call ∷ [])

  earlier : (t : ℕ) (image : List ℕ) (was : WasImageOf first longer t image) → was.at ≤ length calls → WasImageOf first calls t image
  earlier t image was le = record {
    at = was.at;
    from = was.from;
    to = le;
    then = subst (λ (cs : List DiskCall). IsImageOf first cs image) (take-append-le was.at calls (call ∷ []) le) was.then;
  }

  latest : (t : ℕ) (image : List ℕ) (was : WasImageOf first longer t image) → length calls < was.at → IsImageOf first longer image
  latest t image was gt = subst (λ (cs : List DiskCall). IsImageOf first cs image) (take_all was.at longer (omega (arith, length-longer))) was.then

  split : (t : ℕ) (image : List ℕ) → WasImageOf first longer t image → WasImageOf first calls t image ⊎ IsImageOf first longer image
  split t image was = elim (cases_lt (length calls) was.at) [ inl gt ↦ inr (latest t image was gt) | inr le ↦ inl (earlier t image was le) ]

  keep : (t : ℕ) (image : List ℕ) → WasImageOf first calls t image → WasImageOf first longer t image
  keep t image was = record {
    at = was.at;
    from = was.from;
    to = omega (arith, was.to, length-longer);
    then = subst (λ (cs : List DiskCall). IsImageOf first cs image) (sym (take-append-le was.at calls (call ∷ []) was.to)) was.then;
  }

abbrev Steps : (old new : MemDisk) → Type 0
Steps old new = Advances (λ (m : MemDisk). length m.calls.items) (λ m image. IsImageOf m.first.items m.calls.items image) (λ m t image. WasImageOf m.first.items m.calls.items t image) old new

abbrev Moves : List ℕ → List DiskCall → List ℕ → List DiskCall → Type 0
Moves first calls first' calls' =
    (length calls ≤ length calls') × ((t : ℕ) (image : List ℕ) → t ≤ length calls → WasImageOf first' calls' t image → WasImageOf first calls t image ⊎ IsImageOf first' calls' image)
    × ((t : ℕ) (image : List ℕ) → t ≤ length calls → WasImageOf first calls t image → WasImageOf first' calls' t image)

moves_to : (first : List ℕ) (calls : List DiskCall) (call : DiskCall) → Moves first calls first (calls ++ call ∷ [])
moves_to first calls call = (omega (arith, length-longer first calls call), λ t image le was. split first calls call t image was, λ t image le was. keep first calls call t image was)

-- the record has a call more
pub advances_to : (old new : MemDisk) (call : DiskCall) → new.first.items ≡ old.first.items → new.calls.items ≡ old.calls.items ++ call ∷ [] → Steps old new
advances_to old new call same added =
    let moves = subst (λ (cs : List DiskCall). Moves old.first.items old.calls.items new.first.items cs) (sym added)
    (subst (λ (first : List ℕ). Moves old.first.items old.calls.items first (old.calls.items ++ call ∷ [])) (sym same) (moves_to old.first.items old.calls.items call)) in
    record { later = moves.0; no_more = moves.1; keeps = moves.2 }

after_sync : (first : List ℕ) (earlier : List DiskCall) (held : Bool) → AddsNone (IsImageAfter first earlier) (IsImageAfter first (Sync held ∷ earlier))
after_sync first earlier true = λ image is. subst (λ (i : List ℕ). IsImageAfter first earlier i) (sym is) (content_is_image first earlier)
after_sync first earlier false = λ image is. is

-- a sync adds no image
pub sync_adds_none : (old new : MemDisk) (held : Bool) → AddsCall old new (Sync held) → AddsNone (IsImageOf old.first.items old.calls.items) (IsImageOf new.first.items new.calls.items)
sync_adds_none old new held adds =
    let newest : reverse new.calls.items ≡ Sync held ∷ reverse old.calls.items = ap (λ (cs : List DiskCall). reverse cs) adds.calls ∙ reverse-append old.calls.items (Sync held ∷ []) in
    λ image is.
    after_sync old.first.items (reverse old.calls.items) held image
    (subst (λ (cs : List DiskCall). IsImageAfter old.first.items cs image) newest (subst (λ (first : List ℕ). IsImageAfter first (reverse new.calls.items) image) adds.first is))
