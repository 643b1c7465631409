-- What the record of a disk in memory gives, call by call.
use Rattle.std.specs.Prelude.{◌≡◌, ◌⊎◌, ℕ, ◌+◌, ◌-◌, ◌<◌, ◌≤◌, List, [], ◌∷◌, ◌++◌, length, take, drop, replicate, slice_index, true, false, refl}
use Rattle.std.proofs.Common.{sym, ◌∙◌, ap, subst, inl, inr, arith, get_or, length-append, length-drop}
use Rattle.std.proofs.lemmas.List.{take_all, length-take-le, length-replicate, get_or_append_left, get_or-take, get_or-drop, get_or-append_right}
use Rattle.cf_disk.specs.Images.{padded, written, resized, Torn, HalfCut}
use Rattle.cf_disk.specs.Memory.{content_after, IsImageAfter, IsImageOf, WasImageOf}
use Rattle.cf_disk.specs.declared.memory.DiskCall.{DiskCall}
use Rattle.cf_disk.specs.declared.memory.DiskCall.TheVariants.{Len, Read, Write, Cut, Sync}

pub length-padded : (n : ℕ) (bytes : List ℕ)
    → length (padded n bytes) ≡ length bytes + (n - length bytes)
length-padded n bytes = length-append bytes (replicate (n - length bytes) 0)
    ∙ ap (λ k. length bytes + k) (length-replicate (n - length bytes) 0)

pub front-padded : (n k : ℕ) (bytes : List ℕ) → k < length bytes
    → get_or (padded n bytes) k 0 ≡ get_or bytes k 0
front-padded n k bytes within = get_or_append_left bytes (replicate (n - length bytes) 0) 0 k within

module _ (at : ℕ) (piece old : List ℕ) where
  abbrev front : List ℕ
  front = take at (padded at old)

  pub length-front : length front ≡ at
  length-front = length-take-le at (padded at old) (omega (arith, length-padded at old))

  both : length (front ++ piece) ≡ at + length piece
  both = length-append front piece ∙ ap (λ k. k + length piece) length-front

  pub length-written : length (written at piece old)
      ≡ at + length piece + (length old - (at + length piece))
  length-written = length-append (front ++ piece) (drop (at + length piece) old)
      ∙ omega (arith, both, length-drop (at + length piece) old)

  pub before-written : (k : ℕ) → k < length old → k < at
      → slice_index (written at piece old) k ≡ slice_index old k
  before-written k within before =
      get_or_append_left (front ++ piece) (drop (at + length piece) old) 0 k (omega (arith, both))
      ∙ get_or_append_left front piece 0 k (omega (arith, length-front))
      ∙ get_or-take at (padded at old) k 0 before
      ∙ front-padded at k old within

  pub behind-written : (k : ℕ) → at + length piece ≤ k
      → slice_index (written at piece old) k ≡ slice_index old k
  behind-written k behind =
      let same : at + length piece + (k - (at + length piece)) ≡ k = omega arith in
      get_or-append_right (front ++ piece) (drop (at + length piece) old)
      (at + length piece) k 0 both behind
      ∙ get_or-drop (at + length piece) old (k - (at + length piece)) 0
      ∙ ap (λ (i : ℕ). get_or old i 0) same

  stays-written : (k : ℕ) → k < length old → (k < at) ⊎ (at + length piece ≤ k)
      → slice_index (written at piece old) k ≡ slice_index old k
  stays-written k within (inl before) = before-written k within before
  stays-written k within (inr behind) = behind-written k behind

  -- a write that is made is one of what a crash may leave of it
  pub torn-written : Torn at (length piece) old (written at piece old)
  torn-written = record {
    stays = stays-written;
    no_shorter = omega (arith, length-written);
    no_longer = omega (arith, length-written);
  }

pub length-resized : (n : ℕ) (old : List ℕ) → length (resized n old) ≡ n
length-resized n old = length-take-le n (padded n old) (omega (arith, length-padded n old))

pub half_cut-resized : (n : ℕ) (old : List ℕ) → HalfCut n old (resized n old)
half_cut-resized n old = record {
  stays = λ k short within. get_or-take n (padded n old) k 0 short ∙ front-padded n k old within;
  no_shorter = omega (arith, length-resized n old);
  no_longer = omega (arith, length-resized n old);
}

-- a disk as it reads is one of its images
pub content_is_image : (first : List ℕ) (calls : List DiskCall)
    → IsImageAfter first calls (content_after first calls)
content_is_image first [] = refl
content_is_image first (Len ∷ earlier) = content_is_image first earlier
content_is_image first (Read at len ∷ earlier) = content_is_image first earlier
content_is_image first (Write at piece ∷ earlier) = (
  content_after first earlier,
  content_is_image first earlier,
  torn-written at piece.items (content_after first earlier),
)
content_is_image first (Cut len ∷ earlier) = (
  content_after first earlier,
  content_is_image first earlier,
  half_cut-resized len (content_after first earlier),
)
content_is_image first (Sync true ∷ earlier) = refl
content_is_image first (Sync false ∷ earlier) = content_is_image first earlier

-- ---- moments

pub was_now : (first : List ℕ) (calls : List DiskCall) (t : ℕ) (image : List ℕ) → t ≤ length calls
    → IsImageOf first calls image → WasImageOf first calls t image
was_now first calls t image le now = record {
  at = length calls;
  from = le;
  to = omega arith;
  then = subst (λ (cs : List DiskCall). IsImageOf first cs image)
      (sym (take_all (length calls) calls (omega arith))) now;
}

pub is_now : (first : List ℕ) (calls : List DiskCall) (image : List ℕ)
    → WasImageOf first calls (length calls) image → IsImageOf first calls image
is_now first calls image was =
    subst (λ (cs : List DiskCall). IsImageOf first cs image)
    (take_all was.at calls (omega (arith, was.from))) was.then
