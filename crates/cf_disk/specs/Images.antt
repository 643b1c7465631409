-- What the calls of a disk do to its bytes, and what a crash may leave of them.
use Rattle.std.specs.Prelude.{◌≡◌, ◌⊎◌, ℕ, ◌+◌, ◌-◌, ◌<◌, ◌≤◌, min, max, List, ◌++◌, length, take, drop, replicate, slice_index}

-- the bytes, filled with zeros up to a length
abbrev pub padded : ℕ → List ℕ → List ℕ
padded n bytes = bytes ++ replicate (n - length bytes) 0

-- the bytes with a piece at an offset. A gap before it has zeros.
abbrev pub written : ℕ → List ℕ → List ℕ → List ℕ
written at piece bytes = take at (padded at bytes) ++ piece ++ drop (at + length piece) bytes

-- the bytes cut, or filled with zeros, to a length
abbrev pub resized : ℕ → List ℕ → List ℕ
resized n bytes = take n (padded n bytes)

-- a crash after a write of n bytes: the range, and the part past the old end, may hold any bytes;
-- other bytes stay
pub record Torn (at n : ℕ) (old new : List ℕ) : Type 0 where
  pub stays : (k : ℕ) → k < length old → (k < at) ⊎ (at + n ≤ k)
      → slice_index new k ≡ slice_index old k
  pub no_shorter : length old ≤ length new
  pub no_longer : length new ≤ max (length old) (at + n)

-- a crash after a cut to n bytes: what lies past n may hold any bytes, or not be there; other bytes
-- stay
pub record HalfCut (n : ℕ) (old new : List ℕ) : Type 0 where
  pub stays : (k : ℕ) → k < n → k < length old → slice_index new k ≡ slice_index old k
  pub no_shorter : min n (length old) ≤ length new
  pub no_longer : length new ≤ max n (length old)

-- each new image is an old one after a step
abbrev pub Follows : (List ℕ → List ℕ → Type 0) → (List ℕ → Type 0) → (List ℕ → Type 0) → Type 0
Follows step old new = (image : List ℕ) → new image
    → (earlier : List ℕ) × old earlier × step earlier image

-- no image is new
abbrev pub AddsNone : (List ℕ → Type 0) → (List ℕ → Type 0) → Type 0
AddsNone old new = (image : List ℕ) → new image → old image

-- there is no other image than these bytes
abbrev pub IsOnlyImage : List ℕ → (List ℕ → Type 0) → Type 0
IsOnlyImage bytes images = (image : List ℕ) → images image → image ≡ bytes
