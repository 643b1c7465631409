-- The bytes that are read of a source.
use Rattle.std.specs.Prelude.{◌≡◌, ◌⊎◌, ℕ, ◌≤◌, List, ◌++◌, length, Option}
use Rattle.std.specs.Io.KnownBytes.{Consumes, IsAtEnd}

-- the source was read to its end, or so many bytes of it were taken
pub record IsRead (most : ℕ) (left left' : Option (List ℕ)) (bytes : List ℕ) : Type 0 where
  pub took : Consumes left left' bytes
  pub within : length bytes ≤ most
  pub whole : IsAtEnd left' ⊎ (length bytes ≡ most)

-- so many bytes were taken and added; none only at the end
pub record Takes (left left' : Option (List ℕ)) (old new : List ℕ) (count : ℕ) : Type 0 where
  pub piece : List ℕ
  pub joins : new ≡ old ++ piece
  pub counted : length piece ≡ count
  pub took : Consumes left left' piece
  pub end : count ≡ 0 → IsAtEnd left'
