-- A part of a stream that isn't read.
use Rattle.std.specs.Prelude.{◌≡◌, ℕ, List, Option}
use Rattle.std.specs.Io.KnownBytes.{Consumes}
use Rattle.cf_base.specs.Common.{Rose}
use Rattle.cf_journal_stream.specs.declared.reader.Unread.{Unread}
use Rattle.cf_journal_stream.specs.declared.reader.Unread.TheVariants as unread

-- Why a part wasn't read. Where a read failed the bytes that were taken are fewer than the part
-- has; where memory was wanting they may be all of it.
abbrev pub IsWhy : (ℕ → Type 0) → (ℕ → Type 0) → Unread → Type 0
IsWhy Part Fault unread.Source = Part 0
IsWhy Part Fault unread.NoMemory = Part 1
IsWhy Part Fault (unread.Fault k) = Fault k

-- these bytes were taken of a part that wasn't read
pub record ReadsNone (Part : ℕ → List ℕ → Type 0) (Fault : Option (List ℕ) → List ℕ → ℕ → Type 0)
    (left left' : Option (List ℕ)) (why : Unread) : Type 0 where
  pub bytes : List ℕ
  pub took : Consumes left left' bytes
  pub is : IsWhy (λ over. Part over bytes) (Fault left' bytes) why

-- for a part that has no form, so that none of it is at fault
abbrev pub NoFault : Option (List ℕ) → List ℕ → ℕ → Type 0
NoFault left bytes k = ⊥

-- the count of a source's faults: it rises exactly where a read fails
abbrev pub IsCause : ℕ → ℕ → Unread → Type 0
IsCause before now unread.Source = Rose before now
IsCause before now unread.NoMemory = now ≡ before
IsCause before now (unread.Fault k) = now ≡ before
