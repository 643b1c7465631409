-- What a journal is, on its disk.
use Rattle.std.specs.Prelude.{◌≡◌, ◌⊎◌, ℕ, ◌+◌, ◌%◌, ◌<◌, ◌≤◌, Bool, true, false, IsTrue, List, ◌∷◌, ◌++◌, length, replicate}
use Rattle.cf_calls.specs.declared.acts.Act.{Act}
use Rattle.cf_calls.specs.declared.entry.Entry.{Entry}
use Rattle.cf_codec.specs.Entries.{IsOf}
use Rattle.cf_calls.specs.Common.{kind_of}
use Rattle.cf_codec_fields.specs.Kinds.{is_of}
use Rattle.cf_journal.specs.Records.{HasRecord, record_of, record_len, gate_after}
use Rattle.cf_journal.specs.Layout.{IsValid, IsAtRest, IsStaged}
use Rattle.cf_journal.specs.declared.journal.Journal.{Journal}

-- whether an entry is in doubt
abbrev pub in_doubt : Journal → Bool
in_doubt journal = journal.doubt

-- the number of entries
abbrev pub count_of : Journal → ℕ
count_of journal = journal.count

-- the version of the grammar of its entries, 1 or 2
abbrev pub version_of : Journal → ℕ
version_of journal = journal.version

-- whether its version has entries of an act
abbrev pub has_act : Journal → Act → Bool
has_act journal act = is_of (version_of journal) (kind_of act)

-- what is written behind the gate ends at a multiple of 64 KiB of the file
abbrev pub EndsAtStep : Journal → ℕ → Type 0
EndsAtStep journal len = (journal.gate + (1 + len)) % 65536 ≡ 0

-- An entry is reserved: its record, a closed gate at the place where the next entry goes, and room
-- behind that, in zeros. Where all of it goes to bytes that were written before there is no room,
-- and else it ends at the next multiple of 64 KiB.
pub record Reserves (journal : Journal) (entry : Entry) : Type 0 where
  pub has : HasRecord entry
  pub room : ℕ
  pub bytes : journal.reserved.items ≡ record_of entry ++ 0 ∷ replicate room 0
  pub size : journal.size ≡ record_len entry
  pub small : room < 65536
  pub ends : ((room ≡ 0) × (journal.size ≤ journal.ahead))
      ⊎ EndsAtStep journal (journal.size + room)

-- the file has what was written behind the gate
abbrev pub HasAhead : Journal → List ℕ → Type 0
HasAhead journal bytes = journal.gate + (1 + journal.ahead) ≤ length bytes

-- a file keeps its length, or grows to a multiple of 64 KiB
pub record GrowsByStep (old new : List ℕ) : Type 0 where
  pub no_shorter : length old ≤ length new
  pub grown : length old < length new → length new % 65536 ≡ 0

-- the gate stands behind the chart and the entries
pub record StandsBehind (journal : Journal) (chart : List ℕ) (history : List Entry) : Type 0 where
  pub gate : journal.gate ≡ gate_after (6 + length chart) history
  pub count : journal.count ≡ length history

-- Nothing is in doubt, and the entries are of the journal's version. Where the disk tells its
-- bytes, every image recovers to the chart and the history, and at version 2 every image tells
-- version 2.
pub record IsSettled {D : Type 0} (tells : Bool) (is_image : D → List ℕ → Type 0)
    (journal : Journal) (disk : D) (chart : List ℕ) (history : List Entry) : Type 0 where
  pub clear : in_doubt journal ≡ false
  pub stands : StandsBehind journal chart history
  pub valid : IsValid (version_of journal) chart history
  pub images : IsTrue tells → (image : List ℕ) → is_image disk image
      → IsAtRest (version_of journal) chart history image

-- The entry is in doubt. Where the disk tells its bytes, every image recovers to the history, or to
-- it and the entry.
pub record IsInDoubt {D : Type 0} (tells : Bool) (is_image : D → List ℕ → Type 0)
    (journal : Journal) (disk : D) (chart : List ℕ) (history : List Entry)
    (entry : Entry) : Type 0 where
  pub doubt : in_doubt journal ≡ true
  pub stands : StandsBehind journal chart history
  pub valid : IsValid (version_of journal) chart history
  pub has : HasRecord entry
  pub of : IsOf (version_of journal) entry
  pub images : IsTrue tells → (image : List ℕ) → is_image disk image
      → IsStaged (version_of journal) chart history entry image

-- After a failed append the entry is in doubt, or nothing is and the journal is as before.
pub record AfterFailure {D : Type 0} (tells : Bool) (is_image : D → List ℕ → Type 0)
    (journal : Journal) (disk : D) (chart : List ℕ) (history : List Entry)
    (entry : Entry) : Type 0 where
  pub clear : in_doubt journal ≡ false → IsSettled tells is_image journal disk chart history
  pub doubt : in_doubt journal ≡ true → IsInDoubt tells is_image journal disk chart history entry

-- the next entry goes to the same place in the same version, and what is in doubt still is
pub record SamePlace (old new : Journal) : Type 0 where
  pub gate : new.gate ≡ old.gate
  pub count : count_of new ≡ count_of old
  pub doubt : in_doubt new ≡ in_doubt old
  pub version : version_of new ≡ version_of old
