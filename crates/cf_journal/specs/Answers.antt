-- What the calls of a journal answer.
use Rattle.std.specs.Prelude.{◌≡◌, ◌≢◌, ◌⊎◌, ⊤, ℕ, ◌+◌, ◌≤◌, true, false, List, [], ◌∷◌, ◌++◌, All, length, take, slice_index, Vec, Some, None, Result, Ok, Err, IsErr, IsErrOf}
use Rattle.std.specs.declared.alloc.Global.{Global}
use Rattle.cf_base.specs.Common.{Rose}
use Rattle.cf_calls.specs.declared.entry.Entry.{Entry}
use Rattle.cf_codec.specs.Entries.{IsOf}
use Rattle.cf_disk.specs.Images.{HalfCut, IsOnlyImage}
use Rattle.cf_disk.specs.Moments.{AtEachMoment}
use Rattle.cf_journal.specs.Records.{HasRecord, stated_len, entry_behind, entries_from, records_of}
use Rattle.cf_journal.specs.Frames.{is_founded}
use Rattle.cf_journal.specs.Layout.{RecoversTo}
use Rattle.cf_journal.specs.declared.opening.Opened.{Opened}
use Rattle.cf_journal.specs.declared.refused.OpenRefused.{OpenRefused}
use Rattle.cf_journal.specs.declared.refused.OpenRefused.TheVariants as open_refused
use Rattle.cf_journal.specs.declared.refused.FoundRefused.{FoundRefused}
use Rattle.cf_journal.specs.declared.refused.FoundRefused.TheVariants as found_refused

-- the answer `Disk` comes only where the count of faults rose in the call, and the count rises only
-- there
pub record HasDiskCause {T E : Type 0} (disk : E) (before now : ℕ)
    (result : Result T E) : Type 0 where
  pub later : before ≤ now
  pub failed : IsErrOf result disk → Rose before now
  pub quiet : IsErrOf result disk ⊎ (now ≡ before)

-- opening gives what the bytes stand for; a fault of the disk and want of memory are free
abbrev pub Opens : Result Opened OpenRefused → Result (List ℕ × List Entry) OpenRefused → Type 0
Opens (Ok o) frames = frames ≡ Ok (o.bytes.items, o.entries.items)
Opens (Err open_refused.Disk) frames = ⊤
Opens (Err open_refused.NoMemory) frames = ⊤
Opens (Err (open_refused.NotFounded len byte)) frames = frames
    ≡ Err (open_refused.NotFounded len byte)
Opens (Err (open_refused.Damaged offset)) frames = frames ≡ Err (open_refused.Damaged offset)

-- founding succeeds where the bytes are not founded, and is refused as already founded exactly
-- where they are
abbrev pub Founds : {A : Type 0} → Result A FoundRefused → List ℕ → Type 0
Founds (Ok _) bytes = is_founded (length bytes) bytes ≡ false
Founds (Err (found_refused.AlreadyFounded len byte)) bytes =
    (is_founded (length bytes) bytes ≡ true) × (len ≡ length bytes) × (byte ≡ slice_index bytes 0)
Founds (Err found_refused.Disk) bytes = ⊤
Founds (Err found_refused.NoMemory) bytes = ⊤

-- the bytes are not founded, or recover to the chart and the empty history
abbrev pub IsUnfoundedOr : List ℕ → List ℕ → Type 0
IsUnfoundedOr chart image = (is_founded (length image) image ≡ false) ⊎ RecoversTo chart [] image

-- an old image, cut to its first byte, or not yet
abbrev pub IsCutFrom : (List ℕ → Type 0) → List ℕ → Type 0
IsCutFrom old image = (earlier : List ℕ) × old earlier × HalfCut 1 earlier image

-- what founding did up to its first sync that succeeded, and from there on
pub record FromFirstSync {D : Type 0} (content : D → List ℕ) (is_image : D → List ℕ → Type 0)
    (moment : D → ℕ) (was_image : D → ℕ → List ℕ → Type 0) (old new : D)
    (chart : List ℕ) : Type 0 where
  pub synced : D
  pub before : AtEachMoment moment was_image old synced (IsCutFrom (is_image old))
  pub bytes : content synced ≡ take 1 (content old)
  pub only : IsOnlyImage (content synced) (is_image synced)
  pub after : AtEachMoment moment was_image synced new (IsUnfoundedOr chart)

-- ---- parts of opening

-- a refusal that isn't free is this one
abbrev pub Refuses : {A : Type 0} → OpenRefused → Result A OpenRefused → Type 0
Refuses open_refused.Disk x = ⊤
Refuses open_refused.NoMemory x = ⊤
Refuses (open_refused.NotFounded len byte) x = x ≡ Err (open_refused.NotFounded len byte)
Refuses (open_refused.Damaged offset) x = x ≡ Err (open_refused.Damaged offset)

abbrev pub GivesHead : Result (ℕ × ℕ) OpenRefused → Result (ℕ × ℕ) OpenRefused → Type 0
GivesHead (Ok h) x = x ≡ Ok h
GivesHead (Err e) x = Refuses e x

-- the chart that was read; one that is refused is damage at its place
abbrev pub GivesChart : {A E : Type 0} → Result A OpenRefused → Result A E → Type 0
GivesChart (Ok chart) x = x ≡ Ok chart
GivesChart (Err open_refused.NoMemory) x = ⊤
GivesChart (Err e) x = (e ≡ open_refused.Damaged 6) × IsErr x

-- the entry behind the gate at a place, with its payload's length
abbrev pub GivesEntry : Result (ℕ × Entry) OpenRefused → ℕ → ℕ → List ℕ → Type 0
GivesEntry (Ok x) version at behind = (x.0 ≡ stated_len behind)
    × (entry_behind version behind ≡ Some x.1) × (5 + x.0 ≤ length behind)
GivesEntry (Err open_refused.NoMemory) version at behind = ⊤
GivesEntry (Err e) version at behind = (e ≡ open_refused.Damaged at)
    × (entry_behind version behind ≡ None)

-- the entries, and the place of the first gate that isn't open
abbrev pub GivesEntries : Result (ℕ × Vec Entry Global) OpenRefused → ℕ → ℕ → List ℕ → Type 0
GivesEntries (Ok x) version first records = entries_from version 0 first records ≡ Ok x.1.items
GivesEntries (Err open_refused.NoMemory) version first records = ⊤
GivesEntries (Err (open_refused.Damaged at)) version first records =
    entries_from version 0 first records ≡ Err at
GivesEntries (Err e) version first records = ⊥

-- the records of these entries, all of the version, stand in front of the first gate that isn't
-- open, whose place this is
pub record EndsAt (version first : ℕ) (bytes : List ℕ) (entries : List Entry)
    (place : ℕ) : Type 0 where
  pub all : All HasRecord entries
  pub of : All (IsOf version) entries
  pub gate : ℕ
  pub behind : List ℕ
  pub closed : gate ≢ 1
  pub layout : bytes ≡ records_of entries ++ gate ∷ behind
  pub at : place ≡ first + length (records_of entries)
