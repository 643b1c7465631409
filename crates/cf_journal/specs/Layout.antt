-- How a journal lies in its file.
use Rattle.std.specs.Prelude.{◌≡◌, ◌≢◌, ◌⊎◌, ℕ, List, [], ◌∷◌, ◌++◌, length, All, Ok, IsOk}
use Rattle.std.specs.Int.{w32, to_be_bytes}
use Rattle.cf_calls.specs.declared.entry.Entry.{Entry}
use Rattle.cf_chart.specs.Common.{chart_of}
use Rattle.cf_codec.specs.Entries.{IsOf}
use Rattle.cf_journal.specs.Records.{HasRecord, record_of, records_of}
use Rattle.cf_journal.specs.Frames.{frames}

-- the byte of the version, the chart's length and the chart
abbrev pub head_of : ℕ → List ℕ → List ℕ
head_of byte chart = byte ∷ (to_be_bytes w32 (length chart) ++ chart)

-- the founding gate, the head and open records: all that stands before the first closed gate
abbrev pub front_of : ℕ → List ℕ → List Entry → List ℕ
front_of byte chart history = 1 ∷ (head_of byte chart ++ records_of history)

-- the bytes recover to the chart and the history
abbrev pub RecoversTo : List ℕ → List Entry → List ℕ → Type 0
RecoversTo chart history image = frames image ≡ Ok (chart, history)

-- to the history, or to it and the entry
abbrev pub RecoversToEither : List ℕ → List Entry → Entry → List ℕ → Type 0
RecoversToEither chart history entry image = RecoversTo chart history image
    ⊎ RecoversTo chart (history ++ entry ∷ []) image

-- the chart is accepted, and each entry has a record and is of the version
pub record IsValid (version : ℕ) (chart : List ℕ) (history : List Entry) : Type 0 where
  pub accepted : IsOk (chart_of chart)
  pub records : All HasRecord history
  pub of : All (IsOf version) history

-- The journal of a chart and a history, with a closed gate at its end and anything behind that. Its
-- byte 1 tells version 1 only where that is the journal's version: until a raise to version 2 has
-- succeeded the byte may be any.
pub record IsAtRest (version : ℕ) (chart : List ℕ) (history : List Entry)
    (image : List ℕ) : Type 0 where
  pub recovers : RecoversTo chart history image
  pub byte : ℕ
  pub first : byte ≡ 1 → version ≡ 1
  pub gate : ℕ
  pub behind : List ℕ
  pub closed : gate ≢ 1
  pub layout : image ≡ front_of byte chart history ++ gate ∷ behind

-- the same with the record of an entry behind a gate that may be open or closed
pub record IsStaged (version : ℕ) (chart : List ℕ) (history : List Entry) (entry : Entry)
    (image : List ℕ) : Type 0 where
  pub recovers : RecoversToEither chart history entry image
  pub byte : ℕ
  pub first : byte ≡ 1 → version ≡ 1
  pub gate : ℕ
  pub next : ℕ
  pub behind : List ℕ
  pub closed : next ≢ 1
  pub layout : image ≡ front_of byte chart history ++ gate ∷ (record_of entry ++ next ∷ behind)
