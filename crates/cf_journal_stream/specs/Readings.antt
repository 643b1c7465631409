-- What shipping writes, and what reading a part of a stream gives.
use Rattle.std.specs.Prelude.{◌≡◌, ◌≢◌, ◌<◌, ◌≤◌, ◌^◌, ◌++◌, ℕ, Bool, true, false, List, [], ◌∷◌, length, Option, Some, None}
use Rattle.std.specs.Int.{w32, w64, to_be_bytes}
use Rattle.std.specs.Io.KnownBytes.{Appends, Consumes, IsAtEnd}
use Rattle.cf_calls.specs.declared.entry.Entry.{Entry}
use Rattle.cf_codec.specs.Entries.{HasPayload, payload, read_of}
use Rattle.cf_base_lines.specs.Sinks.{Wrote}
use Rattle.cf_journal.specs.Records.{of_length}
use Rattle.cf_journal_stream.specs.Streams.{most_chart, most_payload, head_of, frame_of}
use Rattle.cf_journal_stream.specs.declared.reader.Reader.{Reader}
use Rattle.cf_journal_stream.specs.declared.shipping.ShipEnd.{ShipEnd}
use Rattle.cf_journal_stream.specs.declared.shipping.ShipEnd.TheVariants as ship

-- the output got the whole stream, or a front of it
abbrev pub Ships : List ℕ → Option (List ℕ) → Option (List ℕ) → ShipEnd → Type 0
Ships stream held held' ship.Done = Appends held held' stream
Ships stream held held' ship.WriteFault = (rest : List ℕ) × Wrote held held' stream rest
Ships stream held held' ship.NoMemory = (rest : List ℕ) × Wrote held held' stream rest

-- the piece that was read last
abbrev pub piece_of : Reader → List ℕ
piece_of reader = reader.bytes.items

-- a number of so many bytes was taken, or the input ended inside it
pub record CutBefore (n : ℕ) (left left' : Option (List ℕ)) : Type 0 where
  pub part : List ℕ
  pub took : Consumes left left' part
  pub short : length part < n
  pub end : IsAtEnd left'

abbrev pub ReadsLong : Option (List ℕ) → Option (List ℕ) → Option ℕ → Type 0
ReadsLong left left' (Some n) = (n < 2 ^ 64) × Consumes left left' (to_be_bytes w64 n)
ReadsLong left left' None = CutBefore 8 left left'

abbrev pub ReadsWord : Option (List ℕ) → Option (List ℕ) → Option ℕ → Type 0
ReadsWord left left' (Some n) = (n < 2 ^ 32) × Consumes left left' (to_be_bytes w32 n)
ReadsWord left left' None = CutBefore 4 left left'

-- one byte, or the end
abbrev pub ReadsByte : Option (List ℕ) → Option (List ℕ) → Option ℕ → Type 0
ReadsByte left left' (Some byte) = Consumes left left' (byte ∷ [])
ReadsByte left left' None = CutBefore 1 left left'

-- a length and so many bytes were taken
pub record ReadsText (most : ℕ) (left left' : Option (List ℕ)) (text : List ℕ) : Type 0 where
  pub short : length text ≤ most
  pub took : Consumes left left' (to_be_bytes w32 (length text) ++ text)

-- FROM and a chart were taken
pub record ReadsHead (left left' : Option (List ℕ)) (from : ℕ) (chart : List ℕ) : Type 0 where
  pub small : from < 2 ^ 64
  pub short : length chart ≤ most_chart
  pub took : Consumes left left' (head_of from chart)

-- a record with a text in the payload's place was taken, or the closing byte
pub record ReadsFrame (left left' : Option (List ℕ)) (text : List ℕ) : Type 0 where
  pub short : length text ≤ most_payload
  pub took : Consumes left left' (frame_of text)

-- ---- payloads

-- the text is the payload of this entry
pub record IsPayloadOf (text : List ℕ) (e : Entry) : Type 0 where
  pub has : HasPayload e
  pub bytes : payload e ≡ text

-- it is that of none
abbrev pub IsNoPayload : List ℕ → Type 0
IsNoPayload text = of_length (length text) (read_of 2 text) ≡ None

abbrev pub IsRead : List ℕ → Option Entry → Type 0
IsRead text (Some e) = IsPayloadOf text e
IsRead text None = IsNoPayload text

-- whether it is that of an entry
abbrev pub IsCompared : List ℕ → Entry → Bool → Type 0
IsCompared text e true = IsPayloadOf text e
IsCompared text e false = payload e ≢ text
