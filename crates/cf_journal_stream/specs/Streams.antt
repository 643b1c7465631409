-- A stream of entries (own format): what an office ships to another one that keeps a copy of its
-- history. Numbers have their highest byte first.
--
--     0       FROM, in eight bytes: the stream has the entries behind the first FROM
--     8       the chart's length C, in four bytes, at most 1,048,576
--     12      the chart
--     12 + C  the records, and the byte 0 behind the last
--
-- A record is the byte 1, the payload's length in four bytes, at most 65,536, and the payload in
-- the grammar of version 2. So records lie as the open ones of a journal do, before a closed gate
-- of 0.
use Rattle.std.specs.Prelude.{◌≡◌, ◌≢◌, ℕ, ◌+◌, ◌<◌, ◌≤◌, ◌^◌, List, [], ◌∷◌, ◌++◌, length, drop, Option, None}
use Rattle.std.specs.Int.{w32, w64, to_be_bytes}
use Rattle.std.specs.Io.KnownBytes.{IsAtEnd}
use Rattle.cf_calls.specs.declared.entry.Entry.{Entry}
use Rattle.cf_codec.specs.Entries.{payload, read_of}
use Rattle.cf_journal.specs.Records.{HasRecord, of_length, records_of}

abbrev pub most_chart : ℕ
most_chart = 1048576

abbrev pub most_payload : ℕ
most_payload = 65536

-- ---- writing

-- FROM and the chart
abbrev pub head_of : ℕ → List ℕ → List ℕ
head_of from chart = to_be_bytes w64 from ++ (to_be_bytes w32 (length chart) ++ chart)

-- a record with this text in the payload's place
abbrev pub frame_of : List ℕ → List ℕ
frame_of text = 1 ∷ (to_be_bytes w32 (length text) ++ text)

-- the stream of a history from a place on
abbrev pub stream_of : List ℕ → List Entry → ℕ → List ℕ
stream_of chart history from = head_of from chart ++ (records_of (drop from history) ++ 0 ∷ [])

-- an entry that a stream can hold
pub record HasFrame (e : Entry) : Type 0 where
  pub has : HasRecord e
  pub short : length (payload e) ≤ most_payload

-- ---- faults: the field at this place is cut short by the end of the input, or is against the
-- form. The bytes are those that were taken: up to the input's end, or up to the end of that field.

-- a length of at most `most`, whose place is `at`, and so many bytes, which are one field
pub data TextFault (at most : ℕ) (left : Option (List ℕ)) (bytes : List ℕ) : ℕ → Type 0 where
  cut_length : length bytes < 4 → IsAtEnd left → TextFault at most left bytes at
  long : (n : ℕ) → n < 2 ^ 32 → bytes ≡ to_be_bytes w32 n → most < n
      → TextFault at most left bytes at
  cut_text : (n : ℕ) (part : List ℕ) → bytes ≡ to_be_bytes w32 n ++ part → n ≤ most
      → length part < n → IsAtEnd left → TextFault at most left bytes (at + 4)

-- FROM and the chart
pub data HeadFault (left : Option (List ℕ)) (bytes : List ℕ) : ℕ → Type 0 where
  cut_from : length bytes < 8 → IsAtEnd left → HeadFault left bytes 0
  chart : (from : ℕ) (part : List ℕ) (k : ℕ) → from < 2 ^ 64 → bytes ≡ to_be_bytes w64 from ++ part
      → TextFault 8 most_chart left part k → HeadFault left bytes k

-- a record, or the closing byte. A payload that isn't an entry's is a fault at its first byte.
pub data RecordFault (left : Option (List ℕ)) (bytes : List ℕ) : ℕ → Type 0 where
  no_byte : bytes ≡ [] → IsAtEnd left → RecordFault left bytes 0
  bad_byte : (byte : ℕ) → bytes ≡ byte ∷ [] → byte ≢ 0 → byte ≢ 1 → RecordFault left bytes 0
  text : (part : List ℕ) (k : ℕ) → bytes ≡ 1 ∷ part → TextFault 1 most_payload left part k
      → RecordFault left bytes k
  no_payload : (text : List ℕ) → bytes ≡ frame_of text → length text ≤ most_payload
      → of_length (length text) (read_of 2 text) ≡ None → RecordFault left bytes 5

-- ---- parts that weren't read whole. With `over` 0 the bytes that were taken are fewer than the
-- part has that begins so, and with `over` 1 they may be all that it has.

-- so many bytes
abbrev pub PiecePart : ℕ → ℕ → List ℕ → Type 0
PiecePart most over bytes = length bytes < most + over

-- a length of at most `most`, and so many bytes
pub data TextPart (most over : ℕ) (bytes : List ℕ) : Type 0 where
  in_length : length bytes < 4 + over → TextPart most over bytes
  in_text : (n : ℕ) (part : List ℕ) → n ≤ most → bytes ≡ to_be_bytes w32 n ++ part
      → length part < n + over → TextPart most over bytes

-- FROM and the chart
pub data HeadPart (over : ℕ) (bytes : List ℕ) : Type 0 where
  in_from : length bytes < 8 + over → HeadPart over bytes
  in_chart : (from : ℕ) (part : List ℕ) → bytes ≡ to_be_bytes w64 from ++ part
      → TextPart most_chart over part → HeadPart over bytes

-- a record
pub data RecordPart (over : ℕ) (bytes : List ℕ) : Type 0 where
  in_byte : length bytes < 1 + over → RecordPart over bytes
  in_payload : (part : List ℕ) → bytes ≡ 1 ∷ part → TextPart most_payload over part
      → RecordPart over bytes
