-- The records of a journal (own format). A record is a gate of one byte, the payload's length in
-- four bytes, the highest first, and the payload. The next record's gate follows. A gate of 1 is
-- open, any other value is closed.
use Rattle.std.specs.Prelude.{◌<◌, ◌^◌, ℕ, zero, suc, ◌+◌, ◌==◌, nat_lt, if◌then◌else◌, List, [], ◌∷◌, ◌++◌, length, take, drop, Option, Some, None, Result, Ok, Err}
use Rattle.std.specs.Int.{w32, to_be_bytes, from_be_bytes}
use Rattle.cf_calls.specs.declared.entry.Entry.{Entry}
use Rattle.cf_codec.specs.Entries.{payload, read_of, HasPayload}

-- ---- reading

-- an entry whose payload has exactly this length
abbrev pub of_length : ℕ → Result (Entry × ℕ) ℕ → Option Entry
of_length n (Ok x) = if x.1 == n then Some x.0 else None
of_length n (Err offset) = None

-- the payload's length, as it stands behind a gate
abbrev pub stated_len : List ℕ → ℕ
stated_len behind = from_be_bytes w32 (take 4 behind)

-- The entry behind an open gate. A length, a payload of exactly that length in the grammar of the
-- version, and a following gate must stand there.
abbrev pub entry_behind : ℕ → List ℕ → Option Entry
entry_behind version behind =
    if nat_lt (length behind) (5 + stated_len behind) then None
    else of_length (stated_len behind) (read_of version (take (stated_len behind) (drop 4 behind)))

-- an entry in front of those behind it; without one, the place of its gate
abbrev pub in_front : Option Entry → ℕ → Result (List Entry) ℕ → Result (List Entry) ℕ
in_front None at later = Err at
in_front (Some e) at (Ok es) = Ok (e ∷ es)
in_front (Some e) at (Err place) = Err place

-- The entries of the records before the first gate that isn't open, or the place of the first open
-- gate with no entry behind it, in the grammar of a version. The first gate stands `skip` bytes on,
-- and `at` is the place of that gate.
unfoldable pub entries_from : ℕ → ℕ → ℕ → List ℕ → Result (List Entry) ℕ
entries_from version skip at [] = Ok []
entries_from version (suc skip) at (byte ∷ rest) = entries_from version skip at rest
entries_from version zero at (gate ∷ behind) =
    if gate == 1 then in_front (entry_behind version behind) at
    (entries_from version (4 + stated_len behind) (5 + stated_len behind + at) behind) else Ok []

-- ---- writing, which is the same in both versions

-- an entry that a record can hold: it has a payload, whose length fits its four bytes
pub record HasRecord (e : Entry) : Type 0 where
  pub has : HasPayload e
  pub short : length (payload e) < 2 ^ 32

-- what stands behind the gate of an entry's record, up to the next gate
abbrev pub record_of : Entry → List ℕ
record_of e = to_be_bytes w32 (length (payload e)) ++ payload e

-- open records
unfoldable pub records_of : List Entry → List ℕ
records_of [] = []
records_of (e ∷ es) = 1 ∷ (record_of e ++ records_of es)

-- the length of a record with its gate
abbrev pub record_len : Entry → ℕ
record_len e = 5 + length (payload e)

-- the place of the gate behind these entries, where the first record's gate stands at `first`
unfoldable pub gate_after : ℕ → List Entry → ℕ
gate_after first [] = first
gate_after first (e ∷ es) = gate_after (first + record_len e) es
