-- Which bytes of a journal's file are in use, and which are room.
use Rattle.std.specs.Prelude.{ℕ, ◌+◌, ◌-◌, nat_lt, if◌then◌else◌, List, [], ◌∷◌, length, take, drop, sum_by, codes}
use Rattle.std.specs.Int.{w32, from_be_bytes}
use Rattle.cf_model.specs.Common.{Entry}
use Rattle.cf_journal.specs.Records.{record_len}
use Rattle.cf_books.specs.Summary.{counts_text}

-- the chart's length, as it stands in the head of a journal
abbrev pub chart_len : List ℕ → ℕ
chart_len bytes = if nat_lt (length bytes) 6 then 0 else from_be_bytes w32 (take 4 (drop 2 bytes))

-- how many bytes stand behind the head, the chart, the records of the entries and the closed gate
-- that follows them
abbrev pub room : List ℕ → List Entry → ℕ
room bytes entries = length bytes - (7 + chart_len bytes) - sum_by record_len entries

abbrev pub room_counts : List ℕ → List Entry → List (List ℕ × ℕ)
room_counts bytes entries =
    (codes "bytes in use", length bytes - room bytes entries)
    ∷ (codes "bytes of room", room bytes entries) ∷ []

abbrev pub room_text : List ℕ → List Entry → List ℕ
room_text bytes entries = counts_text (room_counts bytes entries)
