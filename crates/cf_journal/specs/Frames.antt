-- What the bytes of a journal stand for (own format).
--
--     0      the founding gate: 1 is founded, any other value isn't
--     1      the version: 1 is version 1, any other value is version 2
--     2      the chart's length C, in four bytes, the highest first
--     6      the chart
--     6 + C  the gate of the first record
use Rattle.std.specs.Prelude.{ℕ, ◌+◌, Bool, not, ◌==◌, ◌&&◌, nat_lt, is_ok, if◌then◌else◌, List, length, take, drop, slice_index, slice_get, Result, Ok, Err}
use Rattle.std.specs.Int.{w32, from_be_bytes}
use Rattle.cf_calls.specs.declared.entry.Entry.{Entry}
use Rattle.cf_chart.specs.Common.{chart_of}
use Rattle.cf_journal.specs.Records.{entries_from}
use Rattle.cf_journal.specs.declared.refused.OpenRefused.{OpenRefused}
use Rattle.cf_journal.specs.declared.refused.OpenRefused.TheVariants.{NotFounded, Damaged}

-- a length above 1, and a founding gate of 1
abbrev pub is_founded : ℕ → List ℕ → Bool
is_founded len head = nat_lt 1 len && (slice_index head 0 == 1)

-- the version that byte 1 tells
abbrev pub version_by : ℕ → ℕ
version_by byte = if byte == 1 then 1 else 2

-- the version and the length of the chart, by the length of the whole and its first six bytes
abbrev pub stated_head : ℕ → List ℕ → Result (ℕ × ℕ) OpenRefused
stated_head len head =
    if not (is_founded len head) then Err (NotFounded len (slice_get head 0))
    else (if nat_lt len 6 then Err (Damaged 1)
    else (if nat_lt len (7 + from_be_bytes w32 (take 4 (drop 2 head))) then Err (Damaged 2)
    else Ok (version_by (slice_index head 1), from_be_bytes w32 (take 4 (drop 2 head)))))

-- a chart with the entries of the records behind it
abbrev pub with_chart : List ℕ → Result (List Entry) ℕ → Result (List ℕ × List Entry) OpenRefused
with_chart chart (Ok es) = Ok (chart, es)
with_chart chart (Err at) = Err (Damaged at)

-- a chart that is accepted, with the entries of the version behind it
abbrev pub chart_and_entries : ℕ → ℕ → List ℕ → Result (List ℕ × List Entry) OpenRefused
chart_and_entries version n image =
    if is_ok (chart_of (take n (drop 6 image)))
    then with_chart (take n (drop 6 image)) (entries_from version 0 (6 + n) (drop (6 + n) image))
    else Err (Damaged 6)

abbrev pub behind_head : Result (ℕ × ℕ) OpenRefused → List ℕ
    → Result (List ℕ × List Entry) OpenRefused
behind_head (Ok x) image = chart_and_entries x.0 x.1 image
behind_head (Err e) image = Err e

-- the chart and the history that the bytes stand for, or why they stand for none
abbrev pub frames : List ℕ → Result (List ℕ × List Entry) OpenRefused
frames image = behind_head (stated_head (length image) (take 6 image)) image
