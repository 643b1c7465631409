-- What the bytes of a journal recover to: its entries, which the office takes again one after
-- another (own rule).
use Rattle.std.specs.Prelude.{◌≡◌, ℕ, ◌+◌, Bool, ◌==◌, ◌&&◌, if◌then◌else◌, List, [], ◌∷◌, ◌++◌, length, Option, Some, None, Result, Ok, Err}
use Rattle.cf_model.specs.Common.{Drawn, Entry, Verdict, Accept, Refuse, ChartFault, OfficeState, verdict_of}
use Rattle.cf_calls.specs.Common.{number_of}
use Rattle.cf_chart.specs.Common.{Plan, chart_of}
use Rattle.cf_journal.specs.declared.refused.OpenRefused.{OpenRefused}
use Rattle.cf_journal.specs.declared.refused.OpenRefused.TheVariants as open_refused
use Rattle.cf_journal.specs.Frames.{frames}
use Rattle.cf_journal.specs.Records.{record_len}
use Rattle.cf_journal_book.specs.declared.refused.BookRefused.{BookRefused}
use Rattle.cf_journal_book.specs.declared.refused.BookRefused.TheVariants.{NotFounded, Damaged, NoMemory, Disk}

-- ---- the office takes an entry again

abbrev pub is_same_drawn : Drawn → Drawn → Bool
is_same_drawn a b = (a.number == b.number) && (a.second == b.second)

-- nothing where the change is accepted with the entry's numbers; else the number of the refusal,
-- which is 0 where it is a repeat or draws other numbers
abbrev pub refusal_by : Drawn → Verdict → Option ℕ
refusal_by drawn (Accept d) = if is_same_drawn d drawn then None else Some 0
refusal_by drawn (Refuse r) = Some (number_of r)
refusal_by drawn _ = Some 0

abbrev pub entry_refusal : Plan → List Entry → Entry → Option ℕ
entry_refusal plan before e = refusal_by e.drawn (verdict_of plan before e.change)

abbrev pub refused_or : ℕ → Option ℕ → Option (ℕ × ℕ) → Option (ℕ × ℕ)
refused_or at None later = later
refused_or at (Some n) later = Some (at, n)

-- the gate's place of the first entry that is refused, with the number, where the first gate stands
-- at `at`
unfoldable pub first_refused : Plan → List Entry → ℕ → List Entry → Option (ℕ × ℕ)
first_refused plan before at [] = None
first_refused plan before at (e ∷ later) =
    refused_or at (entry_refusal plan before e)
    (first_refused plan (before ++ e ∷ []) (at + record_len e) later)

-- ---- a whole journal

abbrev pub book_refused : OpenRefused → BookRefused
book_refused open_refused.Disk = Disk
book_refused open_refused.NoMemory = NoMemory
book_refused (open_refused.NotFounded len byte) = NotFounded len byte
book_refused (open_refused.Damaged offset) = Damaged offset None

abbrev pub unless_refused : OfficeState → Option (ℕ × ℕ) → Result OfficeState BookRefused
unless_refused s None = Ok s
unless_refused s (Some x) = Err (Damaged x.0 (Some x.1))

-- the entries under the chart that stands in front of them; frames have a chart that is accepted
abbrev pub under_chart : Result Plan ChartFault → List ℕ → List Entry
    → Result OfficeState BookRefused
under_chart (Ok plan) chart entries =
    unless_refused (record { plan = plan; entries = entries })
    (first_refused plan [] (6 + length chart) entries)
under_chart (Err f) chart entries = Err (Damaged 6 None)

abbrev pub of_frames : Result (List ℕ × List Entry) OpenRefused → Result OfficeState BookRefused
of_frames (Ok x) = under_chart (chart_of x.0) x.0 x.1
of_frames (Err e) = Err (book_refused e)

-- the chart and the legal history that the bytes stand for, or why they stand for none
abbrev pub recovered : List ℕ → Result OfficeState BookRefused
recovered image = of_frames (frames image)

-- the bytes recover to this chart and history
abbrev pub RecoversTo : Plan → List Entry → List ℕ → Type 0
RecoversTo plan entries image = recovered image ≡ Ok (record { plan = plan; entries = entries })
