-- What is whole of a journal: all of it, or what stands before the damage.
use Rattle.std.specs.Prelude.{◌≡◌, ⊤, ℕ, List, [], ◌∷◌, ◌++◌, take, Option, Some, None, Vec, Result, Ok, Err}
use Rattle.std.specs.declared.alloc.Global.{Global}
use Rattle.cf_calls.specs.declared.entry.Entry.{Entry}
use Rattle.cf_books_front.specs.declared.whole.Whole.{Whole}
use Rattle.cf_journal.specs.Frames.{frames}
use Rattle.cf_journal.specs.Layout.{IsAtRest, IsValid}
use Rattle.cf_journal.specs.declared.refused.OpenRefused.{OpenRefused}
use Rattle.cf_journal.specs.declared.refused.OpenRefused.TheVariants.{Damaged, Disk, NoMemory}

-- a journal's chart and entries, and the place of the damage behind them, where there is one
pub record Parts : Type 0 where
  pub chart : List ℕ
  pub entries : List Entry
  pub damage : Option ℕ

-- the bytes before the gate at a place, with a closed gate there, as a crash leaves them before
-- that entry is written
abbrev pub before : ℕ → List ℕ → List ℕ
before at bytes = take at bytes ++ 0 ∷ []

abbrev pub parts_or : Option ℕ → OpenRefused → Result (List ℕ × List Entry) OpenRefused
    → Result Parts OpenRefused
parts_or damage why (Ok x) = Ok (record { chart = x.0; entries = x.1; damage = damage })
parts_or damage why (Err e) = Err why

-- a journal that is damaged at a place is what stands before it
abbrev pub or_before : List ℕ → Result (List ℕ × List Entry) OpenRefused → Result Parts OpenRefused
or_before bytes (Ok x) = Ok (record { chart = x.0; entries = x.1; damage = None })
or_before bytes (Err (Damaged at)) = parts_or (Some at) (Damaged at) (frames (before at bytes))
or_before bytes (Err e) = Err e

-- what is whole of the bytes, or why nothing is
abbrev pub whole_of : List ℕ → Result Parts OpenRefused
whole_of bytes = or_before bytes (frames bytes)

-- ---- how they lie in the bytes

-- the chart and the records of the entries stand in front of a closed gate
pub record Lies (chart : List ℕ) (entries : List Entry) (image : List ℕ) : Type 0 where
  pub version : ℕ
  pub valid : IsValid version chart entries
  pub rest : IsAtRest version chart entries image

-- the bytes that are whole, up to the damage where there is one
abbrev pub whole_bytes : Option ℕ → List ℕ → List ℕ
whole_bytes None bytes = bytes
whole_bytes (Some at) bytes = before at bytes

-- ---- answers, where want of memory is free. A disk in memory fails for that alone, so its fault
-- is no answer.

abbrev pub refusal_in_memory : OpenRefused → OpenRefused
refusal_in_memory Disk = NoMemory
refusal_in_memory why = why

abbrev pub ReadsFrames : Result (Vec ℕ Global × Vec Entry Global) OpenRefused
    → Result (List ℕ × List Entry) OpenRefused → Type 0
ReadsFrames (Ok x) frames = frames ≡ Ok (x.0.items, x.1.items)
ReadsFrames (Err NoMemory) frames = ⊤
ReadsFrames (Err Disk) frames = ⊥
ReadsFrames (Err e) frames = frames ≡ Err e

abbrev pub parts : Whole → Parts
parts w = record { chart = w.chart.items; entries = w.entries.items; damage = w.damage }

abbrev pub LiesWhole : Whole → List ℕ → Type 0
LiesWhole w bytes = Lies w.chart.items w.entries.items (whole_bytes w.damage bytes)

abbrev pub ReadsWhole : Result Whole OpenRefused → Result Parts OpenRefused → Type 0
ReadsWhole (Ok w) x = x ≡ Ok (parts w)
ReadsWhole (Err NoMemory) x = ⊤
ReadsWhole (Err Disk) x = ⊥
ReadsWhole (Err e) x = x ≡ Err e
