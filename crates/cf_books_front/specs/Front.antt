-- The front of a journal: its chart and the first of its entries, with a closed gate behind them.
use Rattle.std.specs.Prelude.{◌≡◌, ⊤, ℕ, ◌+◌, nat_le, if◌then◌else◌, List, length, take, None, Vec, Result, Ok, Err}
use Rattle.std.specs.declared.alloc.Global.{Global}
use Rattle.cf_journal.specs.Frames.{frames}
use Rattle.cf_journal.specs.Records.{gate_after}
use Rattle.cf_journal.specs.declared.refused.OpenRefused.{OpenRefused}
use Rattle.cf_journal.specs.declared.refused.OpenRefused.TheVariants.{Disk, NoMemory}
use Rattle.cf_books_front.specs.Whole.{Parts, before, whole_of}
use Rattle.cf_books_front.specs.declared.front.FrontRefused.{FrontRefused}
use Rattle.cf_books_front.specs.declared.front.FrontRefused.TheVariants.{Fewer, Nothing}

-- the bytes before the gate behind the first n entries, with a closed gate there
abbrev pub front : ℕ → Parts → List ℕ → List ℕ
front n p bytes = before (gate_after (6 + length p.chart) (take n p.entries)) bytes

-- a journal of fewer entries has no such front, nor has one of which nothing is whole
abbrev pub front_by : ℕ → List ℕ → Result Parts OpenRefused → Result (List ℕ) FrontRefused
front_by n bytes (Ok p) = if nat_le n (length p.entries) then Ok (front n p bytes)
    else Err (Fewer (length p.entries))
front_by n bytes (Err e) = Err (Nothing e)

abbrev pub front_in : ℕ → List ℕ → Result (List ℕ) FrontRefused
front_in n bytes = front_by n bytes (whole_of bytes)

-- the answer is this front, or why there is none; want of memory is free
abbrev pub GivesFront : Result (Vec ℕ Global) FrontRefused → Result (List ℕ) FrontRefused → Type 0
GivesFront (Ok v) x = x ≡ Ok v.items
GivesFront (Err (Nothing Disk)) x = ⊤
GivesFront (Err (Nothing NoMemory)) x = ⊤
GivesFront (Err e) x = x ≡ Err e

-- ---- laws

-- whatever is whole of the bytes, the front has its chart and the first n of its entries
abbrev pub HasFirst : ℕ → List ℕ → List ℕ → Type 0
HasFirst n bytes made = (p : Parts) → whole_of bytes ≡ Ok p
    → frames made ≡ Ok (p.chart, take n p.entries)

-- of a journal that is whole and has n entries the front has all that the journal has
abbrev pub HasAll : ℕ → List ℕ → List ℕ → Type 0
HasAll n bytes made = (p : Parts) → whole_of bytes ≡ Ok p → p.damage ≡ None → length p.entries ≡ n
    → frames made ≡ frames bytes
