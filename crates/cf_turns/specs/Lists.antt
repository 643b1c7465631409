-- Entries with the pass that each was recorded for, calls with the pass that made them, and lists
-- of numbers.
use Rattle.std.specs.Prelude.{ℕ, ◌+◌, ◌==◌, List, [], ◌∷◌, ◌++◌, length, if◌then◌else◌, ltb}
use Rattle.cf_calls.specs.declared.call.Call.{Call}
use Rattle.cf_calls.specs.declared.entry.Entry.{Entry}

-- an entry, and the number of the pass that it was recorded for
abbrev pub TaggedEntry : Type 0
TaggedEntry = Entry × ℕ

-- a call, and the number of the pass that made it
abbrev pub TaggedCall : Type 0
TaggedCall = Call × ℕ

-- how often the number stands in the list
abbrev pub count_of : ℕ → List ℕ → ℕ
count_of n [] = 0
count_of n (m ∷ ms) = (if m == n then 1 else 0) + count_of n ms

-- the places of the entries with this number, where the list begins at this place
abbrev pub places_from : ℕ → ℕ → List TaggedEntry → List ℕ
places_from place n [] = []
places_from place n (e ∷ es) = (if e.1 == n then place ∷ [] else []) ++ places_from (place + 1) n es

-- the places, from 1, of the entries that were recorded for the pass of this number
abbrev pub places_of : ℕ → List TaggedEntry → List ℕ
places_of n list = places_from 1 n list

-- the calls of the pass of this number
abbrev pub calls_of : ℕ → List TaggedCall → List Call
calls_of n [] = []
calls_of n (x ∷ xs) = (if x.1 == n then x.0 ∷ [] else []) ++ calls_of n xs

-- the longer of two lists
abbrev pub longer : {A : Type 0} → List A → List A → List A
longer xs ys = if ltb (length ys) (length xs) then xs else ys
