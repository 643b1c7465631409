-- What is left of the passes of a hall that is closed.
use Rattle.std.specs.Prelude.{◌≡◌, ℕ, ◌+◌, ◌≤◌, ◌<◌, ◌-◌, ◌^◌, min, List, [], ◌∷◌, ◌++◌, length, map, Some, slice_get}
use Rattle.cf_model.specs.Common.{Call}
use Rattle.cf_turns.specs.Lists.{TaggedEntry, count_of, places_of}
use Rattle.cf_turns.specs.States.{PassState, ReceiptsState}

-- a pass that was just opened, where the history has so many entries at least: it has seen them
pub record IsFreshPass (first : ℕ) (p : PassState) : Type 0 where
  pub seen : first ≤ length p.seen
  pub places : p.places ≡ []
  pub faults : p.faults ≡ 0
  pub failed : p.failed ≡ []

-- the receipts of a pass
abbrev pub receipts_of : PassState → ReceiptsState
receipts_of p = record { number = p.number; places = p.places; faults = p.faults }

-- the numbers of the passes of these receipts
abbrev pub numbers_of : List ReceiptsState → List ℕ
numbers_of receipts = map (λ r. r.number) receipts

-- how many calls they had accepted, and how many fault replies
abbrev pub accepted_of : List ReceiptsState → ℕ
accepted_of [] = 0
accepted_of (r ∷ rs) = length r.places + accepted_of rs

abbrev pub faults_in : List ReceiptsState → ℕ
faults_in [] = 0
faults_in (r ∷ rs) = r.faults + faults_in rs

-- the calls of these passes that were answered by a fault of the disk
abbrev pub failed_calls : List PassState → List Call
failed_calls [] = []
failed_calls (p ∷ ps) = p.failed ++ failed_calls ps

-- each has the places of the entries of the list that were recorded for its pass
abbrev pub AreReceiptsOf : List TaggedEntry → List ReceiptsState → Type 0
AreReceiptsOf list receipts = (k : ℕ) (r : ReceiptsState) → slice_get receipts k ≡ Some r
    → r.places ≡ places_of r.number list

-- the numbers differ
abbrev pub AreApart : List ℕ → Type 0
AreApart numbers = (n : ℕ) → count_of n numbers ≤ 1

-- each entry of the list was recorded for exactly one of their passes
abbrev pub EachOnce : List TaggedEntry → List ReceiptsState → Type 0
EachOnce list receipts = (k : ℕ) (e : TaggedEntry) → slice_get list k ≡ Some e
    → count_of e.1 (numbers_of receipts) ≡ 1

-- the receipts of all passes that recorded
pub record Closes (list : List TaggedEntry) (receipts : List ReceiptsState) : Type 0 where
  pub places : AreReceiptsOf list receipts
  pub apart : AreApart (numbers_of receipts)
  pub once : EachOnce list receipts

-- these are the first so many places, each once
pub record HasFirst (first : ℕ) (places : List ℕ) : Type 0 where
  pub has : (place : ℕ) → 0 < place → place ≤ first → count_of place places ≡ 1
  pub past : (place : ℕ) → first < place → count_of place places ≡ 0

-- a count of faults has risen by so many at least, or stands at its type's end
abbrev pub RoseBy : ℕ → ℕ → ℕ → Type 0
RoseBy n before now = min (before + n) (2 ^ 64 - 1) ≤ now
