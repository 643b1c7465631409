-- The rule of the shared word: own rule. The word is the length of one list, and each seat's view
-- is true of that list.
use Rattle.std.specs.Prelude.{◌≡◌, ℕ, ◌<◌, ◌≤◌, true, false, List, [], ◌∷◌, length}
use mathlib.Core.Option.{some}
use mathlib.Core.List.{IsPrefix}
use lib.ListN.{get_elem?}
use Rattle.atomic_table.specs.Table.{State}
use Rattle.cf_calls.specs.declared.call.Call.{Call}
use Rattle.cf_turns.specs.declared.rule.View.{View}
use Rattle.cf_turns.specs.Lists.{TaggedCall, TaggedEntry, calls_of, count_of, places_of}

-- the view that says nothing, as a seat has it that was spent
abbrev pub blank : View
blank =
    record {
      records = false;
      list = [];
      joined = [];
      has_number = false;
      number = 0;
      floor = 0;
      reads = 0;
      last_read = 0;
      opened = 0;
      ended = [];
      places = [];
      failed = [];
      own_failed = [];
    }

-- the recorder's view at the start
abbrev pub first_view : View
first_view = record blank { records = true }

-- what stands behind the word: which seat records, its list, how many passes were opened, the
-- numbers of the ended ones, and the calls that were answered by a fault of the disk
pub record Shared : Type 0 where
  pub recorder : ℕ
  pub list : List TaggedEntry
  pub opened : ℕ
  pub ended : List ℕ
  pub failed : List TaggedCall

-- the seat that records knows all that stands behind the word
pub record IsRecorders (t : Shared) (seat : ℕ) (v : View) : Type 0 where
  pub seat_is : seat ≡ t.recorder
  pub list : v.list ≡ t.list
  pub opened : v.opened ≡ t.opened
  pub ended : v.ended ≡ t.ended
  pub failed : v.failed ≡ t.failed

-- a live pass has a number that was given out and isn't among the ended ones, and has the places of
-- its entries and its calls that failed
pub record IsLive (t : Shared) (number : ℕ) (known : List ℕ) (calls : List Call) : Type 0 where
  pub given : number < t.opened
  pub live : count_of number t.ended ≡ 0
  pub places : known ≡ places_of number t.list
  pub failed : calls ≡ calls_of number t.failed

-- what the rule says of one seat's view
pub record Fits (t : Shared) (seat : ℕ) (v : View) : Type 0 where
  pub recorder : v.records ≡ true → IsRecorders t seat v
  pub list : IsPrefix v.list t.list
  pub joined : IsPrefix v.joined t.list
  pub floor : v.floor ≤ length t.list
  pub number : v.has_number ≡ true → IsLive t v.number v.places v.own_failed

-- the numbers of ended passes differ. They, and the numbers of passes that entries were recorded
-- for or that calls failed of, were given out
pub record AreGivenOut (t : Shared) : Type 0 where
  pub once : (n : ℕ) → count_of n t.ended ≤ 1
  pub ended : (n : ℕ) → t.opened ≤ n → count_of n t.ended ≡ 0
  pub recorded : (n : ℕ) → t.opened ≤ n → places_of n t.list ≡ []
  pub failed : (n : ℕ) → t.opened ≤ n → calls_of n t.failed ≡ []

-- no two seats have one number
abbrev pub HaveOwnNumbers : List View → Type 0
HaveOwnNumbers views =
    (i j : ℕ) (v w : View) → get_elem? views i ≡ some v → get_elem? views j ≡ some w
    → v.has_number ≡ true → w.has_number ≡ true → v.number ≡ w.number → i ≡ j

-- what the rule says of the word and of all views
pub record IsKept (t : Shared) (words : List ℕ) (views : List View) : Type 0 where
  pub word : words ≡ length t.list ∷ []
  pub fits : (seat : ℕ) (v : View) → get_elem? views seat ≡ some v → Fits t seat v
  pub apart : HaveOwnNumbers views
  pub numbers : AreGivenOut t

abbrev pub Holds : State (Unit {0}) View → Type 0
Holds s = (t : Shared) × IsKept t s.words s.views
