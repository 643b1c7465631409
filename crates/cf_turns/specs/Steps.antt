-- What each step on the word makes of a view, and what it tells. What a step doesn't name stays.
use Rattle.std.specs.Prelude.{◌≡◌, ℕ, ◌+◌, ◌<◌, ◌≤◌, true, false, List, [], ◌∷◌, ◌++◌, length, map}
use mathlib.Core.List.{IsPrefix}
use Rattle.atomic_table.specs.Table.{Me}
use Rattle.cf_turns.specs.declared.rule.View.{View}
use Rattle.cf_turns.specs.Lists.{TaggedCall, TaggedEntry, calls_of, count_of, places_of, longer}
use Rattle.cf_turns.specs.Rule.{blank}

-- a seat with its view. It holds no slot
abbrev pub Seated : Type 0
Seated = Me (Unit {0}) View

-- the step leaves the seat with this view
abbrev pub Leaves : Seated → View → Seated → Type 0
Leaves old view new = (new.1 ≡ old.1) × (new.0 ≡ view)

-- record and fail: a pass lends the recorder its number, its places and its calls that failed, and
-- gets them back by the same two steps
abbrev pub without_number : View → View
without_number v = record v { has_number = false; number = 0; places = []; own_failed = [] }

abbrev pub view_of_number : View → View
view_of_number v = record blank
    { has_number = v.has_number; number = v.number; places = v.places; own_failed = v.own_failed }

abbrev pub with_number : View → View → View
with_number v lent =
    record v {
      has_number = lent.has_number;
      number = lent.number;
      places = lent.places;
      own_failed = lent.own_failed;
    }

-- record, while the recorder has them: the list has these entries more, and the number one more
-- place
pub record Records (entries : List TaggedEntry) (old : Seated) (found : ℕ)
    (new : Seated) : Type 0 where
  pub leaves : Leaves old
      (record old.0 { list = old.0.list ++ entries; places = old.0.places ++ (found + 1) ∷ [] }) new
  pub length_is : found ≡ length old.0.list
  pub few_places : length old.0.places ≤ found

-- fail, while the recorder has them: these calls failed too, and are the number's
pub record Fails (calls : List TaggedCall) (old : Seated) (found : ℕ) (new : Seated) : Type 0 where
  pub leaves : Leaves old
      (record old.0 {
        failed = old.0.failed ++ calls;
        own_failed = old.0.own_failed ++ map (λ c. c.0) calls;
      }) new

-- note: the recorder's list goes with the note
abbrev pub view_of_note : View → View
view_of_note v = record blank { list = v.list }

-- learn, the join: both lists are kept
abbrev pub with_note : View → View → View
with_note v note = record v { joined = note.list }

-- learn, the load: the longer list is seen, and both begin it
pub record Learns (old : Seated) (found : ℕ) (new : Seated) : Type 0 where
  pub leaves : Leaves old (record old.0 { list = longer old.0.list old.0.joined; joined = [] }) new
  pub seen : IsPrefix old.0.list (longer old.0.list old.0.joined)
  pub note : IsPrefix old.0.joined (longer old.0.list old.0.joined)

-- open_pass: one more number is given out, and goes with the pass
abbrev pub with_next_number : View → View
with_next_number v = record v { opened = v.opened + 1 }

abbrev pub view_of_pass : View → View
view_of_pass v = record blank { has_number = true; number = v.opened }

-- end_pass, the split: the places go with the receipts
abbrev pub view_of_receipts : View → View
view_of_receipts v = record blank { number = v.number; places = v.places }

-- end_pass, the join: the recorder takes the pass's list, its number, its places and its calls that
-- failed
abbrev pub with_pass : View → View → View
with_pass v pass = record v {
  joined = pass.list;
  has_number = pass.has_number;
  number = pass.number;
  places = pass.places;
  own_failed = pass.own_failed;
}

-- end_pass, the load: the pass's number, not ended before, is ended now. Its list begins the
-- recorder's, in which its places are those of its entries. No entry has a number that wasn't given
-- out. Its calls that failed are those of the recorder's that have its number
pub record Ends (old : Seated) (found : ℕ) (new : Seated) : Type 0 where
  pub leaves : Leaves old
      (record old.0 {
        joined = [];
        has_number = false;
        number = 0;
        places = [];
        own_failed = [];
        ended = old.0.ended ++ old.0.number ∷ [];
      }) new
  pub seen : IsPrefix old.0.joined old.0.list
  pub given : old.0.number < old.0.opened
  pub fresh : count_of old.0.number old.0.ended ≡ 0
  pub places : old.0.places ≡ places_of old.0.number old.0.list
  pub recorded : (n : ℕ) → old.0.opened ≤ n → places_of n old.0.list ≡ []
  pub failed : old.0.own_failed ≡ calls_of old.0.number old.0.failed

-- ask, the load: one more read, of a length that isn't below what was seen
pub record Asks (old : Seated) (found : ℕ) (new : Seated) : Type 0 where
  pub leaves : Leaves old
      (record old.0 { floor = found; reads = old.0.reads + 1; last_read = found }) new
  pub seen : length old.0.list ≤ found

-- ask, the split: the floor goes with the ask
abbrev pub view_of_ask : View → View
view_of_ask v = record blank { floor = v.floor }

-- hear, the join: the recorder takes the ask's floor
abbrev pub with_ask : View → View → View
with_ask v ask = record v { floor = ask.floor }

-- hear, the load: the list is at least as long as its floor
pub record Hears (old : Seated) (found : ℕ) (new : Seated) : Type 0 where
  pub same : new ≡ old
  pub length_is : found ≡ length old.0.list
  pub floor : old.0.floor ≤ length old.0.list
