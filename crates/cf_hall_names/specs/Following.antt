-- What the tie of a stripe sees.
use Rattle.std.specs.Prelude.{◌≡◌, ℕ, ◌+◌, ◌<◌, Bool, List, Option, Some, None}
use Rattle.atomic_table.specs.Seated.{TableId}
use Rattle.cf_model.specs.Common.{Entry, entry_touches}
use Rattle.cf_chart.specs.Common.{Plan}
use Rattle.cf_turns.specs.Lists.{TaggedEntry}
use Rattle.cf_turns.specs.States.{PassState}
use Rattle.cf_turns.specs.Touching.{touch_count, GrowsTouched}
use Rattle.cf_hall_names.specs.Lists.{tie_at, total_at}

-- it sees the whole list, of whose entries past what it had seen so many touch the stripe
pub record Sees (touches : Entry → Bool) (many : ℕ) (old : PassState) (list : List TaggedEntry)
    (new : PassState) : Type 0 where
  pub seen : new.seen ≡ list
  pub table : new.table ≡ old.table
  pub grows : GrowsTouched touches many old.seen list

-- a tie that is there follows the list, and one that is away stays away
abbrev pub Follows : (Entry → Bool) → ℕ → Option PassState → List TaggedEntry → Option PassState
    → Type 0
Follows touches many None list new = new ≡ None
Follows touches many (Some old) list new = (p : PassState) × (new ≡ Some p)
    × Sees touches many old list p

-- the counts of all stripes are those of the list
abbrev pub AreCounts : Plan → List TaggedEntry → List ℕ → Type 0
AreCounts plan list totals = (k : ℕ) → k < 8
    → total_at totals k ≡ touch_count (entry_touches plan k) list

-- they are, but for so many entries more
abbrev pub AreCountsWith : Plan → List TaggedEntry → List ℕ → List ℕ → Type 0
AreCountsWith plan list totals more = (k : ℕ) → k < 8
    → total_at totals k + total_at more k ≡ touch_count (entry_touches plan k) list

-- every tie that is there is of this table
abbrev pub AreOwn : TableId → List (Option PassState) → Type 0
AreOwn table ties = (k : ℕ) → k < 8 → (p : PassState) → tie_at ties k ≡ Some p → p.table ≡ table

-- nothing is to be counted of a stripe that is away
abbrev pub AreTaken : List (Option PassState) → List ℕ → Type 0
AreTaken ties more = (k : ℕ) → k < 8 → tie_at ties k ≡ None → total_at more k ≡ 0

abbrev pub AllFollow : Plan → List ℕ → List (Option PassState) → List TaggedEntry
    → List (Option PassState) → Type 0
AllFollow plan more old list new = (k : ℕ) → k < 8
    → Follows (entry_touches plan k) (total_at more k) (tie_at old k) list (tie_at new k)
