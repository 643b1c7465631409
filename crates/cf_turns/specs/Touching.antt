-- How many entries of a list touch a stripe.
use Rattle.std.specs.Prelude.{◌≡◌, ℕ, Bool, List, ◌++◌}
use Rattle.std.specs.List.{count_by}
use Rattle.cf_calls.specs.declared.entry.Entry.{Entry}
use Rattle.cf_turns.specs.Lists.{TaggedEntry}

abbrev pub touch_count : (Entry → Bool) → List TaggedEntry → ℕ
touch_count touches list = count_by (λ e. touches e.0) list

-- the new list is the old one and then entries of which so many touch the stripe
abbrev pub GrowsTouched : (Entry → Bool) → ℕ → List TaggedEntry → List TaggedEntry → Type 0
GrowsTouched touches many old new =
    (rest : List TaggedEntry) × (old ++ rest ≡ new) × (touch_count touches rest ≡ many)
