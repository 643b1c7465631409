-- Values by two numbers.
use Rattle.std.specs.Prelude.{◌≡◌, ℕ, Bool, true, if◌then◌else◌, ◌==◌, ◌&&◌, List, Option, Some, is_some, unwrap_or}
use Rattle.std.specs.Ordering.{nat_cmp, ordering_then}
use Rattle.std.specs.declared.cmp.Ordering.{Ordering}
use Rattle.std.specs.Map.{lookup}
use Rattle.std.specs.BTreeMap.{is_at}
use Rattle.cf_register_parts.specs.declared.pairs.NumberPair.{NumberPair}

abbrev pub Pairs : Type 0 → Type 0
Pairs X = List (NumberPair × X)

-- by the first number, and then by the second
abbrev pub pair_cmp : NumberPair → NumberPair → Ordering
pair_cmp a b = ordering_then (nat_cmp a.first b.first) (nat_cmp a.second b.second)

abbrev pub value_where : {X : Type 0} → Pairs X → NumberPair → Option X
value_where table pair = lookup (is_at (pair_cmp pair)) table

-- the value of two numbers
abbrev pub value_of : {X : Type 0} → Pairs X → ℕ → ℕ → Option X
value_of table first second = value_where table (record { first = first; second = second })

abbrev pub has_value : {X : Type 0} → Pairs X → ℕ → ℕ → Bool
has_value table first second = is_some (value_of table first second)

-- the value of these two numbers is the one given, and the others stay
abbrev pub PutsValue : {X : Type 0} → Pairs X → Pairs X → ℕ → ℕ → X → Type 0
PutsValue old new first second value =
    (m z : ℕ) → value_of new m z
    ≡ (if (first == m) && (second == z) then Some value else value_of old m z)

-- no value goes
abbrev pub KeepsValues : {X : Type 0} → Pairs X → Pairs X → Type 0
KeepsValues old new = (m z : ℕ) → has_value old m z ≡ true → has_value new m z ≡ true

-- all numbers read the same, where what is missing reads as this
abbrev pub ReadsSame : {X : Type 0} → X → Pairs X → Pairs X → Type 0
ReadsSame none old new = (m z : ℕ)
    → unwrap_or (value_of new m z) none ≡ unwrap_or (value_of old m z) none

-- the amount of two numbers, 0 where there is none
abbrev pub amount_at : Pairs ℕ → ℕ → ℕ → ℕ
amount_at table first second = unwrap_or (value_of table first second) 0

-- the amount of these two numbers is the one given, and the others stay
abbrev pub PutsAmount : Pairs ℕ → Pairs ℕ → ℕ → ℕ → ℕ → Type 0
PutsAmount old new first second amount =
    (m z : ℕ) → amount_at new m z
    ≡ (if (first == m) && (second == z) then amount else amount_at old m z)
