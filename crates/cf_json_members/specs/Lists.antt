-- The lists of a call.
use Rattle.std.specs.Prelude.{◌≡◌, ℕ, ◌&&◌, List, [], ◌∷◌, length, Bool, true, nat_le, Option, Some, option_map, option_and_then}
use Rattle.std.specs.List.{All}
use Rattle.serde_json.specs.Data.{Data, Items, no_items, item}
use Rattle.serde_json.specs.Find.{as_array}
use Rattle.cf_calls.specs.Common.{is_distinct, IsCount}
use Rattle.cf_json_members.specs.Kinds.{kept}

-- each value as an item, where all are items
abbrev pub each : {A : Type 0} → (Data → Option A) → Items → Option (List A)
each kind no_items = Some []
each kind (item d ds) = option_and_then (λ x. option_map (λ xs. x ∷ xs) (each kind ds)) (kind d)

-- from `least` to `most` items, of which no two clash
abbrev pub as_list : {A : Type 0} → (Data → Option A) → (A → A → Bool) → ℕ → ℕ → Data
    → Option (List A)
as_list kind clash least most d =
    option_and_then (kept
    (λ xs. nat_le least (length xs) && nat_le (length xs) most && is_distinct clash xs))
    (option_and_then (each kind) (as_array d))

-- what holds of a list that was read
pub record IsListOf {A : Type 0} (fits : A → Type 0) (clash : A → A → Bool) (least most : ℕ)
    (xs : List A) : Type 0 where
  pub count : IsCount least most (length xs)
  pub apart : is_distinct clash xs ≡ true
  pub each_fits : All fits xs
