-- The fields of a JSON object.
use Rattle.std.specs.Prelude.{ℕ, List, [], ◌∷◌, Bool, not, ◌||◌, is_none, filter, if◌then◌else◌, Option, Some, None, option_map, option_and_then, Result, Ok, Err, ⊤}
use Rattle.std.specs.Cmp.Lexicographic.{slice_cmp}
use Rattle.std.specs.List.{list_any}
use Rattle.std.specs.Ordering.{nat_cmp, is_lt}
use Rattle.std.specs.Str.{bytes_eq}
use Rattle.serde_json.specs.Data.{Data, Members, no_members, member}
use Rattle.serde_json.specs.Find.{get, as_object}
use Rattle.cf_json_members.specs.declared.fault.FormFault.{FormFault}
use Rattle.cf_json_members.specs.declared.fault.FormFault.TheVariants.{Fields}
use Rattle.cf_json_members.specs.Faults.{or_fault}

-- a field that must be there
abbrev pub field : {A : Type 0} → (Data → Option A) → List ℕ → Data → Result A FormFault
field kind name d = or_fault (option_and_then kind (get name d)) (Fields name)

-- a value, where there is one
abbrev pub maybe : {A : Type 0} → (Data → Option A) → Option Data → Option (Option A)
maybe kind None = Some None
maybe kind (Some d) = option_map Some (kind d)

-- a field that may be absent
abbrev pub optional : {A : Type 0} → (Data → Option A) → List ℕ → Data → Result (Option A) FormFault
optional kind name d = or_fault (maybe kind (get name d)) (Fields name)

-- a name of neither list
abbrev pub is_stranger : List (List ℕ) → List (List ℕ) → List ℕ → Bool
is_stranger shared own k =
    not (list_any (λ n. bytes_eq n k) shared || list_any (λ n. bytes_eq n k) own)

abbrev pub names_in : Members → List (List ℕ)
names_in no_members = []
names_in (member k d ms) = k ∷ names_in ms

-- the names of an object's fields
abbrev pub names_of : Option Members → List (List ℕ)
names_of None = []
names_of (Some ms) = names_in ms

-- the lesser of two names by their bytes
abbrev pub lesser : List ℕ → Option (List ℕ) → List ℕ
lesser k None = k
lesser k (Some l) = if is_lt (slice_cmp nat_cmp l k) then l else k

-- the least of some names by their bytes
abbrev pub least : List (List ℕ) → Option (List ℕ)
least [] = None
least (k ∷ ks) = Some (lesser k (least ks))

-- the least name that neither list has
abbrev pub stranger : List (List ℕ) → List (List ℕ) → Data → Option (List ℕ)
stranger shared own d = least (filter (is_stranger shared own) (names_of (as_object d)))

abbrev pub no_stranger : Option (List ℕ) → Result ⊤ FormFault
no_stranger None = Ok tt
no_stranger (Some k) = Err (Fields k)

-- the object has these fields alone; else the least other name speaks
abbrev pub only : List (List ℕ) → List (List ℕ) → Data → Result ⊤ FormFault
only shared own d = no_stranger (stranger shared own d)

abbrev pub has_only : List (List ℕ) → Data → Bool
has_only names d = is_none (stranger [] names d)
