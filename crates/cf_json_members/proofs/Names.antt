-- Names of fields, as a table holds them and as the value has them.
use Rattle.std.proofs.Common.{◌≡◌, ℕ, List, [], ◌∷◌, Bool, true, false, ◌||◌, Option, Some, None, option_map, find, map, String, string_bytes, Global, refl, Bor, cond, ap, ◌∙◌, bytes_eq, string_cmp}
use Rattle.cf_base.proofs.Common.{list_any, keys_of}
use Rattle.serde_json.specs.declared.value.Value.{Value}
use Rattle.serde_json.specs.Data.{Data}
use Rattle.serde_json.specs.Find.{as_object}
use Rattle.serde_json.specs.View.{members_view}
use Rattle.std.specs.List.Sorted.{IsStrictlySortedBy}
use Rattle.cf_json_members.specs.Fields.{is_stranger, stranger, names_in}
use Rattle.cf_json_members.proofs.LeastNames.{least-keys}

-- a name is among borrowed names as it is among the names
pub listed_names : (names : List (Bor (List ℕ))) (k : List ℕ) → list_any (λ n. bytes_eq n k) (map (λ n. n.now) names) ≡ list_any (λ n. bytes_eq n.now k) names
listed_names [] k = refl
listed_names (n ∷ names) k = ap (λ b. bytes_eq n.now k || b) (listed_names names k)

step : (b : Bool) (k : String Global) (o : Option (List ℕ)) (u : Option (String Global)) → o ≡ option_map string_bytes u → cond b (Some (string_bytes k)) o ≡ option_map string_bytes (cond b (Some k) u)
step true k o u e = refl
step false k o u e = e

find-bytes : (test : List ℕ → Bool) (ks : List (String Global)) → find test (map string_bytes ks) ≡ option_map string_bytes (find (λ k. test (string_bytes k)) ks)
find-bytes test [] = refl
find-bytes test (k ∷ ks) = step (test (string_bytes k)) k _ _ (find-bytes test ks)

names-keys : (es : List (String Global × Value)) → names_in (members_view es) ≡ map string_bytes (keys_of es)
names-keys [] = refl
names-keys (e ∷ es) = ap (λ names. string_bytes e.0 ∷ names) (names-keys es)

-- the least other name of an object is that of its first other key
pub stranger_is : (shared own : List (List ℕ)) (es : List (String Global × Value)) (d : Data) → as_object d ≡ Some (members_view es) → IsStrictlySortedBy string_cmp (keys_of es) → stranger shared own d ≡ option_map string_bytes (find (λ k. is_stranger shared own (string_bytes k)) (keys_of es))
stranger_is shared own es d o sorted =
    rw (o, names-keys es) (least-keys (is_stranger shared own) (keys_of es) sorted ∙ find-bytes (is_stranger shared own) (keys_of es))

pub bytes_of : (r : Option (Bor (String Global))) → option_map (λ (k : Bor (String Global)). string_bytes k.now) r ≡ option_map string_bytes (option_map (λ (k : Bor (String Global)). k.now) r)
bytes_of None = refl
bytes_of (Some k) = refl
