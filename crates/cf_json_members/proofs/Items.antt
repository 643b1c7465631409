-- The items of a list, one after another.
use Rattle.std.proofs.Common.{◌≡◌, ℕ, ◌+◌, ◌<◌, List, [], ◌∷◌, ◌++◌, length, get_or, drop, Option, Some, None, option_map, option_and_then, refl, sym, ap, ◌∙◌, append_assoc}
use Rattle.cf_base.proofs.Common.{at_drop_more}
use Rattle.serde_json.specs.declared.value.Value.{Value}
use Rattle.serde_json.specs.Data.{Data}
use Rattle.serde_json.specs.View.{view, items_view}
use Rattle.cf_json_members.specs.Lists.{each}

step : {A : Type 0} (xs : List A) (x : A) (o : Option (List A)) → option_map (λ r. xs ++ r) (option_map (λ r. x ∷ r) o) ≡ option_map (λ r. (xs ++ x ∷ []) ++ r) o
step xs x None = refl
step xs x (Some r) = ap Some (sym (append_assoc xs (x ∷ []) r))

-- one item more is read
pub read_more : {A : Type 0} (kind : Data → Option A) (vs : List Value) (i : ℕ) (v : Value) (xs ys : List A) (x : A) (all : Option (List A))
    → i < length vs → v ≡ get_or vs i v
    → Some x ≡ kind (view v) → ys ≡ xs ++ x ∷ []
    → all ≡ option_map (λ r. xs ++ r) (each kind (items_view (drop i vs)))
    → all ≡ option_map (λ r. ys ++ r) (each kind (items_view (drop (i + 1) vs)))
read_more kind vs i v xs ys x all within is read pushed rest =
    let others = each kind (items_view (drop (i + 1) vs)) in
    let split : option_map (λ r. xs ++ r) (each kind (items_view (drop i vs))) ≡ option_map (λ r. xs ++ r) (option_and_then (λ y. option_map (λ r. y ∷ r) others) (kind (view (get_or vs i v)))) =
    at_drop_more (λ us. option_map (λ r. xs ++ r) (each kind (items_view us))) vs i v within in
    let first : kind (view (get_or vs i v)) ≡ Some x = ap (λ u. kind (view u)) (sym is) ∙ sym read in
    rest ∙ split
    ∙ ap (λ o. option_map (λ r. xs ++ r) (option_and_then (λ y. option_map (λ r. y ∷ r) others) o)) first
    ∙ step xs x others
    ∙ ap (λ zs. option_map (λ r. zs ++ r) others) (sym pushed)
