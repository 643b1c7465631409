-- The text of a list, item by item.
use Rattle.std.proofs.Common.{◌≡◌, ℕ, ◌+◌, ◌<◌, ◌≤◌, Bool, true, false, List, [], ◌∷◌, ◌++◌, map, length, get_or, drop, sym, ap, ◌∙◌, append_assoc}
use Rattle.cf_base.proofs.Common.{at_drop_more, at_drop_all}
use Rattle.serde_json.specs.Data.{Data, Items, item}
use Rattle.serde_json.specs.View.{items_of}
use Rattle.serde_json.specs.Written.{items_text, comma_if}
use Rattle.cf_json_members.specs.Objects.{list_of, text_of}

push_text : (old new all : List ℕ) (later : Bool) (value : Data) (more : Items)
    → new ≡ old ++ (comma_if later ++ text_of value)
    → old ++ items_text later (item value more) ≡ all → new ++ items_text true more ≡ all
unfolding text_of
push_text old new all later value more pushed rest = rw (pushed, append_assoc, append_assoc) rest

-- one item more is written
pub push_item : {A : Type 0} (value : A → Data) (old new all : List ℕ) (later : Bool) (xs : List A) (i : ℕ) (x : A) → i < length xs → x ≡ get_or xs i x
    → new ≡ old ++ (comma_if later ++ text_of (value x))
    → old ++ items_text later (items_of (map value (drop i xs))) ≡ all
    → new ++ items_text true (items_of (map value (drop (i + 1) xs))) ≡ all
push_item value old new all later xs i x within is pushed rest =
    push_text old new all later (value x) (items_of (map value (drop (i + 1) xs))) pushed
    (ap (λ y. old ++ items_text later (item (value y) (items_of (map value (drop (i + 1) xs))))) is
    ∙ sym (at_drop_more (λ ys. old ++ items_text later (items_of (map value ys))) xs i x within) ∙ rest)

opened : (start old text : List ℕ) → start ≡ old ++ 91 ∷ [] → start ++ text ≡ old ++ 91 ∷ text
opened start old text pushed = rw (pushed, append_assoc)

-- the list is closed behind its last item
pub close_list : {A : Type 0} (value : A → Data) (old start out new : List ℕ) (later : Bool) (xs : List A) (i : ℕ) → length xs ≤ i
    → start ≡ old ++ 91 ∷ []
    → out ++ items_text later (items_of (map value (drop i xs))) ≡ start ++ items_text false (items_of (map value xs))
    → new ≡ out ++ 93 ∷ []
    → new ≡ old ++ text_of (list_of value xs)
unfolding text_of
close_list value old start out new later xs i done begun written pushed =
    pushed ∙ sym (at_drop_all (λ ys. out ++ items_text later (items_of (map value ys))) xs i done) ∙ written ∙ opened start old (items_text false (items_of (map value xs))) begun
