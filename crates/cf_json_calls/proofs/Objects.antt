-- The text of an object, piece by piece.
use Rattle.std.proofs.Common.{◌≡◌, ℕ, Bool, true, false, List, [], ◌∷◌, ◌++◌, codes, refl, sym, ap, ◌∙◌, append_assoc}
use Rattle.serde_json.specs.Data.{Data, string}
use Rattle.serde_json.specs.Written.{members_text, comma_if}
use Rattle.json.specs.Print.{quoted}
use Rattle.cf_calls.specs.declared.call.Change.{Change}
use Rattle.cf_calls.specs.declared.items.AccountItem.{AccountItem}
use Rattle.cf_json_members.specs.Objects.{fields, count, day, members, text_of}
use Rattle.cf_json_calls.specs.CallText.{call_word, fields_text, first_fields}
use Rattle.cf_json_calls.specs.Values.{account_fields}

regroup : (c q t r e : List ℕ) → (c ++ (q ++ 58 ∷ (t ++ r))) ++ e ≡ c ++ (q ++ 58 ∷ (t ++ (r ++ e)))
regroup c q t r e = simp append_assoc

-- fields and the end of their object
fields_text-end : (later : Bool) (fs : List (List ℕ × Data)) → fields_text later fs ++ 125 ∷ [] ≡ members_text later (members fs)
unfolding text_of
fields_text-end later [] = refl
fields_text-end later (f ∷ fs) =
    regroup (comma_if later) (quoted f.0) (text_of f.1) (fields_text true fs) (125 ∷ []) ∙ ap (λ t. comma_if later ++ (quoted f.0 ++ 58 ∷ (text_of f.1 ++ t))) (fields_text-end true fs)

-- fields behind others
pub fields_text-append : (fs gs : List (List ℕ × Data)) → fields_text true (fs ++ gs) ≡ fields_text true fs ++ fields_text true gs
fields_text-append [] gs = refl
fields_text-append (f ∷ fs) gs =
    ap (λ t. 44 ∷ (quoted f.0 ++ 58 ∷ (text_of f.1 ++ t))) (fields_text-append fs gs) ∙ sym (regroup (44 ∷ []) (quoted f.0) (text_of f.1) (fields_text true fs) (fields_text true gs))

fields_text-behind : (f : List ℕ × Data) (fs gs : List (List ℕ × Data)) → fields_text false (f ∷ (fs ++ gs)) ≡ fields_text false (f ∷ fs) ++ fields_text true gs
fields_text-behind f fs gs =
    ap (λ t. quoted f.0 ++ 58 ∷ (text_of f.1 ++ t)) (fields_text-append fs gs) ∙ sym (regroup [] (quoted f.0) (text_of f.1) (fields_text true fs) (fields_text true gs))

-- an object of some fields and further ones
text_of-fields : (f : List ℕ × Data) (fs gs : List (List ℕ × Data)) → text_of (fields (f ∷ (fs ++ gs))) ≡ 123 ∷ (fields_text false (f ∷ fs) ++ (fields_text true gs ++ 125 ∷ []))
unfolding text_of
text_of-fields f fs gs =
    ap (λ t. 123 ∷ t) (sym (fields_text-end false (f ∷ (fs ++ gs))) ∙ ap (λ t. t ++ 125 ∷ []) (fields_text-behind f fs gs) ∙ append_assoc (fields_text false (f ∷ fs)) (fields_text true gs) (125 ∷ []))

-- an account with further fields
pub text_of-account : (a : AccountItem) (gs : List (List ℕ × Data))
    → text_of (fields (account_fields a ++ gs)) ≡ 123 ∷ (fields_text false (account_fields a) ++ (fields_text true gs ++ 125 ∷ []))
text_of-account a gs =
    text_of-fields (codes "fund", count a.fund) ((codes "dept", count a.dept) ∷ (codes "object", count a.object) ∷ (codes "amount", count a.amount) ∷ []) gs

-- the fields that every call has, with further ones
pub text_of-first : (c : Change) (gs hs : List (List ℕ × Data))
    → text_of (fields (first_fields c ++ (gs ++ hs))) ≡ 123 ∷ (fields_text false (first_fields c) ++ ((fields_text true gs ++ fields_text true hs) ++ 125 ∷ []))
text_of-first c gs hs =
    text_of-fields (codes "call", string (call_word c.act)) ((codes "desk", count c.desk) ∷ (codes "key", string c.key) ∷ (codes "on", day c.on) ∷ []) (gs ++ hs)
    ∙ ap (λ t. 123 ∷ (fields_text false (first_fields c) ++ (t ++ 125 ∷ []))) (fields_text-append gs hs)

-- ---- as they are appended, one piece after another

pub object_appended : (out a b c d first more text : List ℕ) → a ≡ out ++ 123 ∷ [] → b ≡ a ++ first → c ≡ b ++ more → d ≡ c ++ 125 ∷ []
    → text ≡ 123 ∷ (first ++ (more ++ 125 ∷ [])) → d ≡ out ++ text
object_appended out a b c d first more text p q r s t = rw (s, r, q, p, t) (simp append_assoc)

pub two_appended : (fs gs : List (List ℕ × Data)) (out a b : List ℕ) → a ≡ out ++ fields_text true fs → b ≡ a ++ fields_text true gs → b ≡ out ++ fields_text true (fs ++ gs)
two_appended fs gs out a b p q = q ∙ ap (λ t. t ++ fields_text true gs) p ∙ append_assoc out _ _ ∙ ap (λ t. out ++ t) (sym (fields_text-append fs gs))

pub three_appended : (fs gs hs : List (List ℕ × Data)) (out a b c : List ℕ) → a ≡ out ++ fields_text true fs → b ≡ a ++ fields_text true gs → c ≡ b ++ fields_text true hs
    → c ≡ out ++ fields_text true (fs ++ (gs ++ hs))
three_appended fs gs hs out a b c p q r = two_appended fs (gs ++ hs) out a c p (two_appended gs hs a b c q r)

-- the same of the first fields of an object
pub first_appended : (f : List ℕ × Data) (fs gs hs : List (List ℕ × Data)) (out a b c : List ℕ) → a ≡ out ++ fields_text false (f ∷ fs) → b ≡ a ++ fields_text true gs → c ≡ b ++ fields_text true hs
    → c ≡ out ++ fields_text false (f ∷ (fs ++ (gs ++ hs)))
first_appended f fs gs hs out a b c p q r =
    two_appended gs hs a b c q r
    ∙ ap (λ t. t ++ fields_text true (gs ++ hs)) p
    ∙ append_assoc out _ _
    ∙ ap (λ t. out ++ t) (sym (fields_text-behind f fs (gs ++ hs)))

pub call_appended : (out a b c d e first own after text : List ℕ) → a ≡ out ++ 123 ∷ [] → b ≡ a ++ first → c ≡ b ++ own → d ≡ c ++ after → e ≡ d ++ 125 ∷ []
    → text ≡ 123 ∷ (first ++ ((own ++ after) ++ 125 ∷ [])) → e ≡ out ++ text
call_appended out a b c d e first own after text p q r s t u = rw (t, s, r, q, p, u) (simp append_assoc)
