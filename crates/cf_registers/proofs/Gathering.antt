-- Deeds of the functions of a chart, gathered one after another.
use Rattle.std.proofs.Common.{◌≡◌, ℕ, ◌+◌, ◌<◌, List, [], ◌∷◌, ◌++◌, length, map, take, get_or, sym, ap, ◌∙◌, append_assoc}
use Rattle.cf_base.proofs.Common.{map_more}

-- one deed more
pub one_more : {A B : Type 0} (f : A → B) (old items new : List B) (xs : List A) (k : ℕ) (x : A) (y : B) → k < length xs → new ≡ items ++ y ∷ [] → items ≡ old ++ map f (take k xs) → get_or xs k x ≡ x → y ≡ f x →
    new ≡ old ++ map f (take (k + 1) xs)
one_more f old items new xs k x y l pushed was at is =
    pushed
    ∙ ap (λ ys. ys ++ y ∷ []) was
    ∙ append_assoc old (map f (take k xs)) (y ∷ [])
    ∙ ap (λ ys. old ++ ys) (ap (λ z. map f (take k xs) ++ z ∷ []) (is ∙ ap f (sym at)) ∙ sym (map_more f xs k x l))
