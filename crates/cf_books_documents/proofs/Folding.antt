-- A fold that goes on.
use Rattle.std.proofs.Common.{◌≡◌, ◌∙◌, ◌<◌, ◌+◌, ℕ, List, ◌∷◌, length, drop, get_or, sym, ap, add-one, drop-cons, fold}

pub fold_on : {A B : Type 0} (f : B → A → B) (x y : B) (xs : List A) (i : ℕ) (d : A) → i < length xs → y ≡ f x (get_or xs i d) → fold f y (drop (i + 1) xs) ≡ fold f x (drop i xs)
fold_on f x y xs i d below is =
    let split : drop i xs ≡ get_or xs i d ∷ drop (i + 1) xs = rw add-one (drop-cons xs i d below) in
    ap (λ z. fold f z (drop (i + 1) xs)) is ∙ sym (ap (fold f x) split)
