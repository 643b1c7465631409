-- What holds of names, as lists of borrowed texts say it.
use Rattle.cf_base.proofs.Common.{list_all, list_any}
use Rattle.std.proofs.Common.{refl, ap, ℕ, ◌≡◌, ◌||◌, ◌&&◌, Bool, List, [], ◌∷◌, map, Bor, bytes_eq}

pub listed_names : (names : List (Bor (List ℕ))) (k : List ℕ) → list_any (λ n. bytes_eq n k) (map (λ n. n.now) names) ≡ list_any (λ n. bytes_eq n.now k) names
listed_names [] k = refl
listed_names (n ∷ names) k = ap (λ b. bytes_eq n.now k || b) (listed_names names k)

pub all_names : (f : List ℕ → Bool) (names : List (Bor (List ℕ))) → list_all (λ n. f n.now) names ≡ list_all f (map (λ n. n.now) names)
all_names f [] = refl
all_names f (n ∷ names) = ap (λ b. f n.now && b) (all_names f names)
