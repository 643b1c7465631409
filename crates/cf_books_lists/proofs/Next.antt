-- What a loop made of an element, before what is still to come.
use Rattle.std.proofs.Common.{◌≡◌, ◌∙◌, ℕ, ◌+◌, ◌<◌, Bool, true, false, cond, List, [], ◌∷◌, ◌++◌, length, get_or, drop, map, append_assoc, ap, sym, refl, flat_map, filter}
use Rattle.cf_base.proofs.Common.{at_drop_more}
use Rattle.cf_books_lists.specs.Rows.{Written, added}
use Rattle.cf_books_lists.proofs.Adding.{added_two}

-- the element at a place, before those that follow it
pub next_item : {A : Type 0} (xs : List A) (i : ℕ) (d : A) {x : A} → i < length xs → x ≡ get_or xs i d → drop i xs ≡ x ∷ drop (i + 1) xs
next_item xs i d l is = at_drop_more (λ ys. ys) xs i d l ∙ ap (λ y. y ∷ drop (i + 1) xs) (sym is)

-- ---- appended

pub next_pushed : {B : Type 0} (out new rest more all total : List B) → more ≡ out ++ new → all ≡ new ++ rest → out ++ all ≡ total → more ++ rest ≡ total
next_pushed out new rest more all total pushed is inv = ap (λ ys. ys ++ rest) pushed ∙ append_assoc out new rest ∙ ap (λ ys. out ++ ys) (sym is) ∙ inv

pub next_flat : {A B : Type 0} (f : A → List B) (xs : List A) (i : ℕ) (d : A) {x : A} (out more total : List B) → i < length xs → x ≡ get_or xs i d
    → more ≡ out ++ f x → out ++ flat_map f (drop i xs) ≡ total → more ++ flat_map f (drop (i + 1) xs) ≡ total
next_flat f xs i d {x} out more total l is pushed inv =
    next_pushed out (f x) (flat_map f (drop (i + 1) xs)) more (flat_map f (drop i xs)) total pushed (ap (flat_map f) (next_item xs i d l is)) inv

pub next_mapped : {A B : Type 0} (f : A → B) (xs : List A) (i : ℕ) (d : A) {x : A} (out more total : List B) → i < length xs → x ≡ get_or xs i d
    → more ≡ out ++ f x ∷ [] → out ++ map f (drop i xs) ≡ total → more ++ map f (drop (i + 1) xs) ≡ total
next_mapped f xs i d {x} out more total l is pushed inv =
    next_pushed out (f x ∷ []) (map f (drop (i + 1) xs)) more (map f (drop i xs)) total pushed (ap (map f) (next_item xs i d l is)) inv

-- ---- appended where a test says so, and else passed by

split_map : {A B : Type 0} (f : A → B) (b : Bool) (x : A) (ys : List A) → map f (cond b (x ∷ ys) ys) ≡ cond b (f x ∷ []) [] ++ map f ys
split_map f true x ys = refl
split_map f false x ys = refl

pub next_kept : {A B : Type 0} (f : A → B) (keep : A → Bool) (xs : List A) (i : ℕ) (d : A) {x : A} (out more total : List B) → i < length xs → x ≡ get_or xs i d
    → more ≡ out ++ cond (keep x) (f x ∷ []) [] → out ++ map f (filter keep (drop i xs)) ≡ total → more ++ map f (filter keep (drop (i + 1) xs)) ≡ total
next_kept f keep xs i d {x} out more total l is kept inv =
    next_pushed out (cond (keep x) (f x ∷ []) []) (map f (filter keep (drop (i + 1) xs))) more (map f (filter keep (drop i xs))) total kept
    (ap (λ ys. map f (filter keep ys)) (next_item xs i d l is) ∙ split_map f (keep x) x (filter keep (drop (i + 1) xs))) inv

-- ---- written

pub next_written : {A : Type 0} (new rest : A → Bool → List ℕ) (all : List A → List ℕ) (xs : List A) (i : ℕ) (d : A) {x : A} (out more total : Written) → i < length xs → x ≡ get_or xs i d
    → more ≡ added out (new x out.csv) → ((y : A) → all (y ∷ drop (i + 1) xs) ≡ new y out.csv ++ rest y out.csv) → added out (all (drop i xs)) ≡ total → added more (rest x more.csv) ≡ total
next_written new rest all xs i d {x} out more total l is wrote each inv =
    added_two (new x) (rest x) out more (added more (rest x more.csv)) wrote refl ∙ ap (added out) (sym (ap all (next_item xs i d l is) ∙ each x)) ∙ inv

pub next_rows : {A : Type 0} (f : Bool → A → List ℕ) (xs : List A) (i : ℕ) (d : A) {x : A} (out more total : Written) → i < length xs → x ≡ get_or xs i d
    → more ≡ added out (f out.csv x) → added out (flat_map (f out.csv) (drop i xs)) ≡ total → added more (flat_map (f more.csv) (drop (i + 1) xs)) ≡ total
next_rows f xs i d out more total l is wrote inv =
    next_written (λ y csv. f csv y) (λ y csv. flat_map (f csv) (drop (i + 1) xs)) (flat_map (f out.csv)) xs i d out more total l is wrote (λ y. refl) inv
