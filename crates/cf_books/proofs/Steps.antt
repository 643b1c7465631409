-- One step of a loop over a list.
use Rattle.std.proofs.Common.{◌≡◌, ℕ, zero, suc, ◌+◌, ◌<◌, Bool, refl, List, [], ◌∷◌, ◌++◌, length, drop, get_or, sym, ap, ◌∙◌, append_assoc, add-one, drop-cons, arith, ◌-◌, codes, decimal, slice_index_or}
use Rattle.cf_calls.specs.Common.{refusal_names}
use Rattle.cf_books.specs.Notices.{refusal_text}
use Rattle.cf_books_lists.specs.Records.{record_text, rows_text}
use Rattle.cf_books_lists.specs.Rows.{Written, added}

-- an item and what is behind it
pub drop-item : {A : Type 0} (xs : List A) (i : ℕ) (x : A) → i < length xs → x ≡ get_or xs i x → x ∷ drop (i + 1) xs ≡ drop i xs
drop-item xs i x below is = ap (λ y. y ∷ drop (i + 1) xs) is ∙ rw add-one (sym (drop-cons xs i x below))

-- a row was written, and those that are left
pub row_added : (csv : Bool) (w v : Written) (row : List (List ℕ)) (rows : List (List (List ℕ))) → w.csv ≡ csv → v ≡ added w (record_text w.csv row)
    → added v (rows_text csv rows) ≡ added w (rows_text csv (row ∷ rows))
row_added csv w v row rows is put =
    let later = rows_text csv rows in
    let one : added v later ≡ added (added w (record_text w.csv row)) later = ap (λ (x : Written). added x later) put in
    let two : added (added w (record_text w.csv row)) later ≡ added w (record_text w.csv row ++ later) =
    ap (λ (t : List ℕ). record w { text = t }) (append_assoc w.text (record_text w.csv row) later) in
    one ∙ two ∙ ap (λ (b : Bool). added w (record_text b row ++ later)) is

-- two texts, appended one after the other
pub two_texts : (out a b x y : List ℕ) → a ≡ out ++ x → b ≡ a ++ y → b ≡ out ++ (x ++ y)
two_texts out a b x y p q = q ∙ ap (λ t. t ++ y) p ∙ append_assoc out x y

pub three_texts : (out a b c x y z : List ℕ) → a ≡ out ++ x → b ≡ a ++ y → c ≡ b ++ z → c ≡ out ++ (x ++ (y ++ z))
three_texts out a b c x y z p q r = two_texts out a c x (y ++ z) p (two_texts a b c y z q r)

-- ---- the text of a refusal

pub refusal_is : (n : ℕ) → (n ≡ 0 → ⊥) → refusal_text n ≡ codes " is refused: " ++ (decimal n ++ 32 ∷ slice_index_or refusal_names (n - 1) [])
refusal_is zero some = absurd (some refl)
refusal_is (suc n) some =
    let same : n + 1 ≡ suc n = omega arith in
    let less : suc n - 1 ≡ n = omega arith in
    ap (λ m. codes " is refused: " ++ (decimal m ++ 32 ∷ slice_index_or refusal_names n [])) same
    ∙ ap (λ m. codes " is refused: " ++ (decimal (suc n) ++ 32 ∷ slice_index_or refusal_names m [])) (sym less)

pub regrouped : (a b c d : List ℕ) → (a ++ (b ++ c)) ++ d ≡ a ++ (b ++ (c ++ d))
regrouped a b c d = simp append_assoc
