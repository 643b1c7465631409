-- What rows add up to.
use Rattle.std.proofs.Common.{◌≡◌, ℕ, zero, suc, ◌+◌, ◌<◌, ◌≤◌, Bool, true, false, ◌&&◌, ◌==◌, if◌then◌else◌, List, [], ◌∷◌, ◌++◌, map, flat_map, Option, Some, None, ℤ, pos, ◌+ℤ◌, refl, sym, ap, ◌∙◌, arith, filter}
use Rattle.cf_base.proofs.Common.{AllByRecursion, range_with_len, common_steps, ints}
use Rattle.cf_chart.specs.Common.{Plan}
use Rattle.cf_model.specs.Common.{counts, is_line, Move, moved_sum, int_sum}
use Rattle.cf_model.proofs.Common.{exchange, none_first, none_last, sum_filter}
use Rattle.cf_model.proofs.Totals as totals
use Rattle.cf_office_rows.specs.declared.rows.Amounts.{Amounts}
use Rattle.cf_office_rows.specs.declared.rows.LedgerRow.{LedgerRow}
use Rattle.cf_office_rows.specs.declared.rows.Origin.{Origin}
use Rattle.cf_office_rows.specs.Items.{item_rows, joined, paired_rows, same_number, same_place, same_rows, with_both}
use Rattle.cf_office_rows.specs.Rolls.{carries_amount}
use Rattle.cf_office_rows.specs.Rows.{amounts_of, appropriates, changes, is_of, kept, line_number, line_sum, on_move, origin}

-- a number of rows: what moves make of it, and what appropriations do
pub record IsNumber (f : Amounts → ℤ) (g : ℤ → ℤ) : Type 0 where
  pub none : (a : Amounts) → changes a ≡ false → f a ≡ pos 0
  pub both : (h e s i o t : ℤ) → f (amounts_of (h +ℤ i) (e +ℤ o) (s +ℤ t)) ≡ f (amounts_of h e s) +ℤ f (amounts_of i o t)
  pub gives : (z : ℤ) → f (appropriates z) ≡ g z
  pub carries : (z : ℤ) → f (carries_amount z) ≡ g z +ℤ f (amounts_of (pos 0) z (pos 0))
  pub adds : (y z : ℤ) → g (y +ℤ z) ≡ g y +ℤ g z
  pub zero : g (pos 0) ≡ pos 0

-- what a move makes of it
abbrev pub of_move : (Amounts → ℤ) → Move → ℤ
of_move f m = f (amounts_of m.held m.encumbered m.expended)

grouped : (x y z : ℤ) → (x +ℤ y) +ℤ z ≡ x +ℤ (y +ℤ z)
grouped x y z = omega (arith, ints)

pub sum_append : (f : Amounts → ℤ) (line year : ℕ) (xs ys : List LedgerRow) → line_sum f line year (xs ++ ys) ≡ line_sum f line year xs +ℤ line_sum f line year ys
sum_append f line year [] ys = sym (none_first (line_sum f line year ys))
sum_append f line year (x ∷ xs) ys =
    ap (λ z. (if is_of line year x then f x.by else pos 0) +ℤ z) (sum_append f line year xs ys)
    ∙ sym (grouped (if is_of line year x then f x.by else pos 0) (line_sum f line year xs) (line_sum f line year ys))

pub sum_kept : (f : Amounts → ℤ) → ((a : Amounts) → changes a ≡ false → f a ≡ pos 0) → (line year : ℕ) (rows : List LedgerRow) → line_sum f line year (kept rows) ≡ line_sum f line year rows
sum_kept f none line year [] = refl
sum_kept f none line year (r ∷ rows) = by_test (changes r.by) refl (sum_kept f none line year rows)
  where
    zero_if : (b : Bool) (z : ℤ) → z ≡ pos 0 → (if b then z else pos 0) ≡ pos 0
    zero_if true z e = e
    zero_if false z e = refl

    by_test : (b : Bool) → changes r.by ≡ b → line_sum f line year (kept rows) ≡ line_sum f line year rows →
        line_sum f line year (if b then r ∷ kept rows else kept rows) ≡ (if is_of line year r then f r.by else pos 0) +ℤ line_sum f line year rows
    by_test true e more = ap (λ z. (if is_of line year r then f r.by else pos 0) +ℤ z) more
    by_test false e more =
        more ∙ sym (none_first (line_sum f line year rows))
        ∙ ap (λ z. z +ℤ line_sum f line year rows) (sym (zero_if (is_of line year r) (f r.by) (none r.by e)))

pub sum_items : (f : Amounts → ℤ) (plan : Plan) (line year place document item : ℕ) (moves : List Move) → line_sum f line year (item_rows plan place document item moves) ≡ moved_sum (of_move f) plan line year moves
sum_items f plan line year place document item [] = refl
sum_items f plan line year place document item (m ∷ moves) =
    ap (λ z. (if counts plan line year m.account m.year then of_move f m else pos 0) +ℤ z) (sum_items f plan line year place document (item + 1) moves)

pub sum_same : (f : Amounts → ℤ) (plan : Plan) (line year : ℕ) (of : Origin) (moves : List Move) → line_sum f line year (same_rows plan of moves) ≡ moved_sum (of_move f) plan line year moves
sum_same f plan line year of [] = refl
sum_same f plan line year of (m ∷ moves) = ap (λ z. (if counts plan line year m.account m.year then of_move f m else pos 0) +ℤ z) (sum_same f plan line year of moves)

-- ---- pairs of moves

met : (m n : ℕ) → (m == n) ≡ true → m ≡ n
met m n e = grind (arith, common_steps)

split : (a b : Bool) → (a && b) ≡ true → (a ≡ true) × (b ≡ true)
split true b e = (refl, e)
split false b e = cc

same_is : (a b : Option ℕ) → same_number a b ≡ true → a ≡ b
same_is None None e = refl
same_is (Some m) (Some n) e = ap Some (met m n e)
same_is None (Some n) e = cc
same_is (Some m) None e = cc

-- two moves of one line and year count alike
count_alike : (plan : Plan) (line year : ℕ) (a b : Move) → same_place plan a b ≡ true → counts plan line year b.account b.year ≡ counts plan line year a.account a.year
count_alike plan line year a b e =
    let two = split (a.year == b.year) (same_number (line_number plan a.account a.year) (line_number plan b.account b.year)) e in
    λ i. (sym (met a.year b.year two.0) i == year) && is_line line (sym (same_is (line_number plan a.account a.year) (line_number plan b.account b.year) two.1) i)

sum_joined : (f : Amounts → ℤ) (g : ℤ → ℤ) → IsNumber f g → (plan : Plan) (line year : ℕ) (of : Origin) (a b : Move) →
    line_sum f line year (joined plan of a b) ≡ (if counts plan line year a.account a.year then of_move f a else pos 0) +ℤ (if counts plan line year b.account b.year then of_move f b else pos 0)
sum_joined f g number plan line year of a b = by_place (same_place plan a b) refl
  where
    one : (t : Bool) (x y z : ℤ) → z ≡ x +ℤ y → (if t then z else pos 0) +ℤ pos 0 ≡ (if t then x else pos 0) +ℤ (if t then y else pos 0)
    one true x y z e = omega (arith, ints, e)
    one false x y z e = refl

    two : (x y : ℤ) → x +ℤ (y +ℤ pos 0) ≡ x +ℤ y
    two x y = omega (arith, ints)

    by_place : (t : Bool) → same_place plan a b ≡ t →
        line_sum f line year (if t then on_move plan of (with_both a b) ∷ [] else on_move plan of a ∷ on_move plan of b ∷ [])
        ≡ (if counts plan line year a.account a.year then of_move f a else pos 0) +ℤ (if counts plan line year b.account b.year then of_move f b else pos 0)
    by_place true e =
        one (counts plan line year a.account a.year) (of_move f a) (of_move f b) (of_move f (with_both a b)) (number.both a.held a.encumbered a.expended b.held b.encumbered b.expended)
        ∙ ap (λ (t : Bool). (if counts plan line year a.account a.year then of_move f a else pos 0) +ℤ (if t then of_move f b else pos 0)) (sym (count_alike plan line year a b e))
    by_place false e = two (if counts plan line year a.account a.year then of_move f a else pos 0) (if counts plan line year b.account b.year then of_move f b else pos 0)

pub sum_paired : {A : Type 0} (f : Amounts → ℤ) (g : ℤ → ℤ) → IsNumber f g → (plan : Plan) (line year place document item : ℕ) (m n : A → Move) (xs : List A) →
    line_sum f line year (paired_rows plan place document item (map m xs) (map n xs)) ≡ moved_sum (of_move f) plan line year (map m xs) +ℤ moved_sum (of_move f) plan line year (map n xs)
sum_paired f g number plan line year place document item m n [] = refl
sum_paired f g number plan line year place document item m n (x ∷ xs) =
    sum_append f line year (joined plan (origin place document item) (m x) (n x)) (paired_rows plan place document (item + 1) (map m xs) (map n xs))
    ∙ (λ i. sum_joined f g number plan line year (origin place document item) (m x) (n x) i +ℤ sum_paired f g number plan line year place document (item + 1) m n xs i)
    ∙ four (if counts plan line year (m x).account (m x).year then of_move f (m x) else pos 0) (if counts plan line year (n x).account (n x).year then of_move f (n x) else pos 0)
    (moved_sum (of_move f) plan line year (map m xs)) (moved_sum (of_move f) plan line year (map n xs))
  where
    four : (a b c d : ℤ) → (a +ℤ b) +ℤ (c +ℤ d) ≡ (a +ℤ c) +ℤ (b +ℤ d)
    four a b c d = omega (arith, ints)

-- ---- documents by their numbers

pub sum_flat : {A : Type 0} (f : Amounts → ℤ) (line year : ℕ) (rows : A → List LedgerRow) (xs : List A) → line_sum f line year (flat_map rows xs) ≡ int_sum (λ x. line_sum f line year (rows x)) xs
sum_flat f line year rows [] = refl
sum_flat f line year rows (x ∷ xs) = sum_append f line year (rows x) (flat_map rows xs) ∙ ap (λ z. line_sum f line year (rows x) +ℤ z) (sum_flat f line year rows xs)

none_number : (z : ℤ) (k a n : ℕ) → k < a → int_sum (λ m. if m == k then z else pos 0) (range_with_len a n) ≡ pos 0
none_number z k a zero l = refl
none_number z k a (suc n) l =
    (λ i. (if other a k l i then z else pos 0) +ℤ none_number z k (a + 1) n (omega (arith, l)) i)
  where
    other : (a k : ℕ) → k < a → (a == k) ≡ false
    other a k l = grind (arith, common_steps)

one_number : (z : ℤ) (k a n : ℕ) → a ≤ k → k < a + n → int_sum (λ m. if m == k then z else pos 0) (range_with_len a n) ≡ z
one_number z k a zero l m = absurd (omega (arith, l, m))
one_number z k a (suc n) l m = by_test (a == k) refl (λ over. one_number z k (a + 1) n over (omega (arith, m)))
  where
    differs : (a == k) ≡ false → a ≤ k → a + 1 ≤ k
    differs e l = grind (arith, common_steps)

    by_test : (b : Bool) → (a == k) ≡ b → (a + 1 ≤ k → int_sum (λ m. if m == k then z else pos 0) (range_with_len (a + 1) n) ≡ z) →
        (if b then z else pos 0) +ℤ int_sum (λ m. if m == k then z else pos 0) (range_with_len (a + 1) n) ≡ z
    by_test true e later = ap (λ y. z +ℤ y) (none_number z k (a + 1) n (let P : k < a + 1 = omega (arith, met a k e) in P)) ∙ none_last z
    by_test false e later = none_first _ ∙ later (differs e l)

-- each element is in the part of its own number, and in no other
pub sum_numbered : {A : Type 0} (key : A → ℕ) (h : A → ℤ) (most : ℕ) (xs : List A) → AllByRecursion (λ x. (1 ≤ key x) × (key x ≤ most)) xs →
    int_sum (λ n. int_sum h (filter (λ x. n == key x) xs)) (range_with_len 1 most) ≡ int_sum h xs
sum_numbered {A = A} key h most xs drawn =
    totals.sum_same (λ n. int_sum h (filter (λ x. n == key x) xs)) (λ n. int_sum (λ x. if n == key x then h x else pos 0) xs) (λ n. sum_filter h (λ x. n == key x) xs) (range_with_len 1 most)
    ∙ exchange (λ n x. if n == key x then h x else pos 0) (range_with_len 1 most) xs
    ∙ each xs drawn
  where
    each : (ys : List A) → AllByRecursion (λ x. (1 ≤ key x) × (key x ≤ most)) ys → int_sum (λ x. int_sum (λ n. if n == key x then h x else pos 0) (range_with_len 1 most)) ys ≡ int_sum h ys
    each [] all = refl
    each (y ∷ ys) all = λ i. one_number (h y) (key y) 1 most all.0.0 (let P : key y < 1 + most = omega (arith, all.0.1) in P) i +ℤ each ys all.1 i
