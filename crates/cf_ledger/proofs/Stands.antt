-- Cells that stand for posts, and for one post more.
use Rattle.std.proofs.Common.{◌≡◌, ℕ, ◌+◌, ◌-◌, ◌<◌, ◌≤◌, ◌^◌, ◌⊎◌, inl, inr, Bool, true, false, if◌then◌else◌, ◌==◌, ◌&&◌, ◌||◌, nat_le, Result, Ok, Err, OnOk, List, [], ◌∷◌, ◌++◌, length, get_or, Some, is_some, ℤ, pos, ◌+ℤ◌, FitsSigned, refl, sym, ap, subst, ◌∙◌, arith, All}
use Rattle.cf_base.proofs.Common.{eqb_tells, ints, common_steps, get_or-set_at, get_or-set_other, length-set, list_any, keys_of, is_at, w128}
use Rattle.cf_ledger.specs.declared.post.Post.{Post}
use Rattle.cf_ledger.specs.declared.places.Place.{Place}
use Rattle.cf_ledger.specs.Books.{Posted, has_place}
use Rattle.cf_ledger.specs.Places.{Rows, place_cmp, row_of, has_row, cells_at, PutsCells, AreCounted, KeepsRows, SameRows, ReadsSame}
use Rattle.cf_ledger.specs.Posts.{sum_where, sizes, is_of, IsInYears}
use Rattle.cf_ledger.specs.Years.{sum_of, cell_of, raised, CanRaise, StandsFor}
use Rattle.cf_ledger.proofs.PlaceRows.{same_place, there}
use Rattle.cf_ledger.proofs.Sums.{part, sum_push, sum_fits, stands_sum}

-- the keys of the rows are the places
pub has_key : (rows : Rows) (fund account : ℕ) → has_row rows fund account ≡ list_any (λ p. (fund == p.fund) && (account == p.account)) (keys_of rows)
has_key [] fund account = refl
has_key (e ∷ rows) fund account =
    let here : Place = record { fund = fund; account = account } in
    by_test (is_at (place_cmp here) e.0) ((fund == e.0.fund) && (account == e.0.account)) (same_place here e.0) (has_key rows fund account)
  where
    by_test : (b d : Bool) → b ≡ d → has_row rows fund account ≡ list_any (λ p. (fund == p.fund) && (account == p.account)) (keys_of rows) →
        is_some (if b then Some e.1 else row_of rows fund account) ≡ (d || list_any (λ p. (fund == p.fund) && (account == p.account)) (keys_of rows))
    by_test true true same more = refl
    by_test true false same more = cc
    by_test false true same more = cc
    by_test false false same more = more

same : (n : ℕ) → (n == n) ≡ true
same n = grind (arith, common_steps)

and_true : (b : Bool) → (b && true) ≡ b
and_true true = refl
and_true false = refl

and_false : (b : Bool) → (b && false) ≡ false
and_false true = refl
and_false false = refl

pub keeps_keys : (old new : Rows) → KeepsRows old new → (fund account : ℕ) →
    list_any (λ p. (fund == p.fund) && (account == p.account)) (keys_of old) ≡ true → list_any (λ p. (fund == p.fund) && (account == p.account)) (keys_of new) ≡ true
keeps_keys old new keeps fund account e = sym (has_key new fund account) ∙ keeps fund account (has_key old fund account ∙ e)

pub same_keeps : (old new : Rows) → SameRows old new → KeepsRows old new
same_keeps old new rows fund account e = rows fund account ∙ e

-- each sum of cells that stand for posts fits
pub all_fit : (test : Post → Bool) (posts : List Post) (cells : List ℤ) → All IsInYears posts → sizes posts < 2 ^ 127 → StandsFor test posts cells → (n : ℕ) → FitsSigned w128 (sum_of n cells)
all_fit test posts cells years small stands n =
    subst (FitsSigned w128) (sym (stands_sum test posts cells years stands n)) (sum_fits (λ p. test p && nat_le p.year (n + 1969)) posts small)

-- cells that read the same stand for the same
pub stands_same : (old new : Rows) → ReadsSame old new → (posts : List Post) → ((f a : ℕ) → StandsFor (is_of f a) posts (cells_at old f a)) → (f a : ℕ) → StandsFor (is_of f a) posts (cells_at new f a)
stands_same old new same posts stands f a k = same f a k ∙ stands f a k

-- ---- one post more in its year

year_cell : (test : Post → Bool) (posts : List Post) (p : Post) (cells : List ℤ) → StandsFor test posts cells → IsInYears p →
    cell_of cells p.year +ℤ part test p ≡ sum_where (λ q. test q && (q.year == (p.year - 1970) + 1970)) (posts ++ p ∷ [])
year_cell test posts p cells stands years =
    let first : 1971 ≤ p.year = years.first in
    let back : p.year ≡ (p.year - 1970) + 1970 = omega arith in
    let here : part test p ≡ part (λ q. test q && (q.year == (p.year - 1970) + 1970)) p =
    ap (λ (b : Bool). if b then p.amount else pos 0) (sym (ap (λ (y : ℕ). test p && (p.year == y)) (sym back) ∙ ap (λ b. test p && b) (same p.year) ∙ and_true (test p))) in
    (λ i. stands (p.year - 1970) i +ℤ here i) ∙ sym (sum_push (λ q. test q && (q.year == (p.year - 1970) + 1970)) posts p)

pub can_raise : (test : Post → Bool) (posts : List Post) (p : Post) (cells : List ℤ) → StandsFor test posts cells → length cells ≡ 231 → IsInYears p →
    sizes (posts ++ p ∷ []) < 2 ^ 127 → CanRaise cells p.year (part test p)
can_raise test posts p cells stands count years small =
    let first : 1971 ≤ p.year = years.first in
    record {
      count = count;
      first = omega arith;
      last = years.last;
      fits = subst (FitsSigned w128) (sym (year_cell test posts p cells stands years)) (sum_fits (λ q. test q && (q.year == (p.year - 1970) + 1970)) (posts ++ p ∷ []) small);
    }

-- a post in another year, or that does not pass
none_here : (test : Post → Bool) (p : Post) (k : ℕ) → (test p && (p.year == k + 1970)) ≡ false → part (λ q. test q && (q.year == k + 1970)) p ≡ pos 0
none_here test p k e = rw e refl

stays : (test : Post → Bool) (posts : List Post) (p : Post) (cells : List ℤ) (k : ℕ) → StandsFor test posts cells → (test p && (p.year == k + 1970)) ≡ false →
    get_or cells k (pos 0) ≡ sum_where (λ q. test q && (q.year == k + 1970)) (posts ++ p ∷ [])
stays test posts p cells k stands e =
    stands k ∙ none_more (sum_where (λ q. test q && (q.year == k + 1970)) posts)
    ∙ (λ i. sum_where (λ q. test q && (q.year == k + 1970)) posts +ℤ sym (none_here test p k e) i)
    ∙ sym (sum_push (λ q. test q && (q.year == k + 1970)) posts p)
  where
    none_more : (a : ℤ) → a ≡ a +ℤ pos 0
    none_more a = omega (arith, ints)

not_year : (y k : ℕ) → (y - 1970 ≡ k → ⊥) → (y == k + 1970) ≡ false
not_year y k apart = by_test (eqb_tells y (k + 1970))
  where
    by_test : (((y == k + 1970) ≡ true) × (y ≡ k + 1970)) ⊎ (((y == k + 1970) ≡ false) × (y ≡ k + 1970 → ⊥)) → (y == k + 1970) ≡ false
    by_test (inl at) = absurd (apart (omega arith))
    by_test (inr other) = other.0

pub stands_push : (test : Post → Bool) (posts : List Post) (p : Post) (cells : List ℤ) → StandsFor test posts cells → length cells ≡ 231 → IsInYears p →
    StandsFor test (posts ++ p ∷ []) (raised cells p.year (part test p))
stands_push test posts p cells stands count years k = by_test (eqb_tells (p.year - 1970) k)
  where
    by_test : (((p.year - 1970) == k) ≡ true) × (p.year - 1970 ≡ k) ⊎ ((((p.year - 1970) == k) ≡ false) × (p.year - 1970 ≡ k → ⊥)) →
        get_or (raised cells p.year (part test p)) k (pos 0) ≡ sum_where (λ q. test q && (q.year == k + 1970)) (posts ++ p ∷ [])
    by_test (inl at) =
        let year = p.year - 1970 in
        let within : p.year - 1970 < length cells = (let last : p.year ≤ 2200 = years.last in omega arith) in
        get_or-set_at cells year k (cell_of cells p.year +ℤ part test p) (pos 0) (sym at.1) within
        ∙ year_cell test posts p cells stands years
        ∙ ap (λ n. sum_where (λ q. test q && (q.year == n + 1970)) (posts ++ p ∷ [])) at.1
    by_test (inr apart) =
        get_or-set_other cells (p.year - 1970) k (cell_of cells p.year +ℤ part test p) (pos 0) (λ e. apart.1 (sym e))
        ∙ stays test posts p cells k stands (ap (λ b. test p && b) (not_year p.year k apart.1) ∙ and_false (test p))

pub stands_other : (test : Post → Bool) (posts : List Post) (p : Post) (cells : List ℤ) → test p ≡ false → StandsFor test posts cells → StandsFor test (posts ++ p ∷ []) cells
stands_other test posts p cells e stands k = stays test posts p cells k stands (ap (λ b. b && (p.year == k + 1970)) e)

of_itself : (p : Post) → part (is_of p.fund p.account) p ≡ p.amount
of_itself p = rw (same p.fund, same p.account) refl

pub can_raise_row : (posts : List Post) (p : Post) (cells : List ℤ) → StandsFor (is_of p.fund p.account) posts cells → length cells ≡ 231 → IsInYears p →
    sizes (posts ++ p ∷ []) < 2 ^ 127 → CanRaise cells p.year p.amount
can_raise_row posts p cells stands count years small =
    subst (λ (a : ℤ). CanRaise cells p.year a) (of_itself p) (can_raise (is_of p.fund p.account) posts p cells stands count years small)

pub rows_push : (posts : List Post) (p : Post) (old new : Rows) → ((f a : ℕ) → StandsFor (is_of f a) posts (cells_at old f a)) → length (cells_at old p.fund p.account) ≡ 231 → IsInYears p →
    PutsCells old new p.fund p.account (raised (cells_at old p.fund p.account) p.year p.amount) →
    (f a : ℕ) → StandsFor (is_of f a) (posts ++ p ∷ []) (cells_at new f a)
rows_push posts p old new stands count years puts f a = by_test ((p.fund == f) && (p.account == a)) refl
  where
    by_test : (b : Bool) → ((p.fund == f) && (p.account == a)) ≡ b → StandsFor (is_of f a) (posts ++ p ∷ []) (cells_at new f a)
    by_test true e =
        let itself : StandsFor (is_of p.fund p.account) (posts ++ p ∷ []) (raised (cells_at old p.fund p.account) p.year p.amount) =
        subst (λ (b : ℤ). StandsFor (is_of p.fund p.account) (posts ++ p ∷ []) (raised (cells_at old p.fund p.account) p.year b)) (of_itself p)
        (stands_push (is_of p.fund p.account) posts p (cells_at old p.fund p.account) (stands p.fund p.account) count years) in
        subst (λ (cells : List ℤ). StandsFor (is_of f a) (posts ++ p ∷ []) cells)
        (sym (puts f a ∙ ap (λ b. if b then raised (cells_at old p.fund p.account) p.year p.amount else cells_at old f a) e))
        (there (λ m n. StandsFor (is_of m n) (posts ++ p ∷ []) (raised (cells_at old p.fund p.account) p.year p.amount)) p.fund p.account f a e itself)
    by_test false e =
        subst (λ (cells : List ℤ). StandsFor (is_of f a) (posts ++ p ∷ []) cells)
        (sym (puts f a ∙ ap (λ b. if b then raised (cells_at old p.fund p.account) p.year p.amount else cells_at old f a) e))
        (stands_other (is_of f a) posts p (cells_at old f a) e (stands f a))

-- ---- posts added one after another

-- ---- places reserved one after another

-- the places of the first so many posts are reserved
abbrev pub HasFirst : Posted → List Post → ℕ → Type 0
HasFirst book posts n = (k : ℕ) (d : Post) → k < n → k < length posts → has_place book (get_or posts k d).fund (get_or posts k d).account ≡ true

-- ---- what holds of no posts, and of a result

pub no_years : All IsInYears []
no_years k d l = absurd (omega arith)

pub no_rows_counted : AreCounted []
no_rows_counted fund account e = cc

pub on_ok : {X E P Q : Type 0} → (r : Result X E) → (P → Q) → OnOk r P → OnOk r Q
on_ok (Ok x) f h = f h
on_ok (Err e) f h = h

pub counted_puts : (old new : Rows) (fund account : ℕ) (cells : List ℤ) → PutsCells old new fund account cells → length cells ≡ 231 → SameRows old new → AreCounted old → AreCounted new
counted_puts old new fund account cells puts count same counted f a has = ap length (puts f a) ∙ by_test ((fund == f) && (account == a))
  where
    by_test : (b : Bool) → length (if b then cells else cells_at old f a) ≡ 231
    by_test true = count
    by_test false = counted f a (sym (same f a) ∙ has)

pub raised_count : (cells : List ℤ) (year : ℕ) (amount : ℤ) → length cells ≡ 231 → length (raised cells year amount) ≡ 231
raised_count cells year amount count = length-set cells (year - 1970) (cell_of cells year +ℤ amount) ∙ count
