-- The sum of the balances of some accounts, of which each account that is posted to is one.
use Rattle.std.proofs.Common.{◌≡◌, ℕ, ◌+◌, Bool, true, false, if◌then◌else◌, ◌==◌, ◌&&◌, nat_le, List, [], ◌∷◌, ℤ, pos, neg_ℤ, ◌+ℤ◌, ◌-ℤ◌, refl, sym, ap, ◌∙◌, arith}
use Rattle.cf_base.proofs.Common.{AllByRecursion, ints, sum_by-cons}
use Rattle.cf_chart.specs.declared.rows.Fund.{Fund}
use Rattle.cf_ledger.specs.declared.post.Post.{Post}
use Rattle.cf_ledger.specs.Posts.{balance, sum_where}
use Rattle.cf_model.specs.Common.{int_sum}
use Rattle.cf_statements.specs.Sums as statement
use Rattle.cf_model.proofs.Common.{none_first, one_passes, passing, sum_none, sum_plus, sum_same}

-- ---- an amount that is counted as often as a test passes, which is once or never

none_counted : {A : Type 0} (p : A → Bool) (x : ℤ) (xs : List A) → passing p xs ≡ 0 → int_sum (λ a. if p a then x else pos 0) xs ≡ pos 0
none_counted p x [] e = refl
none_counted p x (a ∷ xs) e = by_test (p a) (sym (sum_by-cons (λ a. if p a then 1 else 0) a xs) ∙ e) (none_counted p x xs)
  where
    by_test : (b : Bool) → (if b then 1 else 0) + passing p xs ≡ 0 → (passing p xs ≡ 0 → int_sum (λ a. if p a then x else pos 0) xs ≡ pos 0) →
        (if b then x else pos 0) +ℤ int_sum (λ a. if p a then x else pos 0) xs ≡ pos 0
    by_test true e more = absurd (omega (arith, e))
    by_test false e more = none_first (int_sum (λ a. if p a then x else pos 0) xs) ∙ more (omega (arith, e))

counted : {A : Type 0} (p : A → Bool) (q : Bool) (x : ℤ) (xs : List A) → passing p xs ≡ (if q then 1 else 0) → int_sum (λ a. if p a then x else pos 0) xs ≡ (if q then x else pos 0)
counted p true x xs e = one_passes p x xs e
counted p false x xs e = none_counted p x xs e

and_true : (b : Bool) → (b && true) ≡ b
and_true true = refl
and_true false = refl

and_false : (b : Bool) → (b && false) ≡ false
and_false true = refl
and_false false = refl

one_post : (b q c : Bool) (n : ℕ) (x : ℤ) (accounts : List ℕ) → (b ≡ true → passing (λ a. n == a) accounts ≡ (if q then 1 else 0)) →
    int_sum (λ a. if (b && (n == a)) && c then x else pos 0) accounts ≡ (if (b && q) && c then x else pos 0)
one_post true q true n x accounts e =
    sum_same (λ a. if (n == a) && true then x else pos 0) (λ a. if n == a then x else pos 0) (λ a. ap (λ t. if t then x else pos 0) (and_true (n == a))) accounts
    ∙ counted (λ a. n == a) q x accounts (e refl) ∙ ap (λ t. if t then x else pos 0) (sym (and_true q))
one_post true q false n x accounts e =
    sum_none (λ a. if (n == a) && false then x else pos 0) (λ a. ap (λ t. if t then x else pos 0) (and_false (n == a))) accounts ∙ ap (λ t. if t then x else pos 0) (sym (and_false q))
one_post false q c n x accounts e = sum_none (λ (a : ℕ). pos 0) (λ a. refl) accounts

-- an account of a fund is one of these where a test says so of its posts, and none of these else
abbrev pub IsCounted : List ℕ → (Post → Bool) → ℕ → Post → Type 0
IsCounted accounts test fund p = (p.fund == fund) ≡ true → passing (λ a. p.account == a) accounts ≡ (if test p then 1 else 0)

-- so their balances sum to the amounts of these posts
pub balances_sum : (accounts : List ℕ) (test : Post → Bool) (year fund : ℕ) (posts : List Post) → AllByRecursion (IsCounted accounts test fund) posts →
    int_sum (λ a. balance posts year fund a) accounts ≡ sum_where (λ p. ((p.fund == fund) && test p) && nat_le p.year year) posts
balances_sum accounts test year fund [] all = sum_none (λ (a : ℕ). pos 0) (λ a. refl) accounts
balances_sum accounts test year fund (p ∷ posts) all =
    sum_plus (λ a. if ((p.fund == fund) && (p.account == a)) && nat_le p.year year then p.amount else pos 0) (λ a. balance posts year fund a) accounts
    ∙ (λ i. one_post (p.fund == fund) (test p) (nat_le p.year year) p.account p.amount accounts all.0 i +ℤ balances_sum accounts test year fund posts all.1 i)

-- ---- over funds

one_fund : (q c : Bool) (n : ℕ) (x : ℤ) (funds : List Fund) → passing (λ (f : Fund). n == f.id) funds ≡ 1 →
    int_sum (λ (f : Fund). if ((n == f.id) && q) && c then x else pos 0) funds ≡ (if q && c then x else pos 0)
one_fund true true n x funds e =
    sum_same (λ (f : Fund). if ((n == f.id) && true) && true then x else pos 0) (λ (f : Fund). if n == f.id then x else pos 0)
    (λ f. ap (λ t. if t then x else pos 0) (and_true ((n == f.id) && true) ∙ and_true (n == f.id))) funds
    ∙ one_passes (λ (f : Fund). n == f.id) x funds e
one_fund true false n x funds e =
    sum_none (λ (f : Fund). if ((n == f.id) && true) && false then x else pos 0) (λ f. ap (λ t. if t then x else pos 0) (and_false ((n == f.id) && true))) funds
one_fund false c n x funds e =
    sum_none (λ (f : Fund). if ((n == f.id) && false) && c then x else pos 0) (λ f. ap (λ t. if t && c then x else pos 0) (and_false (n == f.id))) funds

-- what the funds have comes to what all have, where each post is of one of them
pub funds_sum : (funds : List Fund) (test : Post → Bool) (year : ℕ) (posts : List Post) → AllByRecursion (λ (p : Post). passing (λ (f : Fund). p.fund == f.id) funds ≡ 1) posts →
    int_sum (λ (f : Fund). sum_where (λ p. ((p.fund == f.id) && test p) && nat_le p.year year) posts) funds ≡ sum_where (λ p. test p && nat_le p.year year) posts
funds_sum funds test year [] all = sum_none (λ (f : Fund). pos 0) (λ f. refl) funds
funds_sum funds test year (p ∷ posts) all =
    sum_plus (λ (f : Fund). if ((p.fund == f.id) && test p) && nat_le p.year year then p.amount else pos 0)
    (λ (f : Fund). sum_where (λ p. ((p.fund == f.id) && test p) && nat_le p.year year) posts) funds
    ∙ (λ i. one_fund (test p) (nat_le p.year year) p.fund p.amount funds all.0 i +ℤ funds_sum funds test year posts all.1 i)

-- ---- sums of what rows show of a year, which is the change of a balance

pub where_is : {A : Type 0} (test : A → Bool) (f : A → ℤ) (xs : List A) → statement.sum_where test f xs ≡ int_sum (λ x. if test x then f x else pos 0) xs
where_is test f [] = refl
where_is test f (x ∷ xs) = ap (λ z. (if test x then f x else pos 0) +ℤ z) (where_is test f xs)

pub debit_change : {A : Type 0} (a b : A → ℤ) (xs : List A) → int_sum (λ x. a x -ℤ b x) xs ≡ int_sum a xs -ℤ int_sum b xs
debit_change a b [] = refl
debit_change a b (x ∷ xs) = more (a x) (b x) (int_sum (λ x. a x -ℤ b x) xs) (int_sum a xs) (int_sum b xs) (debit_change a b xs)
  where
    more : (x y r z w : ℤ) → r ≡ z -ℤ w → (x -ℤ y) +ℤ r ≡ (x +ℤ z) -ℤ (y +ℤ w)
    more x y r z w e = omega (arith, ints, e)

pub credit_change : {A : Type 0} (a b : A → ℤ) (xs : List A) → int_sum (λ x. neg_ℤ (a x -ℤ b x)) xs ≡ int_sum b xs -ℤ int_sum a xs
credit_change a b [] = refl
credit_change a b (x ∷ xs) = more (a x) (b x) (int_sum (λ x. neg_ℤ (a x -ℤ b x)) xs) (int_sum a xs) (int_sum b xs) (credit_change a b xs)
  where
    more : (x y r z w : ℤ) → r ≡ w -ℤ z → neg_ℤ (x -ℤ y) +ℤ r ≡ (y +ℤ w) -ℤ (x +ℤ z)
    more x y r z w e = omega (arith, ints, e)
