-- What is posted through a day is in the years of the books, and far smaller than 128 bits allow.
use Rattle.std.proofs.Common.{◌≡◌, ℕ, ◌+◌, ◌<◌, ◌≤◌, ◌*◌, ◌^◌, ◌==◌, ◌&&◌, nat_le, Bool, true, false, cond, if◌then◌else◌, List, [], ◌∷◌, ◌++◌, flat_map, map, length, ℤ, pos, ◌+ℤ◌, unsigned_abs, refl, sym, ap, subst, ◌∙◌, arith, All, filter}
use Rattle.cf_base.proofs.Common.{AllByRecursion, ints, sum_by-append, sum_by-cons, All-from_recursion, recursion_from_All}
use Rattle.cf_model.specs.Common.{Day, Entry, Basis, Gov as GovBasis, Adds, IsLegal}
use Rattle.cf_base.specs.Common.{most_entries}
use Rattle.cf_journal_book.proofs.Watched.{posted_push}
use Rattle.cf_journal_book.specs.Watching.{Posted, all_posted, next_posted}
use Rattle.cf_calls.specs.declared.read.Basis.TheVariants.{Fund as FundBasis}
use Rattle.cf_chart.specs.Common.{Plan}
use Rattle.cf_ledger.specs.declared.post.Post.{Post}
use Rattle.cf_ledger.specs.Books.{Books, posts_of}
use Rattle.cf_ledger.specs.Posts.{balance, is_in_total, is_of, sizes, sum_where, IsInYears}
use Rattle.cf_ledger.proofs.Sums.{within_sizes}
use Rattle.cf_model.proofs.Common.{IsWhole, legal_induction, legal_push, posts_years, posts_small}
use Rattle.cf_books_days.specs.Through.{fund_balance_in, fund_posts, gov_posts, is_through, posts_by, seen_through}
use Rattle.cf_books_days.specs.Ledgers.{as_balance, in_balance}
use Rattle.cf_books_days.proofs.Whole.{fund_all, gov_all}

-- ---- sizes

part_small : (f : Posted → List Post) (test : Posted → Bool) (seen : List Posted) → sizes (flat_map f (filter test seen)) ≤ sizes (flat_map f seen)
part_small f test [] = omega arith
part_small f test (x ∷ seen) = rw (sum_by-append (λ (p : Post). unsigned_abs p.amount) (f x) (flat_map f seen)) (by_test (test x) (part_small f test seen))
  where
    by_test : (b : Bool) → sizes (flat_map f (filter test seen)) ≤ sizes (flat_map f seen) → sizes (flat_map f (cond b (x ∷ filter test seen) (filter test seen))) ≤ sizes (f x) + sizes (flat_map f seen)
    by_test true later = rw (sum_by-append (λ (p : Post). unsigned_abs p.amount) (f x) (flat_map f (filter test seen))) (omega (arith, later))
    by_test false later = omega (arith, later)

pub fund_small : (plan : Plan) (day : Day) (h : List Entry) → IsWhole plan → IsLegal plan h → length h ≤ most_entries → sizes (fund_posts (seen_through plan day h)) < 2 ^ 104
fund_small plan day h whole legal few =
    let all : sizes (fund_posts (all_posted plan h)) ≤ 1000000000000000000000000 * length h = rw (fund_all plan h) (posts_small FundBasis plan h whole.few_functions legal) in
    omega (arith, few, all, part_small (λ x. x.fund) (λ x. is_through day x.entry.change.on) (all_posted plan h))

pub gov_small : (plan : Plan) (day : Day) (h : List Entry) → IsWhole plan → IsLegal plan h → length h ≤ most_entries → sizes (gov_posts (seen_through plan day h)) < 2 ^ 104
gov_small plan day h whole legal few =
    let all : sizes (gov_posts (all_posted plan h)) ≤ 1000000000000000000000000 * length h = rw (gov_all plan h) (posts_small GovBasis plan h whole.few_functions legal) in
    omega (arith, few, all, part_small (λ x. x.gov) (λ x. is_through day x.entry.change.on) (all_posted plan h))

-- so is each balance
pub balance_small : (posts : List Post) (year fund account : ℕ) → sizes posts < 2 ^ 104 → unsigned_abs (balance posts year fund account) < 2 ^ 104
balance_small posts year fund account small = omega (arith, small, within_sizes (λ p. is_of fund account p && nat_le p.year year) posts)

-- ---- years

abbrev AreInYears : Posted → Type 0
AreInYears x = AllByRecursion IsInYears x.fund × AllByRecursion IsInYears x.gov

push_all : (seen : List Posted) (x : Posted) → AllByRecursion AreInYears seen → AreInYears x → AllByRecursion AreInYears (seen ++ x ∷ [])
push_all [] x all one = (one, tt)
push_all (y ∷ seen) x all one = (all.0, push_all seen x all.1 one)

record IsPosted (plan : Plan) (h : List Entry) : Type 0 where
  pub legal : IsLegal plan h
  pub years : AllByRecursion AreInYears (all_posted plan h)

all_years : (plan : Plan) (h : List Entry) → IsWhole plan → IsLegal plan h → AllByRecursion AreInYears (all_posted plan h)
all_years plan h whole legal = (legal_induction plan (IsPosted plan) (record { legal = tt; years = tt }) step h legal).years
  where
    step : (h : List Entry) (e : Entry) → IsPosted plan h → Adds plan h e → IsPosted plan (h ++ e ∷ [])
    step h e is adds = record {
      legal = legal_push plan h e is.legal adds;
      years = subst (AllByRecursion AreInYears) (sym (posted_push plan h e))
          (push_all (all_posted plan h) (next_posted plan h e) is.years
          (recursion_from_All IsInYears _ (posts_years FundBasis plan h e whole is.legal adds), recursion_from_All IsInYears _ (posts_years GovBasis plan h e whole is.legal adds)));
    }

both_all : (xs ys : List Post) → AllByRecursion IsInYears xs → AllByRecursion IsInYears ys → AllByRecursion IsInYears (xs ++ ys)
both_all [] ys here there = there
both_all (x ∷ xs) ys here there = (here.0, both_all xs ys here.1 there)

part_years : (f : Posted → List Post) (test : Posted → Bool) (seen : List Posted) → AllByRecursion (λ x. AllByRecursion IsInYears (f x)) seen → AllByRecursion IsInYears (flat_map f (filter test seen))
part_years f test [] all = tt
part_years f test (x ∷ seen) all = by_test (test x) (part_years f test seen all.1)
  where
    by_test : (b : Bool) → AllByRecursion IsInYears (flat_map f (filter test seen)) → AllByRecursion IsInYears (flat_map f (cond b (x ∷ filter test seen) (filter test seen)))
    by_test true later = both_all (f x) (flat_map f (filter test seen)) all.0 later
    by_test false later = later

firsts : (seen : List Posted) → AllByRecursion AreInYears seen → AllByRecursion (λ x. AllByRecursion IsInYears x.fund) seen
firsts [] all = tt
firsts (x ∷ seen) all = (all.0.0, firsts seen all.1)

seconds : (seen : List Posted) → AllByRecursion AreInYears seen → AllByRecursion (λ x. AllByRecursion IsInYears x.gov) seen
seconds [] all = tt
seconds (x ∷ seen) all = (all.0.1, seconds seen all.1)

pub fund_years : (plan : Plan) (day : Day) (h : List Entry) → IsWhole plan → IsLegal plan h → All IsInYears (fund_posts (seen_through plan day h))
fund_years plan day h whole legal =
    All-from_recursion IsInYears _ (part_years (λ x. x.fund) (λ x. is_through day x.entry.change.on) (all_posted plan h) (firsts (all_posted plan h) (all_years plan h whole legal)))

pub gov_years : (plan : Plan) (day : Day) (h : List Entry) → IsWhole plan → IsLegal plan h → All IsInYears (gov_posts (seen_through plan day h))
gov_years plan day h whole legal =
    All-from_recursion IsInYears _ (part_years (λ x. x.gov) (λ x. is_through day x.entry.change.on) (all_posted plan h) (seconds (all_posted plan h) (all_years plan h whole legal)))

-- ---- fund balances, as of one account of each fund

balance_years : (posts : List Post) → AllByRecursion IsInYears posts → AllByRecursion IsInYears (in_balance posts)
balance_years [] all = tt
balance_years (p ∷ posts) all = by_test (is_in_total p) (balance_years posts all.1)
  where
    by_test : (b : Bool) → AllByRecursion IsInYears (in_balance posts) →
        AllByRecursion IsInYears (map as_balance (cond b (p ∷ filter is_in_total posts) (filter is_in_total posts)))
    by_test true later = (record { first = all.0.first; last = all.0.last }, later)
    by_test false later = later

pub in_balance_years : (posts : List Post) → All IsInYears posts → All IsInYears (in_balance posts)
in_balance_years posts all = All-from_recursion IsInYears _ (balance_years posts (recursion_from_All IsInYears posts all))

pub in_balance_small : (posts : List Post) → sizes (in_balance posts) ≤ sizes posts
in_balance_small [] = omega arith
in_balance_small (p ∷ posts) = rw (sum_by-cons (λ (q : Post). unsigned_abs q.amount) p posts) (by_test (is_in_total p) (in_balance_small posts))
  where
    by_test : (b : Bool) → sizes (in_balance posts) ≤ sizes posts →
        sizes (map as_balance (cond b (p ∷ filter is_in_total posts) (filter is_in_total posts))) ≤ unsigned_abs p.amount + sizes posts
    by_test true later = rw (sum_by-cons (λ (q : Post). unsigned_abs q.amount) (as_balance p) (in_balance posts)) (omega (arith, later))
    by_test false later = omega (arith, later)

pub in_balance_is : (posts : List Post) (year fund : ℕ) → balance (in_balance posts) year fund 0 ≡ fund_balance_in year fund posts
in_balance_is [] year fund = refl
in_balance_is (p ∷ posts) year fund = by_test (is_in_total p) (p.fund == fund) (nat_le p.year year) (in_balance_is posts year fund)
  where
    no_more : (z : ℤ) → z ≡ pos 0 +ℤ z
    no_more z = omega (arith, ints)

    by_test : (b f y : Bool) → balance (in_balance posts) year fund 0 ≡ fund_balance_in year fund posts →
        sum_where (λ q. is_of fund 0 q && nat_le q.year year) (map as_balance (cond b (p ∷ filter is_in_total posts) (filter is_in_total posts)))
        ≡ (if ((p.fund == fund) && b) && nat_le p.year year then p.amount else pos 0) +ℤ fund_balance_in year fund posts
    by_test true f y later = ap (λ z. (if ((p.fund == fund) && true) && nat_le p.year year then p.amount else pos 0) +ℤ z) later
    by_test false f y later = later ∙ no_more (fund_balance_in year fund posts) ∙ ap (λ z. z +ℤ fund_balance_in year fund posts) (sym (none (p.fund == fund) (nat_le p.year year)))
      where
        none : (f y : Bool) → (if (f && false) && y then p.amount else pos 0) ≡ pos 0
        none true y = refl
        none false y = refl

-- ---- on either basis

pub posts_are : (books : Books) (seen : List Posted) → posts_of books FundBasis ≡ fund_posts seen → posts_of books GovBasis ≡ gov_posts seen → (basis : Basis) → posts_of books basis ≡ posts_by basis seen
posts_are books seen fund gov FundBasis = fund
posts_are books seen fund gov GovBasis = gov

pub by_small : (plan : Plan) (day : Day) (h : List Entry) → IsWhole plan → IsLegal plan h → length h ≤ most_entries → (basis : Basis) → sizes (posts_by basis (seen_through plan day h)) < 2 ^ 104
by_small plan day h whole legal few FundBasis = fund_small plan day h whole legal few
by_small plan day h whole legal few GovBasis = gov_small plan day h whole legal few
