-- Running sums by fiscal year: what each act adds to them, and what is read of them.
use Rattle.std.proofs.Common.{◌≡◌, ◌⊎◌, inl, inr, ℕ, suc, ◌+◌, ◌-◌, ◌*◌, ◌/◌, ◌<◌, ◌≤◌, min, Bool, true, false, if◌then◌else◌, ◌==◌, nat_lt, nat_le, List, [], ◌∷◌, ◌++◌, sum_by, ℤ, pos, ◌+ℤ◌, ◌-ℤ◌, refl, sym, ap, ◌∙◌, arith}
use Rattle.cf_base.proofs.Common.{eqb_tells, leb_tells, nat_tests, ints, sum_by-cons, sum_by_push}
use Rattle.cf_chart.specs.Common.{Plan}
use Rattle.cf_debt.specs.RegisterView.{AreCharged, AreIssued, ArePaid, amount_of, lease_amount, lease_principal, paid_in, principal_of}
use Rattle.cf_debt.specs.Rows.{lease_part}
use Rattle.cf_register_parts.proofs.Lists.{sum_by-equal, sum_by-plus}
use Rattle.cf_register_parts.specs.Years.{sum_of, sum_through}
use Rattle.cf_model.specs.Common.{Bond, Due, accrued_through, coupon, earned, interest_charge, issues, owed_through, paid_dues, paid_to, issued_in, principal_in, closed_to, year_at, int_sum}
use Rattle.cf_model.specs.Bonds.{leases}
use Rattle.cf_model.proofs.Common.{sum_minus, earned_le, split_sum, sum_pos, sum_same}

-- years' sums rise by an amount from a place on
abbrev pub Rise : List ℕ → List ℕ → ℕ → ℕ → Type 0
Rise old new place amount = (n : ℕ) → sum_of n new ≡ sum_of n old + (if nat_lt place n then amount else 0)

same_test : (year z : ℕ) → 1970 ≤ year → nat_lt (year - 1970) (z - 1969) ≡ nat_le year z
same_test year z l = grind (arith, nat_tests)

pub rise_through : (old new : List ℕ) (year amount z : ℕ) → 1970 ≤ year → Rise old new (year - 1970) amount → sum_through z new ≡ sum_through z old + (if nat_le year z then amount else 0)
rise_through old new year amount z l rise = rise (z - 1969) ∙ ap (λ b. sum_through z old + (if b then amount else 0)) (same_test year z l)

-- ---- a bond more

pub issued_push : (f : Bond → ℕ) (bonds : List Bond) (b : Bond) (old new : List ℕ) → 1970 ≤ b.year → AreIssued f bonds old → Rise old new (b.year - 1970) (f b) → AreIssued f (bonds ++ b ∷ []) new
issued_push f bonds b old new l was rise year =
    rise_through old new b.year (f b) year l rise
    ∙ ap (λ n. n + (if nat_le b.year year then f b else 0)) (was year)
    ∙ sym (sum_by_push (λ (x : Bond). if nat_le x.year year then f x else 0) bonds b)

pub paid_push : (f : Bond → Due → ℕ) (bonds : List Bond) (b : Bond) (cells : List ℕ) → ((n : ℕ) → paid_in n f b ≡ 0) → ArePaid f bonds cells → ArePaid f (bonds ++ b ∷ []) cells
paid_push f bonds b cells none was n = was n ∙ no_more _ _ (none n) ∙ sym (sum_by_push (paid_in n f) bonds b)
  where
    no_more : (x y : ℕ) → y ≡ 0 → x ≡ x + y
    no_more x y e = omega (arith, e)

pub charged_push : (closed : ℕ) (bonds : List Bond) (b : Bond) (cells : List ℕ) → ((m : ℕ) → m ≤ closed → earned m b ≡ 0) → AreCharged closed bonds cells → AreCharged closed (bonds ++ b ∷ []) cells
charged_push closed bonds b cells none was n = was n ∙ no_more _ _ (none (min closed (12 * n)) (omega arith)) ∙ sym (sum_by_push (earned (min closed (12 * n))) bonds b)
  where
    no_more : (x y : ℕ) → y ≡ 0 → x ≡ x + y
    no_more x y e = omega (arith, e)

-- ---- the close of a month

pub charged_close : (closed : ℕ) (bonds : List Bond) (old new : List ℕ) → AreCharged closed bonds old → Rise old new (closed / 12) (sum_by (interest_charge closed) bonds) → AreCharged (closed + 1) bonds new
charged_close closed bonds old new was rise n =
    rise n
    ∙ ap (λ x. x + (if nat_lt (closed / 12) n then sum_by (interest_charge closed) bonds else 0)) (was n)
    ∙ by_test (nat_lt (closed / 12) n) (leb_tells (suc (closed / 12)) n)
  where
    rises : (c0 c1 d1 d0 : ℕ) → d1 ≡ c1 → d0 ≡ c0 → c0 ≤ c1 → d1 ≡ d0 + (c1 - c0)
    rises c0 c1 d1 d0 e f l = omega (arith, e, f, l)

    by_test : (b : Bool) → ((b ≡ true) × (suc (closed / 12) ≤ n)) ⊎ ((b ≡ false) × (n < suc (closed / 12))) →
        sum_by (earned (min closed (12 * n))) bonds + (if b then sum_by (interest_charge closed) bonds else 0) ≡ sum_by (earned (min (closed + 1) (12 * n))) bonds
    by_test true (inl h) =
        let this : min closed (12 * n) ≡ closed = omega (arith, h.1) in
        let next : min (closed + 1) (12 * n) ≡ closed + 1 = omega (arith, h.1) in
        sym (sum_by-equal (earned (min (closed + 1) (12 * n))) (λ b. earned (min closed (12 * n)) b + interest_charge closed b) bonds
        (λ b. rises (earned closed b) (earned (closed + 1) b) _ _ (ap (λ m. earned m b) next) (ap (λ m. earned m b) this) (earned_le b closed (closed + 1) (omega arith)))
        ∙ sum_by-plus (earned (min closed (12 * n))) (interest_charge closed) bonds)
    by_test true (inr h) = cc
    by_test false (inl h) = cc
    by_test false (inr h) =
        let same : min (closed + 1) (12 * n) ≡ min closed (12 * n) = omega (arith, h.1) in
        zero_more _ ∙ sym (ap (λ m. sum_by (earned m) bonds) same)
      where
        zero_more : (x : ℕ) → x + 0 ≡ x
        zero_more x = omega arith

-- ---- reading

-- the fiscal years of the chart up to a year
abbrev pub years_to : Plan → ℕ → ℕ
years_to plan year = year + 1 - plan.first_year

due_test : (plan : Plan) (year m : ℕ) → nat_le (year_at plan m) year ≡ nat_lt (m / 12) (years_to plan year)
due_test plan year m = among plan.first_year year (m / 12)
  where
    among : (first year k : ℕ) → nat_le (first + k) year ≡ nat_lt k (year + 1 - first)
    among first year k = grind (arith, nat_tests)

paid_is : (f : Bond → Due → ℕ) (plan : Plan) (year : ℕ) (b : Bond) → sum_by (λ p. paid_to plan year p (f b p)) (paid_dues b) ≡ paid_in (years_to plan year) f b
paid_is f plan year b =
    sum_by-equal (λ (p : Due). paid_to plan year p (f b p)) (λ p. if nat_lt (p.month / 12) (years_to plan year) then f b p else 0) (paid_dues b) (λ p. ap (λ t. if t then f b p else 0) (due_test plan year p.month))

differences : (f g : Bond → ℕ) (bonds : List Bond) → int_sum (λ b. pos (f b) -ℤ pos (g b)) bonds ≡ pos (sum_by f bonds) -ℤ pos (sum_by g bonds)
differences f g bonds = sum_minus (λ b. pos (f b)) (λ b. pos (g b)) bonds ∙ (λ i. sym (sum_pos f bonds) i -ℤ sym (sum_pos g bonds) i)

pub owed_is : (plan : Plan) (year : ℕ) (bonds : List Bond) (issued repaid : List ℕ) → AreIssued amount_of bonds issued → ArePaid principal_of bonds repaid →
    pos (sum_through year issued) -ℤ pos (sum_of (years_to plan year) repaid) ≡ int_sum (owed_through plan year) bonds
owed_is plan year bonds issued repaid are paid =
    (λ i. pos (are year i) -ℤ pos (paid (years_to plan year) i))
    ∙ sym (differences (λ (b : Bond). if nat_le b.year year then b.amount else 0) (paid_in (years_to plan year) principal_of) bonds)
    ∙ sum_same (λ (b : Bond). pos (if nat_le b.year year then b.amount else 0) -ℤ pos (paid_in (years_to plan year) principal_of b)) (owed_through plan year)
    (λ b. ap (λ n. pos (if nat_le b.year year then b.amount else 0) -ℤ pos n) (sym (paid_is principal_of plan year b))) bonds

pub accrued_is : (plan : Plan) (closed year : ℕ) (bonds : List Bond) (charged coupons : List ℕ) → AreCharged closed bonds charged → ArePaid coupon bonds coupons →
    pos (sum_of (years_to plan year) charged) -ℤ pos (sum_of (years_to plan year) coupons) ≡ int_sum (accrued_through plan closed year) bonds
accrued_is plan closed year bonds charged coupons are paid =
    (λ i. pos (are (years_to plan year) i) -ℤ pos (paid (years_to plan year) i))
    ∙ sym (differences (earned (closed_to plan closed year)) (paid_in (years_to plan year) coupon) bonds)
    ∙ sum_same (λ b. pos (earned (closed_to plan closed year) b) -ℤ pos (paid_in (years_to plan year) coupon b)) (accrued_through plan closed year)
    (λ b. ap (λ n. pos (earned (closed_to plan closed year) b) -ℤ pos n) (sym (paid_is coupon plan year b))) bonds

-- ---- what is of one year

of_year : (y year amount : ℕ) → 1 ≤ year → (if nat_le y year then amount else 0) ≡ (if nat_le y (year - 1) then amount else 0) + (if y == year then amount else 0)
of_year y year amount first = by_tests (nat_le y year) (nat_le y (year - 1)) (y == year) (leb_tells y year) (leb_tells y (year - 1)) (eqb_tells y year)
  where
    by_tests : (a b e : Bool) → ((a ≡ true) × (y ≤ year)) ⊎ ((a ≡ false) × (year < y)) → ((b ≡ true) × (y ≤ year - 1)) ⊎ ((b ≡ false) × (year - 1 < y)) → ((e ≡ true) × (y ≡ year)) ⊎ ((e ≡ false) × (y ≡ year → ⊥)) →
        (if a then amount else 0) ≡ (if b then amount else 0) + (if e then amount else 0)
    by_tests a b e (inl h) (inl k) (inl m) = absurd (omega (arith, k.1, m.1, first))
    by_tests a b e (inl h) (inl k) (inr m) = rw (h.0, k.0, m.0) (omega arith)
    by_tests a b e (inl h) (inr k) (inl m) = rw (h.0, k.0, m.0) (omega arith)
    by_tests a b e (inl h) (inr k) (inr m) = absurd (m.1 (omega (arith, h.1, k.1)))
    by_tests a b e (inr h) (inl k) m = absurd (omega (arith, h.1, k.1))
    by_tests a b e (inr h) (inr k) (inl m) = absurd (omega (arith, h.1, m.1))
    by_tests a b e (inr h) (inr k) (inr m) = rw (h.0, k.0, m.0) refl

due_of_year : (first year k amount : ℕ) → (if nat_lt k (year + 1 - first) then amount else 0) ≡ (if nat_lt k (year + 1 - first - 1) then amount else 0) + (if (first + k) == year then amount else 0)
due_of_year first year k amount =
    by_tests (nat_lt k (year + 1 - first)) (nat_lt k (year + 1 - first - 1)) ((first + k) == year) (leb_tells (suc k) (year + 1 - first)) (leb_tells (suc k) (year + 1 - first - 1)) (eqb_tells (first + k) year)
  where
    by_tests : (a b e : Bool) → ((a ≡ true) × (suc k ≤ year + 1 - first)) ⊎ ((a ≡ false) × (year + 1 - first < suc k)) → ((b ≡ true) × (suc k ≤ year + 1 - first - 1)) ⊎ ((b ≡ false) × (year + 1 - first - 1 < suc k)) →
        ((e ≡ true) × (first + k ≡ year)) ⊎ ((e ≡ false) × (first + k ≡ year → ⊥)) → (if a then amount else 0) ≡ (if b then amount else 0) + (if e then amount else 0)
    by_tests a b e (inl h) (inl p) (inl m) = absurd (omega (arith, p.1, m.1))
    by_tests a b e (inl h) (inl p) (inr m) = rw (h.0, p.0, m.0) (omega arith)
    by_tests a b e (inl h) (inr p) (inl m) = rw (h.0, p.0, m.0) (omega arith)
    by_tests a b e (inl h) (inr p) (inr m) = absurd (m.1 (omega (arith, h.1, p.1)))
    by_tests a b e (inr h) (inl p) m = absurd (omega (arith, h.1, p.1))
    by_tests a b e (inr h) (inr p) (inl m) = absurd (omega (arith, h.1, m.1))
    by_tests a b e (inr h) (inr p) (inr m) = rw (h.0, p.0, m.0) refl

pub issued_year : (f : Bond → ℕ) (year : ℕ) (bonds : List Bond) (cells : List ℕ) → 1 ≤ year → AreIssued f bonds cells →
    sum_through year cells ≡ sum_through (year - 1) cells + sum_by (λ b. if b.year == year then f b else 0) bonds
issued_year f year bonds cells first are =
    are year
    ∙ sum_by-equal (λ (b : Bond). if nat_le b.year year then f b else 0) (λ b. (if nat_le b.year (year - 1) then f b else 0) + (if b.year == year then f b else 0)) bonds (λ b. of_year b.year year (f b) first)
    ∙ sum_by-plus (λ (b : Bond). if nat_le b.year (year - 1) then f b else 0) (λ b. if b.year == year then f b else 0) bonds
    ∙ ap (λ n. n + sum_by (λ (b : Bond). if b.year == year then f b else 0) bonds) (sym (are (year - 1)))

-- the principal of a bond's paid payments that were due in a year
abbrev pub paid_of_year : Plan → ℕ → Bond → ℕ
paid_of_year plan year b = sum_by (λ p. if year_at plan p.month == year then p.principal else 0) (paid_dues b)

paid_more : (plan : Plan) (year : ℕ) (b : Bond) → paid_in (years_to plan year) principal_of b ≡ paid_in (years_to plan year - 1) principal_of b + paid_of_year plan year b
paid_more plan year b =
    sum_by-equal (λ (p : Due). if nat_lt (p.month / 12) (years_to plan year) then p.principal else 0)
    (λ p. (if nat_lt (p.month / 12) (years_to plan year - 1) then p.principal else 0) + (if year_at plan p.month == year then p.principal else 0)) (paid_dues b)
    (λ p. due_of_year plan.first_year year (p.month / 12) p.principal)
    ∙ sum_by-plus (λ (p : Due). if nat_lt (p.month / 12) (years_to plan year - 1) then p.principal else 0) (λ p. if year_at plan p.month == year then p.principal else 0) (paid_dues b)

pub repaid_year : (plan : Plan) (year : ℕ) (bonds : List Bond) (cells : List ℕ) → ArePaid principal_of bonds cells →
    sum_of (years_to plan year) cells ≡ sum_of (years_to plan year - 1) cells + sum_by (paid_of_year plan year) bonds
repaid_year plan year bonds cells are =
    are (years_to plan year)
    ∙ sum_by-equal (paid_in (years_to plan year) principal_of) (λ b. paid_in (years_to plan year - 1) principal_of b + paid_of_year plan year b) bonds (paid_more plan year)
    ∙ sum_by-plus (paid_in (years_to plan year - 1) principal_of) (paid_of_year plan year) bonds
    ∙ ap (λ n. n + sum_by (paid_of_year plan year) bonds) (sym (are (years_to plan year - 1)))

issued_is : (year : ℕ) (bonds : List Bond) (cells : List ℕ) → 1 ≤ year → AreIssued amount_of bonds cells →
    pos (sum_through (year - 1) cells) -ℤ pos (sum_through year cells) ≡ pos 0 -ℤ int_sum (issued_in year) bonds
issued_is year bonds cells first are =
    falls _ _ _ (issued_year amount_of year bonds cells first are) ∙ ap (λ z. pos 0 -ℤ z) (sum_pos (λ (b : Bond). if b.year == year then b.amount else 0) bonds)
  where
    falls : (x y n : ℕ) → y ≡ x + n → pos x -ℤ pos y ≡ pos 0 -ℤ pos n
    falls x y n e = omega (arith, ints, e)

pub principal_is : (plan : Plan) (year : ℕ) (bonds : List Bond) (cells : List ℕ) → ArePaid principal_of bonds cells →
    pos (sum_of (years_to plan year) cells) -ℤ pos (sum_of (years_to plan year - 1) cells) ≡ int_sum (principal_in plan year) bonds
principal_is plan year bonds cells are =
    rises _ _ _ (repaid_year plan year bonds cells are) ∙ sum_pos (paid_of_year plan year) bonds
  where
    rises : (x y n : ℕ) → y ≡ x + n → pos y -ℤ pos x ≡ pos n
    rises x y n e = omega (arith, ints, e)

-- ---- the leases among bonds

-- a sum of what is of leases
lease_sum : (g : Bond → ℤ) (h : Bool → Bond → ℤ) → ((b : Bond) → h true b ≡ g b) → ((b : Bond) → h false b ≡ pos 0) → (bonds : List Bond) → int_sum (λ b. h b.is_lease b) bonds ≡ int_sum g (leases bonds)
lease_sum g h on off [] = refl
lease_sum g h on off (b ∷ bonds) = by_test b.is_lease (lease_sum g h on off bonds)
  where
    nothing : (z w v : ℤ) → z ≡ pos 0 → w ≡ v → z +ℤ w ≡ v
    nothing z w v e f = omega (arith, ints, e, f)

    by_test : (t : Bool) → int_sum (λ x. h x.is_lease x) bonds ≡ int_sum g (leases bonds) →
        h t b +ℤ int_sum (λ x. h x.is_lease x) bonds ≡ int_sum g (if t then b ∷ leases bonds else leases bonds)
    by_test true more = λ i. on b i +ℤ more i
    by_test false more = nothing _ _ _ (off b) more

none_if : (b : Bool) (n : ℕ) → (if b then lease_part false n else 0) ≡ 0
none_if true n = refl
none_if false n = refl

none_paid : (t : Due → Bool) (ps : List Due) → sum_by (λ p. if t p then lease_part false p.principal else 0) ps ≡ 0
none_paid t [] = refl
none_paid t (p ∷ ps) = omega (arith, sum_by-cons (λ (p : Due). if t p then lease_part false p.principal else 0) p ps, none_if (t p) p.principal, none_paid t ps)

pub leases_is : (plan : Plan) (year : ℕ) (bonds : List Bond) (leased repaid : List ℕ) → AreIssued lease_amount bonds leased → ArePaid lease_principal bonds repaid →
    pos (sum_through year leased) -ℤ pos (sum_of (years_to plan year) repaid) ≡ int_sum (owed_through plan year) (leases bonds)
leases_is plan year bonds leased repaid are paid =
    (λ i. pos (are year i) -ℤ pos (paid (years_to plan year) i))
    ∙ sym (differences (λ (b : Bond). if nat_le b.year year then lease_amount b else 0) (paid_in (years_to plan year) lease_principal) bonds)
    ∙ lease_sum (owed_through plan year) part (λ b. ap (λ n. pos (if nat_le b.year year then b.amount else 0) -ℤ pos n) (sym (paid_is principal_of plan year b))) off bonds
  where
    part : Bool → Bond → ℤ
    part t b = pos (if nat_le b.year year then lease_part t b.amount else 0) -ℤ pos (sum_by (λ p. if nat_lt (p.month / 12) (years_to plan year) then lease_part t p.principal else 0) (paid_dues b))

    zero_less : (m n : ℕ) → m ≡ 0 → n ≡ 0 → pos m -ℤ pos n ≡ pos 0
    zero_less m n e f = rw (e, f) refl

    off : (b : Bond) → part false b ≡ pos 0
    off b = zero_less _ _ (none_if (nat_le b.year year) b.amount) (none_paid (λ (p : Due). nat_lt (p.month / 12) (years_to plan year)) (paid_dues b))

pub leases_issued_is : (year : ℕ) (bonds : List Bond) (cells : List ℕ) → 1 ≤ year → AreIssued lease_amount bonds cells →
    pos (sum_through (year - 1) cells) -ℤ pos (sum_through year cells) ≡ pos 0 -ℤ int_sum (issued_in year) (leases bonds)
leases_issued_is year bonds cells first are =
    falls _ _ _ (issued_year lease_amount year bonds cells first are)
    ∙ ap (λ z. pos 0 -ℤ z)
    (sum_pos (λ (b : Bond). if b.year == year then lease_amount b else 0) bonds
    ∙ lease_sum (issued_in year) (λ t b. pos (if b.year == year then lease_part t b.amount else 0)) (λ b. refl) (λ b. ap pos (none_if (b.year == year) b.amount)) bonds)
  where
    falls : (x y n : ℕ) → y ≡ x + n → pos x -ℤ pos y ≡ pos 0 -ℤ pos n
    falls x y n e = omega (arith, ints, e)

-- ---- what is issued and no lease

-- what is of all, less what is of leases
others : (f : Bond → ℤ) (bonds : List Bond) (a b c d : ℕ) → pos a -ℤ pos b ≡ int_sum f bonds → pos c -ℤ pos d ≡ int_sum f (leases bonds) → pos (a + d) -ℤ pos (b + c) ≡ int_sum f (issues bonds)
others f bonds a b c d all part = among a b c d (int_sum f bonds) (int_sum f (leases bonds)) (int_sum f (issues bonds)) all part (split_sum f (λ (x : Bond). x.is_lease) bonds)
  where
    among : (a b c d : ℕ) (x y z : ℤ) → pos a -ℤ pos b ≡ x → pos c -ℤ pos d ≡ y → z +ℤ y ≡ x → pos (a + d) -ℤ pos (b + c) ≡ z
    among a b c d x y z e f g = omega (arith, ints, e, f, g)

pub bonds_is : (plan : Plan) (year : ℕ) (bonds : List Bond) (issued leased repaid leases_repaid : List ℕ) → AreIssued amount_of bonds issued → AreIssued lease_amount bonds leased → ArePaid principal_of bonds repaid → ArePaid lease_principal bonds leases_repaid →
    pos (sum_through year issued + sum_of (years_to plan year) leases_repaid) -ℤ pos (sum_of (years_to plan year) repaid + sum_through year leased) ≡ int_sum (owed_through plan year) (issues bonds)
bonds_is plan year bonds issued leased repaid leases_repaid all part paid part_paid =
    others (owed_through plan year) bonds (sum_through year issued) (sum_of (years_to plan year) repaid) (sum_through year leased) (sum_of (years_to plan year) leases_repaid) (owed_is plan year bonds issued repaid all paid) (leases_is plan year bonds leased leases_repaid part part_paid)

pub proceeds_is : (year : ℕ) (bonds : List Bond) (issued leased : List ℕ) → 1 ≤ year → AreIssued amount_of bonds issued → AreIssued lease_amount bonds leased →
    pos (sum_through (year - 1) issued + sum_through year leased) -ℤ pos (sum_through year issued + sum_through (year - 1) leased) ≡ pos 0 -ℤ int_sum (issued_in year) (issues bonds)
proceeds_is year bonds issued leased first all part =
    among (sum_through (year - 1) issued) (sum_through year issued) (sum_through (year - 1) leased) (sum_through year leased) (int_sum (issued_in year) bonds) (int_sum (issued_in year) (leases bonds)) (int_sum (issued_in year) (issues bonds)) (issued_is year bonds issued first all) (leases_issued_is year bonds leased first part) (split_sum (issued_in year) (λ (x : Bond). x.is_lease) bonds)
  where
    among : (a b c d : ℕ) (x y z : ℤ) → pos a -ℤ pos b ≡ pos 0 -ℤ x → pos c -ℤ pos d ≡ pos 0 -ℤ y → z +ℤ y ≡ x → pos (a + d) -ℤ pos (b + c) ≡ pos 0 -ℤ z
    among a b c d x y z e f g = omega (arith, ints, e, f, g)
