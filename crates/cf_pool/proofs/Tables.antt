-- The sums of several funds, movement by movement.
use Rattle.std.proofs.Common.{◌≡◌, ◌≢◌, ℕ, ℤ, pos, ◌+◌, ◌*◌, ◌^◌, ◌<◌, ◌≤◌, ◌+ℤ◌, ◌*ℤ◌, unsigned_abs, FitsSigned, Bool, true, false, true≢false, ◌==◌, if◌then◌else◌, List, [], ◌∷◌, ◌++◌, map, length, take, get_or, set, replicate, Some, None, position, refl, sym, ap, subst, ◌∙◌, arith, eq-eqb, eqb-true, ne_eqb}
use Rattle.cf_base.proofs.Common.{w128, ints, fits_signed_from_abs, take_more, take_all, same_lists, length-map, length-set, get_or-map, get_or-set_same, get_or-set_other, position-Some, sum_by-cons, sum_by-take-le, none-some, mul-le-mul_left}
use Rattle.jiff_core.specs.Calendar.{days_in_month}
use Rattle.jiff_core.proofs.CalendarLemmas.{days_in_month_bounds}
use Rattle.cf_base.specs.declared.calendar.Month.{Month}
use Rattle.cf_chart.specs.Common.{is_rising}
use Rattle.cf_chart.specs.declared.rows.Fund.{Fund}
use Rattle.cf_pool.specs.declared.days.CashMove.{CashMove}
use Rattle.cf_pool.specs.Balances.{day_sum, sizes, stood}
use Rattle.cf_pool.proofs.Places.{apart, fails_at_none}
use Rattle.cf_pool.proofs.Swapped.{part, parts, part_small, sum_small, days_by_moves}

-- ---- one movement more

none_both : (z : ℤ) → z +ℤ pos 0 ≡ pos 0 +ℤ z
none_both z = omega (arith, ints)

sum_three : (a b c : ℤ) → a +ℤ (b +ℤ c) ≡ (a +ℤ b) +ℤ c
sum_three a b c = omega (arith, ints)

parts_push : (moves : List CashMove) (m : CashMove) (month : Month) (fund n : ℕ) → parts (moves ++ m ∷ []) month fund n ≡ parts moves month fund n +ℤ part month fund n m
parts_push [] m month fund n = none_both (part month fund n m)
parts_push (x ∷ moves) m month fund n =
    ap (λ t. part month fund n x +ℤ t) (parts_push moves m month fund n) ∙ sum_three (part month fund n x) (parts moves month fund n) (part month fund n m)

parts_taken : (moves : List CashMove) (month : Month) (fund n i : ℕ) (d : CashMove) → i < length moves
    → parts (take (i + 1) moves) month fund n ≡ parts (take i moves) month fund n +ℤ part month fund n (get_or moves i d)
parts_taken moves month fund n i d h = ap (λ ms. parts ms month fund n) (take_more moves i d h) ∙ parts_push (take i moves) (get_or moves i d) month fund n

none_last : (z : ℤ) → z +ℤ pos 0 ≡ z
none_last z = omega (arith, ints)

pub taken_own : (moves : List CashMove) (month : Month) (fund n i : ℕ) (d : CashMove) → i < length moves → (get_or moves i d).fund ≡ fund
    → parts (take (i + 1) moves) month fund n ≡ parts (take i moves) month fund n +ℤ (get_or moves i d).amount *ℤ pos (stood (get_or moves i d).on month n)
taken_own moves month fund n i d h same =
    let m = get_or moves i d in
    let own : part month fund n m ≡ m.amount *ℤ pos (stood m.on month n) = rw (eq-eqb m.fund fund same) refl in
    parts_taken moves month fund n i d h ∙ ap (λ t. parts (take i moves) month fund n +ℤ t) own

pub taken_other : (moves : List CashMove) (month : Month) (fund n i : ℕ) (d : CashMove) → i < length moves → (get_or moves i d).fund ≢ fund
    → parts (take (i + 1) moves) month fund n ≡ parts (take i moves) month fund n
taken_other moves month fund n i d h other =
    let none : part month fund n (get_or moves i d) ≡ pos 0 = rw (ne_eqb (get_or moves i d).fund fund other) refl in
    parts_taken moves month fund n i d h ∙ ap (λ t. parts (take i moves) month fund n +ℤ t) none ∙ none_last _

-- ---- sizes

part_within : (month : Month) (fund n : ℕ) (m : CashMove) → unsigned_abs (part month fund n m) ≤ n * unsigned_abs m.amount
part_within month fund n m = by (m.fund == fund)
  where
    by : (b : Bool) → unsigned_abs (if b then m.amount *ℤ pos (stood m.on month n) else pos 0) ≤ n * unsigned_abs m.amount
    by true = part_small month n m
    by false = omega arith

pub parts_within : (moves : List CashMove) (month : Month) (fund n : ℕ) → unsigned_abs (parts moves month fund n) ≤ n * sizes moves
parts_within [] month fund n = omega arith
parts_within (m ∷ moves) month fund n =
    let whole = ap (λ t. n * t) (sum_by-cons (λ (x : CashMove). unsigned_abs x.amount) m moves) in
    omega (arith, sum_small (part month fund n m) (parts moves month fund n), part_within month fund n m, parts_within moves month fund n, whole)

pub sum_fits : (moves : List CashMove) (month : Month) (fund n i : ℕ) → n ≤ 31 → sizes moves < 2 ^ 120 → FitsSigned w128 (parts (take i moves) month fund n)
sum_fits moves month fund n i few small =
    let taken = sum_by-take-le (λ (x : CashMove). unsigned_abs x.amount) moves i in
    fits_signed_from_abs w128 (parts (take i moves) month fund n) (omega (arith, small, parts_within (take i moves) month fund n, mul-le-mul_left (sizes (take i moves)) few, taken))

-- ---- the table of the funds' sums

abbrev pub table : List CashMove → Month → ℕ → List Fund → List ℤ
table moves month n funds = map (λ f. parts moves month f.id n) funds

pub no_table : (month : Month) (n : ℕ) (funds : List Fund) → table [] month n funds ≡ replicate (length funds) (pos 0)
no_table month n [] = refl
no_table month n (f ∷ funds) = ap (λ t. pos 0 ∷ t) (no_table month n funds)

at_fund : (moves : List CashMove) (month : Month) (n : ℕ) (funds : List Fund) (k : ℕ) (d : Fund) (z : ℤ) → k < length funds → get_or (table moves month n funds) k z ≡ parts moves month (get_or funds k d).id n
at_fund moves month n funds k d z h = get_or-map (λ (f : Fund). parts moves month f.id n) funds k d z h

-- a fund's sum fits, and so it does with one movement more
pub entry_fits : (moves : List CashMove) (month : Month) (n i : ℕ) (funds : List Fund) (k : ℕ) (d : CashMove) (old : ℤ) → n ≤ 31 → sizes moves < 2 ^ 120
    → position (λ f. f.id == (get_or moves i d).fund) funds ≡ Some k → old ≡ get_or (table (take i moves) month n funds) k old → FitsSigned w128 old
entry_fits moves month n i [] k d old few small at is = absurd (none-some k at)
entry_fits moves month n i (f ∷ funds) k d old few small at is =
    let w = position-Some (λ (g : Fund). g.id == (get_or moves i d).fund) (f ∷ funds) k f at in
    subst (λ z. FitsSigned w128 z) (sym (is ∙ at_fund (take i moves) month n (f ∷ funds) k f old w.0)) (sum_fits moves month (get_or (f ∷ funds) k f).id n i few small)

pub more_fits : (moves : List CashMove) (month : Month) (n i : ℕ) (funds : List Fund) (k : ℕ) (d : CashMove) (old more : ℤ) → n ≤ 31 → sizes moves < 2 ^ 120 → i < length moves
    → position (λ f. f.id == (get_or moves i d).fund) funds ≡ Some k → old ≡ get_or (table (take i moves) month n funds) k old
    → more ≡ (get_or moves i d).amount *ℤ pos (stood (get_or moves i d).on month n) → FitsSigned w128 (old +ℤ more)
more_fits moves month n i [] k d old more few small h at is part = absurd (none-some k at)
more_fits moves month n i (f ∷ funds) k d old more few small h at is part =
    let w = position-Some (λ (g : Fund). g.id == (get_or moves i d).fund) (f ∷ funds) k f at in
    let id = eqb-true (get_or (f ∷ funds) k f).id (get_or moves i d).fund w.1 in
    let next = taken_own moves month (get_or (f ∷ funds) k f).id n i d h (sym id) in
    let fits = sum_fits moves month (get_or (f ∷ funds) k f).id n (i + 1) few small in
    subst (λ z. FitsSigned w128 z) (sym (ap (λ z. z +ℤ more) (is ∙ at_fund (take i moves) month n (f ∷ funds) k f old w.0) ∙ ap (λ z. parts (take i moves) month (get_or (f ∷ funds) k f).id n +ℤ z) part ∙ sym next)) fits

-- a list with one place written
written : (xs ys : List ℤ) (k : ℕ) (v : ℤ) → length xs ≡ length ys → k < length xs → ((d : ℤ) → get_or ys k d ≡ v)
    → ((j : ℕ) (d : ℤ) → j < length ys → j ≢ k → get_or xs j d ≡ get_or ys j d) → set xs k v ≡ ys
written xs ys k v long inside here others = same_lists (set xs k v) ys (length-set xs k v ∙ long) (λ j d l. by j d (omega (arith, l, length-set xs k v, long)) (j == k) refl)
  where
    by : (j : ℕ) (d : ℤ) → j < length ys → (b : Bool) → (j == k) ≡ b → get_or (set xs k v) j d ≡ get_or ys j d
    by j d l true same = rw (eqb-true j k same) (get_or-set_same xs k v d inside ∙ sym (here d))
    by j d l false other = get_or-set_other xs k j v d (λ e. true≢false (sym (eq-eqb j k e) ∙ other)) ∙ others j d l (λ e. true≢false (sym (eq-eqb j k e) ∙ other))

-- a movement of a fund of the table changes its sum alone
pub table_more : (moves : List CashMove) (month : Month) (n i : ℕ) (funds : List Fund) (k : ℕ) (d : CashMove) (old more : ℤ) → is_rising (λ f. f.id) funds ≡ true → i < length moves
    → position (λ f. f.id == (get_or moves i d).fund) funds ≡ Some k → old ≡ get_or (table (take i moves) month n funds) k old
    → more ≡ (get_or moves i d).amount *ℤ pos (stood (get_or moves i d).on month n)
    → set (table (take i moves) month n funds) k (old +ℤ more) ≡ table (take (i + 1) moves) month n funds
table_more moves month n i [] k d old more rising h at is part = refl
table_more moves month n i (f ∷ funds) k d old more rising h at is part =
    let all = f ∷ funds in
    let before = take i moves in
    let after = take (i + 1) moves in
    let m = get_or moves i d in
    let w = position-Some (λ (g : Fund). g.id == m.fund) all k f at in
    let id = eqb-true (get_or all k f).id m.fund w.1 in
    let long = length-map all (λ (g : Fund). parts before month g.id n) in
    let longer = length-map all (λ (g : Fund). parts after month g.id n) in
    let here : old +ℤ more ≡ parts after month (get_or all k f).id n =
    ap (λ z. z +ℤ more) (is ∙ at_fund before month n all k f old w.0) ∙ ap (λ z. parts before month (get_or all k f).id n +ℤ z) part
    ∙ sym (taken_own moves month (get_or all k f).id n i d h (sym id)) in
    written (table before month n all) (table after month n all) k (old +ℤ more) (long ∙ sym longer) (omega (arith, w.0, long))
    (λ e. at_fund after month n all k f e w.0 ∙ sym here)
    (λ j e l differs.
    let inside : j < length all = omega (arith, l, longer) in
    at_fund before month n all j f e inside ∙ sym (taken_other moves month (get_or all j f).id n i d h (λ same. apart (λ (g : Fund). g.id) all j k f rising inside w.0 differs (sym same ∙ sym id)))
    ∙ sym (at_fund after month n all j f e inside))

-- a movement of no fund of the table changes nothing
pub table_same : (moves : List CashMove) (month : Month) (n i : ℕ) (funds : List Fund) (d : CashMove) → i < length moves
    → position (λ f. f.id == (get_or moves i d).fund) funds ≡ None → table (take i moves) month n funds ≡ table (take (i + 1) moves) month n funds
table_same moves month n i [] d h none = refl
table_same moves month n i (f ∷ funds) d h none =
    let all = f ∷ funds in
    let long = length-map all (λ (g : Fund). parts (take i moves) month g.id n) in
    let longer = length-map all (λ (g : Fund). parts (take (i + 1) moves) month g.id n) in
    same_lists (table (take i moves) month n all) (table (take (i + 1) moves) month n all) (long ∙ sym longer)
    (λ j e l.
    let inside : j < length all = omega (arith, l, long) in
    at_fund (take i moves) month n all j f e inside ∙ sym (taken_other moves month (get_or all j f).id n i d h (λ same. fails_at_none (λ (g : Fund). g.id) all (get_or moves i d).fund j f none inside (sym same)))
    ∙ sym (at_fund (take (i + 1) moves) month n all j f e inside))

days_table : (moves : List CashMove) (month : Month) (funds : List Fund) → table moves month (days_in_month (pos month.year) month.month) funds ≡ map (λ f. day_sum moves month f.id) funds
unfolding day_sum
days_table moves month [] = refl
days_table moves month (f ∷ funds) =
    ap (λ t. parts moves month f.id (days_in_month (pos month.year) month.month) ∷ t) (days_table moves month funds)
    ∙ ap (λ t. t ∷ map (λ f. day_sum moves month f.id) funds) (sym (days_by_moves moves month f.id (days_in_month (pos month.year) month.month)))

-- after all movements each sum is its fund's
pub whole_table : (moves : List CashMove) (month : Month) (i : ℕ) (funds : List Fund) → length moves ≤ i
    → table (take i moves) month (days_in_month (pos month.year) month.month) funds ≡ map (λ f. day_sum moves month f.id) funds
whole_table moves month i funds past = ap (λ ms. table ms month (days_in_month (pos month.year) month.month) funds) (take_all i moves past) ∙ days_table moves month funds

pub day_sum_fits : (moves : List CashMove) (month : Month) (fund : ℕ) → sizes moves < 2 ^ 120 → FitsSigned w128 (day_sum moves month fund)
unfolding day_sum
day_sum_fits moves month fund small =
    let n = days_in_month (pos month.year) month.month in
    let few = mul-le-mul_left (sizes moves) (days_in_month_bounds (pos month.year) month.month).0 in
    let fits = fits_signed_from_abs w128 (parts moves month fund n) (omega (arith, small, parts_within moves month fund n, few)) in
    subst (λ z. FitsSigned w128 z) (sym (days_by_moves moves month fund n)) fits
