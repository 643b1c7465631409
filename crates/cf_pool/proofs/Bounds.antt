-- The weights come to at most 31 times the sizes of all movements, since the funds of a chart
-- differ.
use Rattle.std.proofs.Common.{◌≡◌, ℕ, ℤ, pos, negsuc, ◌+◌, ◌*◌, ◌^◌, ◌<◌, ◌≤◌, ◌*ℤ◌, unsigned_abs, Bool, true, false, ◌==◌, nat_lt, if◌then◌else◌, is_some, List, [], ◌∷◌, map, sum, refl, ap, ◌∙◌, arith, eqb-true, ltb-true, ne_eqb}
use Rattle.cf_base.proofs.Common.{list_all, and_parts, sum_by-cons, mul-le-mul_left}
use Rattle.jiff_core.specs.Calendar.{days_in_month}
use Rattle.jiff_core.proofs.CalendarLemmas.{days_in_month_bounds}
use Rattle.cf_base.specs.declared.calendar.Month.{Month}
use Rattle.cf_chart.specs.Common.{Plan, is_rising}
use Rattle.cf_chart.specs.declared.rows.Fund.{Fund}
use Rattle.cf_pool.specs.declared.days.CashMove.{CashMove}
use Rattle.cf_pool.specs.Balances.{day_sum, sum_of_days, sizes, stood}
use Rattle.cf_pool.specs.Shares.{above_zero, interest_source, weight_of, weights}
use Rattle.cf_pool.proofs.Swapped.{part, parts, days_by_moves, part_small, sum_small}

-- the sizes of the movements of a fund
abbrev own : ℕ → CashMove → ℕ
own fund m = if m.fund == fund then unsigned_abs m.amount else 0

abbrev sizes_in : List CashMove → ℕ → ℕ
sizes_in [] fund = 0
sizes_in (m ∷ moves) fund = own fund m + sizes_in moves fund

own_small : (month : Month) (fund n : ℕ) (m : CashMove) → unsigned_abs (part month fund n m) ≤ n * own fund m
own_small month fund n m = by (m.fund == fund)
  where
    by : (b : Bool) → unsigned_abs (if b then m.amount *ℤ pos (stood m.on month n) else pos 0) ≤ n * (if b then unsigned_abs m.amount else 0)
    by true = part_small month n m
    by false = omega arith

parts_small : (moves : List CashMove) (month : Month) (fund n : ℕ) → unsigned_abs (parts moves month fund n) ≤ n * sizes_in moves fund
parts_small [] month fund n = omega arith
parts_small (m ∷ moves) month fund n =
    omega (arith, sum_small (part month fund n m) (parts moves month fund n), own_small month fund n m, parts_small moves month fund n)

above_small : (z : ℤ) → above_zero z ≤ unsigned_abs z
above_small (pos n) = omega arith
above_small (negsuc n) = omega arith

weight_small : (plan : Plan) (moves : List CashMove) (month : Month) (fund : ℕ) → weight_of plan moves month fund ≤ 31 * sizes_in moves fund
unfolding day_sum
weight_small plan moves month fund = by (is_some (interest_source plan.sources fund))
  where
    small : above_zero (sum_of_days moves month fund (days_in_month (pos month.year) month.month)) ≤ 31 * sizes_in moves fund
    small =
        let few = mul-le-mul_left (sizes_in moves fund) (days_in_month_bounds (pos month.year) month.month).0 in
        rw (days_by_moves moves month fund (days_in_month (pos month.year) month.month))
        (omega (arith, above_small (parts moves month fund (days_in_month (pos month.year) month.month)), parts_small moves month fund (days_in_month (pos month.year) month.month), few))

    by : (b : Bool) → (if b then above_zero (day_sum moves month fund) else 0) ≤ 31 * sizes_in moves fund
    by true = small
    by false = omega arith

-- ---- over the funds

abbrev over_funds : (ℕ → ℕ) → List Fund → ℕ
over_funds g [] = 0
over_funds g (f ∷ funds) = g f.id + over_funds g funds

over_more : (g h : ℕ → ℕ) → ((k : ℕ) → g k ≤ h k) → (funds : List Fund) → over_funds g funds ≤ over_funds h funds
over_more g h less [] = omega arith
over_more g h less (f ∷ funds) = omega (arith, less f.id, over_more g h less funds)

over_plus : (g h : ℕ → ℕ) (funds : List Fund) → over_funds (λ k. g k + h k) funds ≡ over_funds g funds + over_funds h funds
over_plus g h [] = refl
over_plus g h (f ∷ funds) = omega (arith, over_plus g h funds)

over_times : (n : ℕ) (g : ℕ → ℕ) (funds : List Fund) → over_funds (λ k. n * g k) funds ≡ n * over_funds g funds
over_times n g [] = omega arith
over_times n g (f ∷ funds) = omega (arith, over_times n g funds)

over_none : (funds : List Fund) → over_funds (λ k. 0) funds ≡ 0
over_none [] = refl
over_none (f ∷ funds) = omega (arith, over_none funds)

over_sum : (g : ℕ → ℕ) (funds : List Fund) → sum (map (λ f. g f.id) funds) ≡ over_funds g funds
over_sum g [] = refl
over_sum g (f ∷ funds) = sum_by-cons (λ x. x) (g f.id) (map (λ f. g f.id) funds) ∙ ap (λ t. g f.id + t) (over_sum g funds)

-- one movement is of one fund at most
none_later : (x s : ℕ) (funds : List Fund) (k : ℕ) → x ≡ k → list_all (λ f. nat_lt k f.id) funds ≡ true → over_funds (λ id. if x == id then s else 0) funds ≡ 0
none_later x s [] k e h = refl
none_later x s (f ∷ funds) k e h =
    let p = and_parts (nat_lt k f.id) (list_all (λ f. nat_lt k f.id) funds) h in
    rw (ne_eqb x f.id (λ same. omega (arith, ltb-true k f.id p.0))) (omega (arith, none_later x s funds k e p.1))

once_by : (x s : ℕ) (f : Fund) (funds : List Fund) (b : Bool) → (x == f.id) ≡ b → list_all (λ g. nat_lt f.id g.id) funds ≡ true
    → over_funds (λ id. if x == id then s else 0) funds ≤ s → (if b then s else 0) + over_funds (λ id. if x == id then s else 0) funds ≤ s
once_by x s f funds true same above rest = omega (arith, none_later x s funds f.id (eqb-true x f.id same) above)
once_by x s f funds false same above rest = omega (arith, rest)

own_once : (x s : ℕ) (funds : List Fund) → is_rising (λ f. f.id) funds ≡ true → over_funds (λ id. if x == id then s else 0) funds ≤ s
own_once x s [] rising = omega arith
own_once x s (f ∷ funds) rising =
    let p = and_parts (list_all (λ g. nat_lt f.id g.id) funds) (is_rising (λ f. f.id) funds) rising in
    once_by x s f funds (x == f.id) refl p.0 (own_once x s funds p.1)

funds_small : (moves : List CashMove) (funds : List Fund) → is_rising (λ f. f.id) funds ≡ true → over_funds (sizes_in moves) funds ≤ sizes moves
funds_small [] funds rising = omega (arith, over_none funds)
funds_small (m ∷ moves) funds rising =
    let split = over_plus (λ k. own k m) (sizes_in moves) funds in
    let whole = sum_by-cons (λ (m : CashMove). unsigned_abs m.amount) m moves in
    omega (arith, split, whole, own_once m.fund (unsigned_abs m.amount) funds rising, funds_small moves funds rising)

pub weights_small : (plan : Plan) (moves : List CashMove) (month : Month) → is_rising (λ f. f.id) plan.funds ≡ true → sum (weights plan moves month) ≤ 31 * sizes moves
weights_small plan moves month rising =
    let all = over_sum (weight_of plan moves month) plan.funds in
    let each = over_more (weight_of plan moves month) (λ k. 31 * sizes_in moves k) (weight_small plan moves month) plan.funds in
    let times = over_times 31 (sizes_in moves) plan.funds in
    let few = funds_small moves plan.funds rising in
    omega (arith, all, each, times, few)

pub weights_fit : (plan : Plan) (moves : List CashMove) (month : Month) → is_rising (λ f. f.id) plan.funds ≡ true → sizes moves < 2 ^ 120 → sum (weights plan moves month) < 2 ^ 126
weights_fit plan moves month rising few = omega (arith, weights_small plan moves month rising, few)
