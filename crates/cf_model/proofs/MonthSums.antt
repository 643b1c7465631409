-- The charges of months add up, and interest by civil days.
use Rattle.std.proofs.Common.{◌≡◌, ◌⊎◌, inl, inr, ℕ, zero, suc, ◌+◌, ◌-◌, ◌*◌, ◌/◌, ◌%◌, ◌<◌, ◌≤◌, Bool, true, false, not, if◌then◌else◌, nat_le, List, [], ◌∷◌, sum_by, find, Some, ℤ, pos, ◌+ℤ◌, ◌-ℤ◌, unsigned_abs, refl, sym, ap, ◌∙◌, arith, filter}
use Rattle.cf_base.proofs.Common.{leb_tells, ints}
use Rattle.cf_chart.specs.Common.{Plan}
use Rattle.cf_model.specs.Common.{Asset, Stage, void, disposed, counted, depreciation, Bond, Due, coupon, dues, dues_from, earned, interest_for, charges_to, interest_to, ChargesAddUp, InterestAddsUp, EarnsByDays, days_run, running_interest, start_month}
use Rattle.cf_model.specs.Assets.{held}
use Rattle.cf_model.proofs.Debt.{earned_le, next_part}
use Rattle.cf_model.proofs.Depreciated.{depreciated_le, not_depreciated}
use Rattle.cf_model.proofs.InterestFormula.{days_to, is_running, earned_is, none_earned}

rises : (x d e : ℕ) → x ≡ d → d ≤ e → x + (e - d) ≡ e
rises x d e is l = omega (arith, is, l)

-- ---- depreciation

counted_le : (m n : ℕ) (s : Stage) → m ≤ n → counted s m ≤ counted s n
counted_le m n held l = l
counted_le m n void l = omega arith
counted_le m n (disposed year closed) l = omega arith

never_falls : (m n : ℕ) (a : Asset) → m ≤ n → depreciation m a ≤ depreciation n a
never_falls m n a l = depreciated_le a.cost a.life (counted a.stage m - a.service) (counted a.stage n - a.service) (omega (arith, counted_le m n a.stage l))

none_counted : (s : Stage) → counted s 0 ≡ 0
none_counted held = refl
none_counted void = refl
none_counted (disposed year closed) = omega arith

none_at_first : (a : Asset) → 0 ≡ depreciation 0 a
none_at_first a = omega (arith, not_depreciated a.cost a.life (counted a.stage 0 - a.service) (omega (arith, none_counted a.stage)))

pub charges_add_up : ChargesAddUp
charges_add_up a zero = none_at_first a
charges_add_up a (suc months) =
    rises (charges_to months a) (depreciation months a) (depreciation (months + 1) a) (charges_add_up a months) (never_falls months (months + 1) a (omega arith)) ∙ ap (λ n. depreciation n a) (next months)
  where
    next : (n : ℕ) → n + 1 ≡ suc n
    next n = omega arith

-- ---- interest

pub interest_adds_up : InterestAddsUp
interest_adds_up b zero first = omega (arith, none_earned b 0 (omega arith) first)
interest_adds_up b (suc months) first =
    rises (interest_to months b) (earned months b) (earned (months + 1) b) (interest_adds_up b months first) (earned_le b months (months + 1) (omega arith)) ∙ ap (λ n. earned n b) (next months)
  where
    next : (n : ℕ) → n + 1 ≡ suc n
    next n = omega arith

-- ---- days

twelves : (n : ℕ) → 12 * (n / 12) + n % 12 ≡ n
twelves n = omega arith

-- of the months of two numbers
apart : (from month day y m y' m' x : ℕ) → 12 * y + m ≡ x + from → 12 * y' + m' ≡ x + month → from ≤ month → 1 ≤ day → day ≤ 28 →
    (pos (360 * y' + 30 * (m' + 1) + 1) -ℤ pos (360 * y + 30 * (m + 1) + day)) +ℤ pos 30 ≡ pos (30 * (month - from) + 31 - day)
apart from month day y m y' m' x first last l d e = omega (arith, ints, first, last, l, d, e)

days_are : (plan : Plan) (month : ℕ) (b : Bond) (p : Due) → p.from ≤ month → 1 ≤ b.day → b.day ≤ 28 → days_to b month p ≡ days_run plan month b p
days_are plan month b p l first last =
    let x = start_month plan - 1 in
    ap (λ z. unsigned_abs z)
    (sym (apart p.from month b.day ((x + p.from) / 12) ((x + p.from) % 12) ((x + month) / 12) ((x + month) % 12) x (twelves (x + p.from)) (twelves (x + month)) l first last))

by_days : (plan : Plan) (b : Bond) (month from owed : ℕ) (principals : List ℕ) → from ≤ month → 1 ≤ b.day → b.day ≤ 28 →
    next_part (λ p. interest_for b p (days_to b month p)) (find (is_running month) (dues_from b.every from owed principals))
    ≡ running_interest plan month b (find (λ p. not (nat_le p.month month)) (dues_from b.every from owed principals))
by_days plan b month from owed [] l first last = refl
by_days plan b month from owed (p ∷ principals) l first last =
    by_test (nat_le (from + b.every) month) (leb_tells (from + b.every) month) (λ more. by_days plan b month (from + b.every) (owed - p) principals more first last)
  where
    by_test : (t : Bool) → ((t ≡ true) × (from + b.every ≤ month)) ⊎ ((t ≡ false) × (month < from + b.every)) →
        (from + b.every ≤ month →
        next_part (λ p. interest_for b p (days_to b month p)) (find (is_running month) (dues_from b.every (from + b.every) (owed - p) principals))
        ≡ running_interest plan month b (find (λ p. not (nat_le p.month month)) (dues_from b.every (from + b.every) (owed - p) principals))) →
        next_part (λ p. interest_for b p (days_to b month p))
        (if not t then Some (record { from = from; month = from + b.every; owed = owed; principal = p }) else find (is_running month) (dues_from b.every (from + b.every) (owed - p) principals))
        ≡ running_interest plan month b
        (if not t then Some (record { from = from; month = from + b.every; owed = owed; principal = p }) else find (λ p. not (nat_le p.month month)) (dues_from b.every (from + b.every) (owed - p) principals))
    by_test true (inl h) more = more h.1
    by_test true (inr h) more = cc
    by_test false h more =
        let q : Due = record { from = from; month = from + b.every; owed = owed; principal = p } in
        ap (λ n. interest_for b q n) (days_are plan month b q l first last)

pub earns_by_days : EarnsByDays
earns_by_days plan b month l some first last =
    earned_is b month l some first last ∙ ap (λ n. sum_by (coupon b) (filter (λ p. nat_le p.month month) (dues b)) + n) (by_days plan b month b.month b.amount b.principals l first last)
