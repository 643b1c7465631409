-- Days by their number: each number from 0 to 84005 has one day, and each from 0 to 84370 a month.
use Rattle.std.proofs.Common.{◌≡◌, ℕ, zero, suc, ◌+◌, ◌-◌, ◌<◌, ◌≤◌, Bool, ◌&&◌, true, false, cond, nat_lt, refl, sym, ap, subst, ◌∙◌, arith, inl, inr, ℤ, pos}
use Rattle.std.proofs.Common.{unsigned_abs, negsuc}
use lib.Signed.{lt_z}
use Rattle.std.proofs.lemmas.Bool.{cases_lt, lt-ltb, le-ltb, leb-true, le-leb}
use Rattle.jiff_core.specs.declared.civil.date.Date.{Date}
use Rattle.jiff_core.specs.Calendar.{days_in_month, day_count, IsCivilDate}
use Rattle.jiff_core.specs.Date.{epoch_day}
use Rattle.jiff_core.proofs.SignedLemmas.{signed_arith}
use Rattle.jiff_core.proofs.MarchLemmas.{day_count-early}
use Rattle.jiff_core.proofs.CalendarLemmas.{days_from_civil-day_count, days_in_month_bounds, day_count-day, day_count-next_month, day_count-next_year, day_count-last_of_year, day_count-lt_year, day_count-epoch}
use Rattle.jiff_core.proofs.DateLemmas.{epoch_day_injective}
use Rattle.cf_base.specs.declared.calendar.Day.{Day}
use Rattle.cf_base.specs.Common.{is_day, next_day, day_number, day_of_number}

-- what it takes to be a civil day from 1970 to the end of a year
pub record Within (last : ℕ) (d : Day) : Type 0 where
  pub from : 1970 ≤ d.year
  pub to : d.year ≤ last
  pub first_month : 1 ≤ d.month
  pub last_month : d.month ≤ 12
  pub first_day : 1 ≤ d.day
  pub last_day : d.day ≤ days_in_month (pos d.year) d.month

-- what it takes to be a day of the office
abbrev pub Parts : Day → Type 0
Parts d = Within 2199 d

both : (a b : Bool) → (a && b) ≡ true → (a ≡ true) × (b ≡ true)
both true true e = (refl, refl)
both true false e = absurd cc
both false b e = absurd cc

join : (a b : Bool) → a ≡ true → b ≡ true → (a && b) ≡ true
join true true h k = refl
join true false h k = absurd cc
join false b h k = absurd cc

pub parts : (d : Day) → is_day d ≡ true → Parts d
parts d h =
    let a = both _ _ h in
    let b = both _ _ a.0 in
    let c = both _ _ b.0 in
    let e = both _ _ c.0 in
    let f = both _ _ e.0 in
    record { from = leb-true _ _ f.0; to = leb-true _ _ f.1; first_month = leb-true _ _ e.1; last_month = leb-true _ _ c.1; first_day = leb-true _ _ b.1; last_day = leb-true _ _ a.1 }

pub is_day_from : (d : Day) → Parts d → is_day d ≡ true
is_day_from d p = join _ _ (join _ _ (join _ _ (join _ _ (join _ _ (le-leb _ _ p.from) (le-leb _ _ p.to)) (le-leb _ _ p.first_month)) (le-leb _ _ p.last_month)) (le-leb _ _ p.first_day)) (le-leb _ _ p.last_day)

civil : {last : ℕ} (d : Day) → last ≤ 2200 → Within last d → IsCivilDate (pos d.year) d.month d.day
civil d le p = ((omega (arith, signed_arith), omega (arith, signed_arith)), (omega arith, omega arith), (omega arith, omega arith))

-- the same day with its year as a signed number
as_date : {last : ℕ} (d : Day) → last ≤ 2200 → Within last d → Date
as_date d le p = let c = civil d le p in record { year = pos d.year; month = d.month; day = d.day; year_in = c.0; month_in = c.1; day_in = c.2 }

abbrev count : Day → ℕ
count d = day_count (pos d.year) d.month d.day

end : day_count (pos 2200) 1 1 ≡ 4455959
end = day_count-early (pos 2200) 12199 1 1 refl (omega arith) (omega arith) (omega arith)

later_end : day_count (pos 2201) 1 1 ≡ 4456324
later_end = day_count-early (pos 2201) 12200 1 1 refl (omega arith) (omega arith) (omega arith)

number_is : (d : Day) (n : ℕ) → count d ≡ 4371953 + n → day_number d ≡ pos n
number_is d n h = omega (arith, signed_arith, days_from_civil-day_count (pos d.year) d.month d.day)

-- which day comes after
data Next (d : Day) : Day → Type 0 where
  in_month : d.day < days_in_month (pos d.year) d.month → Next d (record { year = d.year; month = d.month; day = d.day + 1 })
  to_month : days_in_month (pos d.year) d.month ≤ d.day → d.month < 12 → Next d (record { year = d.year; month = d.month + 1; day = 1 })
  to_year : days_in_month (pos d.year) d.month ≤ d.day → 12 ≤ d.month → Next d (record { year = d.year + 1; month = 1; day = 1 })

chosen : (day k month : ℕ) (a b c : Day) (P : Day → Type 0) → (day < k → P a) → (k ≤ day → month < 12 → P b) → (k ≤ day → 12 ≤ month → P c) → P (cond (nat_lt day k) a (cond (nat_lt month 12) b c))
chosen day k month a b c P pa pb pc = elim (cases_lt day k) [
  | inl lt ↦ subst (λ (t : Bool). P (cond t a (cond (nat_lt month 12) b c))) (sym (lt-ltb day k lt)) (pa lt)
  | inr ge ↦ subst (λ (t : Bool). P (cond t a (cond (nat_lt month 12) b c))) (sym (le-ltb day k ge)) (elim (cases_lt month 12) [
    | inl lt ↦ subst (λ (t : Bool). P (cond t b c)) (sym (lt-ltb month 12 lt)) (pb ge lt)
    | inr le ↦ subst (λ (t : Bool). P (cond t b c)) (sym (le-ltb month 12 le)) (pc ge le)
  ])
]

next_is : (d : Day) → Next d (next_day d)
next_is d = chosen d.day (days_in_month (pos d.year) d.month) d.month _ _ _ (Next d) (λ h. in_month h) (λ h k. to_month h k) (λ h k. to_year h k)

thirty_one : (y : ℤ) (m : ℕ) → m ≡ 12 → days_in_month y m ≡ 31
thirty_one y m e = rw e refl

-- the day after has the next number
next_count : {last : ℕ} (d x : Day) → Within last d → Next d x → count x ≡ count d + 1
next_count d x p (in_month h) = omega (arith, day_count-day (pos d.year) d.month d.day (d.day + 1) p.first_day (omega arith))
next_count d x p (to_month h k) = omega (arith, p.last_day, day_count-next_month (pos d.year) d.month p.first_month, day_count-day (pos d.year) d.month d.day 1 p.first_day (omega arith))
next_count d x p (to_year h k) =
    let december : d.month ≡ 12 = omega (arith, p.last_month) in
    let last : d.day ≡ 31 = omega (arith, p.last_day, thirty_one (pos d.year) d.month december) in
    let is : count d ≡ day_count (pos d.year) 12 31 = rw (december, last) refl in
    omega (arith, is, day_count-next_year (pos d.year) (pos (d.year + 1)) (omega (arith, signed_arith)) (omega (arith, signed_arith)), day_count-last_of_year (pos d.year))

next_parts : (last : ℕ) (d x : Day) → Within last d → count d + 1 < day_count (pos (last + 1)) 1 1 → Next d x → Within last x
next_parts last d x p lt (in_month h) = record { from = p.from; to = p.to; first_month = p.first_month; last_month = p.last_month; first_day = omega arith; last_day = omega (arith, h) }
next_parts last d x p lt (to_month h k) = record { from = p.from; to = p.to; first_month = omega arith; last_month = omega arith; first_day = omega arith; last_day = omega (arith, days_in_month_bounds (pos d.year) (d.month + 1)) }
next_parts last d x p lt (to_year h k) =
    let more = next_count d x p (to_year h k) in
    let before : d.year < last = elim (cases_lt d.year last) [
      | inl less ↦ less
      | inr ge ↦ let is : d.year + 1 ≡ last + 1 = omega (arith, p.to) in absurd (omega (arith, more, lt, ap (λ (y : ℕ). day_count (pos y) 1 1) is))
    ] in
    record { from = omega (arith, p.from); to = omega arith; first_month = omega arith; last_month = omega arith; first_day = omega arith; last_day = omega (arith, days_in_month_bounds (pos (d.year + 1)) 1) }

reached_in : (last n : ℕ) → 1970 ≤ last → 4371953 + n < day_count (pos (last + 1)) 1 1 → Within last (day_of_number n) × (count (day_of_number n) ≡ 4371953 + n)
unfolding day_of_number
reached_in last zero from lt = (record { from = omega arith; to = from; first_month = omega arith; last_month = omega arith; first_day = omega arith; last_day = omega arith }, day_count-epoch)
reached_in last (suc n) from lt =
    let r = reached_in last n from (omega (arith, lt)) in
    let d = day_of_number n in
    (next_parts last d (next_day d) r.0 (omega (arith, r.1, lt)) (next_is d), next_count d (next_day d) r.0 (next_is d) ∙ omega (arith, r.1))

pub reached : (n : ℕ) → n ≤ 84005 → Parts (day_of_number n) × (count (day_of_number n) ≡ 4371953 + n)
reached n le = reached_in 2199 n (omega arith) (omega (arith, le, end))

-- and a year further, where windows end
pub reached_later : (n : ℕ) → n ≤ 84370 → Within 2200 (day_of_number n) × (count (day_of_number n) ≡ 4371953 + n)
reached_later n le = reached_in 2200 n (omega arith) (omega (arith, le, later_end))

same : (a b : Day) → a.year ≡ b.year → a.month ≡ b.month → a.day ≡ b.day → a ≡ b
same a b y m d =
    let f : ℕ → Day = λ k. record { year = k; month = a.month; day = a.day } in
    let g : ℕ → Day = λ k. record { year = b.year; month = k; day = a.day } in
    let h : ℕ → Day = λ k. record { year = b.year; month = b.month; day = k } in
    ap f y ∙ ap g m ∙ ap h d

year_is : (a b : ℕ) → pos a ≡ pos b → a ≡ b
year_is a b e = cc

-- a date with that number is that day
pub later_day_with : (n : ℕ) (date : Date) → n ≤ 84370 → epoch_day date ≡ pos n → (date.year ≡ pos (day_of_number n).year) × (date.month ≡ (day_of_number n).month) × (date.day ≡ (day_of_number n).day)
unfolding as_date
later_day_with n date le e =
    let r = reached_later n le in
    epoch_day_injective date (as_date (day_of_number n) (omega arith) r.0) (e ∙ sym (number_is (day_of_number n) n r.1))

pub day_with : (n : ℕ) (date : Date) → n ≤ 84005 → epoch_day date ≡ pos n → (date.year ≡ pos (day_of_number n).year) × (date.month ≡ (day_of_number n).month) × (date.day ≡ (day_of_number n).day)
day_with n date le e = later_day_with n date (omega (arith, le)) e

pub day_at : (n : ℕ) → n ≤ 84005 → (is_day (day_of_number n) ≡ true) × (day_number (day_of_number n) ≡ pos n)
day_at n le = let r = reached n le in (is_day_from (day_of_number n) r.0, number_is (day_of_number n) n r.1)

-- the numbers of the office's days
bounds : (d : Day) → Parts d → (4371953 ≤ count d) × (count d < 4455959)
bounds d p = (
  omega (
    arith,
    day_count-lt_year (pos 1969) 12 31 (pos d.year) d.month d.day ((omega (arith, signed_arith), omega (arith, signed_arith)), (omega arith, omega arith), (omega arith, omega (arith, thirty_one (pos 1969) 12 refl))) p.first_day (omega (arith, signed_arith)),
    day_count-next_year (pos 1969) (pos 1970) (omega (arith, signed_arith)) refl,
    day_count-last_of_year (pos 1969),
    day_count-epoch,
  ),
  omega (arith, day_count-lt_year (pos d.year) d.month d.day (pos 2200) 1 1 (civil d (omega arith) p) (omega arith) (omega (arith, signed_arith)), end),
)

pub number_of : (d : Day) → is_day d ≡ true → (n : ℕ) × (n ≤ 84005) × (day_number d ≡ pos n) × (day_of_number n ≡ d)
unfolding as_date
number_of d h =
    let p = parts d h in
    let b = bounds d p in
    let n = count d - 4371953 in
    let is : count d ≡ 4371953 + n = omega (arith, b.0) in
    let le : n ≤ 84005 = omega (arith, b.1) in
    let e = number_is d n is in
    let w = day_with n (as_date d (omega arith) p) le e in
    (n, le, e, sym (same d (day_of_number n) (year_is _ _ w.0) w.1 w.2))

-- the day that a date with that number makes
pub made_day : (n : ℕ) (date : Date) (year : ℕ) → n ≤ 84005 → epoch_day date ≡ pos n → pos year ≡ date.year → record { year = year; month = date.month; day = date.day } ≡ day_of_number n
made_day n date year le e y = let w = day_with n date le e in same _ (day_of_number n) (year_is _ _ (y ∙ w.0)) w.1 w.2

-- a signed number that isn't negative, and at most a limit
pub nonnegative : (z : ℤ) → lt_z z (pos 0) ≡ false → z ≡ pos (unsigned_abs z)
nonnegative (pos n) h = refl
nonnegative (negsuc n) h = absurd cc

pub at_most : (n k : ℕ) → lt_z (pos k) (pos n) ≡ false → n ≤ k
at_most n k h = omega (arith, signed_arith)
