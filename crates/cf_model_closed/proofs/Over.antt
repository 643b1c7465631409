-- A closed fiscal year is over: the month in which its longest window ends is closed. So every
-- month that isn't closed is of the open year or of a later one, and so is an entry's day.
use Rattle.std.proofs.Common.{◌≡◌, ◌⊎◌, inl, inr, ℕ, suc, ◌+◌, ◌-◌, ◌*◌, ◌<◌, ◌≤◌, Bool, true, false, not, if◌then◌else◌, ◌==◌, List, [], ◌∷◌, ◌++◌, None, refl, sym, ap, subst, ◌∙◌, arith}
use Rattle.cf_base.proofs.Common.{cases_lt, leb_tells, eqb_tells}
use Rattle.cf_model.specs.Common.{Day, Act, Close, Entry, year_of_day, is_month_closed, open_year, open_year_after, start_month, number_of_day, year_at, Registers, no_registers, registers_of, closed_after, closing_refusal, closed_refusal, window_refusal, window_month, Adds, IsLegal}
use Rattle.cf_calls.specs.declared.acts.Period.TheVariants as period
use Rattle.cf_calls.specs.declared.refusal.Refusal.TheVariants as refusal
use Rattle.cf_calls.specs.Common.{IsActInForm, IsYear}
use Rattle.cf_chart.specs.Common.{Plan}
use Rattle.cf_model.proofs.Common.{accepted, refuse_none, legal_induction, legal_push, closed_are, HasCalendar, ClosedAre, early, day_year_is, closes_open, open_year_push, years_are, registers_push}
use Rattle.cf_model_closed.proofs.Days.{window_number, window_named, end_le}

-- what holds of the empty history and is kept by each step over a legal history holds of each legal
-- one
pub legal_by_steps : (plan : Plan) (P : List Entry → Type 0) → P [] → ((h : List Entry) (e : Entry) → IsLegal plan h → P h → Adds plan h e → P (h ++ e ∷ [])) →
    (history : List Entry) → IsLegal plan history → P history
legal_by_steps plan P start step history legal =
    (legal_induction plan (λ h. IsLegal plan h × P h) (tt, start) (λ h e has adds. (legal_push plan h e has.0 adds, step h e has.0 has.1 adds)) history legal).1

-- how many months are closed after one entry more
pub closed_push : (plan : Plan) (h : List Entry) (e : Entry) → (registers_of plan (h ++ e ∷ [])).closed ≡ closed_after e.change.act (registers_of plan h).closed
closed_push plan h e = ap (λ (s : Registers). s.closed) (registers_push plan no_registers h e)

-- ---- the windows of closed years

-- a year that a call may state, whose longest window ends in a closed month
pub record IsOver (plan : Plan) (closed year : ℕ) : Type 0 where
  pub stated : IsYear year
  pub window : window_number plan year < start_month plan + closed

abbrev pub AreOver : Plan → ℕ → ℕ → Type 0
AreOver plan closed u = (year : ℕ) → plan.first_year ≤ year → year < u → IsOver plan closed year

closed_window : (plan : Plan) (h : List Entry) (year : ℕ) → ClosedAre plan h → window_refusal plan h (Close (period.Year year)) ≡ None → window_number plan year < start_month plan + (registers_of plan h).closed
closed_window plan h year are none =
    less _ (leb_tells (suc (window_number plan year)) (start_month plan + (registers_of plan h).closed))
    (sym (are (window_month plan year) (window_named plan year)) ∙ not_false _ (refuse_none (not (is_month_closed plan h (window_month plan year))) (refusal.WindowOpen (window_month plan year)) none))
  where
    not_false : (b : Bool) → not b ≡ false → b ≡ true
    not_false true e = refl
    not_false false e = cc

    less : (b : Bool) → ((b ≡ true) × (suc (window_number plan year) ≤ start_month plan + (registers_of plan h).closed)) ⊎ ((b ≡ false) × (start_month plan + (registers_of plan h).closed < suc (window_number plan year))) →
        b ≡ true → window_number plan year < start_month plan + (registers_of plan h).closed
    less b (inl t) e = omega (arith, t.1)
    less b (inr t) e = absurd (cc)

more_closed : (plan : Plan) (closed more year : ℕ) → closed ≤ more → IsOver plan closed year → IsOver plan more year
more_closed plan closed more year l over = record { stated = over.stated; window = omega (arith, l, over.window) }

over_by : (plan : Plan) (h : List Entry) (on : Day) (act : Act) (u : ℕ) → ClosedAre plan h → IsActInForm on act → window_refusal plan h act ≡ None →
    ((y : ℕ) → act ≡ Close (period.Year y) → y ≡ u) → AreOver plan (registers_of plan h).closed u → AreOver plan (closed_after act (registers_of plan h).closed) (open_year_after act u)
over_by plan h on (Close (period.Year y)) u are form none next over year from before =
    elim (cases_lt year u) [
      | inl less ↦ over year from less
      | inr more ↦
          let same : y ≡ year = omega (arith, more, before, next y refl) in
          subst (IsOver plan (registers_of plan h).closed) same (record { stated = form; window = closed_window plan h y are none })
    ]
over_by plan h on (Close (period.Month m)) u are form none next over year from before = more_closed plan (registers_of plan h).closed ((registers_of plan h).closed + 1) year (omega arith) (over year from before)
over_by plan h on _ u are form none next over year from before = over year from before

over_step : (plan : Plan) → HasCalendar plan → (h : List Entry) (e : Entry) → IsLegal plan h → AreOver plan (registers_of plan h).closed (open_year plan h) → Adds plan h e →
    AreOver plan (registers_of plan (h ++ e ∷ [])).closed (open_year plan (h ++ e ∷ []))
over_step plan calendar h e legal over adds =
    let a = accepted plan h e adds in
    let next : (y : ℕ) → e.change.act ≡ Close (period.Year y) → y ≡ open_year plan h =
    λ y is. closes_open plan h e y (subst (λ (x : Act). closing_refusal plan h x ≡ None) is a.closing) (subst (λ (x : Act). closed_refusal plan h e.change.on x ≡ None) is a.closed) in
    let after = over_by plan h e.change.on e.change.act (open_year plan h) (closed_are plan h calendar legal) adds.form.act a.window next over in
    subst (λ (c : ℕ). AreOver plan c (open_year plan (h ++ e ∷ []))) (sym (closed_push plan h e))
    (subst (AreOver plan (closed_after e.change.act (registers_of plan h).closed)) (sym (open_year_push plan h e legal adds)) after)

-- each closed year of a legal history is over
pub are_over : (plan : Plan) (h : List Entry) → HasCalendar plan → IsLegal plan h → AreOver plan (registers_of plan h).closed (open_year plan h)
are_over plan h calendar legal =
    legal_by_steps plan (λ h. AreOver plan (registers_of plan h).closed (open_year plan h)) (λ year from before. absurd (omega (arith, from, before))) (over_step plan calendar) h legal

-- ---- the months that aren't closed

-- all months of the years before the open one are closed
all_closed : (plan : Plan) (closed u : ℕ) → HasCalendar plan → plan.first_year ≤ u → AreOver plan closed u → 12 * u ≤ 12 * plan.first_year + closed
all_closed plan closed u calendar from over =
    elim (cases_lt plan.first_year u) [
      | inl less ↦
          let last = over (u - 1) (omega (arith, less)) (omega (arith, less)) in
          by_first (plan.first_month == 1) (eqb_tells plan.first_month 1) less (bounded _ _ _ (end_le plan (u - 1) calendar last.stated) last.window)
      | inr more ↦ omega (arith, more)
    ]
  where
    bounded : (a b c : ℕ) → a ≤ b → b < c → a < c
    bounded a b c l k = omega (arith, l, k)

    by_first : (b : Bool) → ((b ≡ true) × (plan.first_month ≡ 1)) ⊎ ((b ≡ false) × (plan.first_month ≡ 1 → ⊥)) → plan.first_year < u →
        12 * (u - 1) + (if b then 12 else plan.first_month - 1) < (12 * (if b then plan.first_year else plan.first_year - 1) + plan.first_month) + closed → 12 * u ≤ 12 * plan.first_year + closed
    by_first true (inl t) less l = omega (arith, t.1, less, l)
    by_first true (inr t) less l = cc
    by_first false t less l = omega (arith, less, l, calendar.year, calendar.first)

-- a month that isn't closed is of the open year or of a later one
pub month_from : (plan : Plan) (h : List Entry) (n : ℕ) → HasCalendar plan → IsLegal plan h → (registers_of plan h).closed ≤ n → open_year plan h ≤ year_at plan n
month_from plan h n calendar legal l =
    let closed = all_closed plan (registers_of plan h).closed (open_year plan h) calendar (years_are plan h legal).from (are_over plan h calendar legal) in
    omega (arith, closed, l)

-- the fiscal year of the first month that isn't closed
abbrev pub now_year : Plan → Registers → ℕ
now_year plan s = year_at plan s.closed

-- where an entry stands that the step adds: the fiscal year of its day isn't before that of the
-- first month that isn't closed, which isn't before the open one
pub record IsInTime (plan : Plan) (h : List Entry) (on : Day) : Type 0 where
  pub from : open_year plan h ≤ now_year plan (registers_of plan h)
  pub now : now_year plan (registers_of plan h) ≤ year_of_day plan on
  pub early : (registers_of plan h).closed ≤ number_of_day plan on

pub in_time : (plan : Plan) (h : List Entry) (e : Entry) → HasCalendar plan → IsLegal plan h → Adds plan h e → IsInTime plan h e.change.on
in_time plan h e calendar legal adds =
    let are = closed_are plan h calendar legal in
    let a = accepted plan h e adds in
    let before = early plan h e.change.on are adds.form.on a.period in
    record {
      from = month_from plan h (registers_of plan h).closed calendar legal (omega arith);
      now = omega (arith, before, day_year_is plan h e.change.on calendar are adds.form.on a.period);
      early = before;
    }
