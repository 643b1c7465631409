-- A collection is revenue of the open fiscal year or of a later one: the window of a closed year is
-- over.
use Rattle.std.proofs.Common.{◌≡◌, ◌⊎◌, inl, inr, ℕ, ◌<◌, ◌≤◌, Bool, true, false, if◌then◌else◌, ◌==◌, ◌||◌, List, [], ◌∷◌, ◌++◌, None, refl, sym, subst, arith}
use Rattle.cf_base.proofs.Common.{AllByRecursion, cases_lt, eqb_tells}
use Rattle.cf_model.specs.Common.{Day, Act, Entry, open_year, year_of_day, bills_by, collected_year, window_if, year_in, Registers, no_registers, registers_of, closed_refusal, Adds, IsLegal}
use Rattle.cf_base.specs.Common.{is_in_window, year_end}
use Rattle.cf_calls.specs.declared.acts.Act.TheVariants as act
use Rattle.cf_chart.specs.Common.{Plan, source_at}
use Rattle.cf_model.specs.Receivables.{Bill}
use Rattle.cf_model.proofs.Common.{accepted, closed_are, HasCalendar, from_closed, registers_push, not_closed, all_append}
use Rattle.cf_model_closed.proofs.Days.{in_window, month, window_le, window_number}
use Rattle.cf_model_closed.proofs.Over.{are_over, in_time, legal_by_steps}

-- ---- no bill is levied for a year before the chart's first

abbrev pub IsLeviedFrom : Plan → Bill → Type 0
IsLeviedFrom plan b = plan.first_year ≤ b.levy_year

abbrev AreLevied : Plan → List Entry → Type 0
AreLevied plan h = AllByRecursion (IsLeviedFrom plan) (registers_of plan h).receivables.bills

new_levied : (plan : Plan) (h : List Entry) (number : ℕ) (on : Day) (a : Act) → closed_refusal plan h on a ≡ None → AllByRecursion (IsLeviedFrom plan) (bills_by number a)
new_levied plan h number on (act.Bill b) none = (not_closed plan h b.levy_year none, tt)
new_levied plan h number on _ none = tt

levied_step : (plan : Plan) (h : List Entry) (e : Entry) → IsLegal plan h → AreLevied plan h → Adds plan h e → AreLevied plan (h ++ e ∷ [])
levied_step plan h e legal levied adds =
    subst (λ (s : Registers). AllByRecursion (IsLeviedFrom plan) s.receivables.bills) (sym (registers_push plan no_registers h e))
    (all_append (IsLeviedFrom plan) (registers_of plan h).receivables.bills (bills_by e.drawn.number e.change.act) levied
    (new_levied plan h e.drawn.number e.change.on e.change.act (accepted plan h e adds).closed))

pub levied_from : (plan : Plan) (h : List Entry) → IsLegal plan h → AllByRecursion (IsLeviedFrom plan) (registers_of plan h).receivables.bills
levied_from plan h legal = legal_by_steps plan (AreLevied plan) tt (levied_step plan) h legal

-- ---- a collection

-- no day of a month that isn't closed lies in the window of a closed year
out_of_window : (plan : Plan) (h : List Entry) (e : Entry) (year source : ℕ) → HasCalendar plan → IsLegal plan h → Adds plan h e → plan.first_year ≤ year → year < open_year plan h →
    is_in_window (year_end plan.first_month year) (window_if (source_at plan source)) e.change.on ≡ true → ⊥
out_of_window plan h e year source calendar legal adds from before is_in =
    let over = are_over plan h calendar legal year from before in
    let a = accepted plan h e adds in
    later (month e.change.on) (window_number plan year) _ (in_window plan year e.change.on (window_if (source_at plan source)) calendar over.stated adds.form.on (window_le source plan.sources) is_in)
    over.window (from_closed plan h e.change.on (closed_are plan h calendar legal) adds.form.on a.period)
  where
    later : (a b c : ℕ) → a ≤ b → b < c → c ≤ a → ⊥
    later a b c l k m = absurd (omega (arith, l, k, m))

pub collected_open : (plan : Plan) (h : List Entry) (e : Entry) (b : Bill) → HasCalendar plan → IsLegal plan h → Adds plan h e → IsLeviedFrom plan b → open_year plan h ≤ collected_year plan e.change.on b
collected_open plan h e b calendar legal adds from =
    let time = in_time plan h e calendar legal adds in
    by_tests (year_in plan.first_month e.change.on == b.levy_year) (is_in_window (year_end plan.first_month b.levy_year) (window_if (source_at plan b.source)) e.change.on)
    (eqb_tells (year_in plan.first_month e.change.on) b.levy_year) (out_of_window plan h e b.levy_year b.source calendar legal adds from) (omega (arith, time.from, time.now))
  where
    by_tests : (p q : Bool) → ((p ≡ true) × (year_of_day plan e.change.on ≡ b.levy_year)) ⊎ ((p ≡ false) × (year_of_day plan e.change.on ≡ b.levy_year → ⊥)) →
        (b.levy_year < open_year plan h → q ≡ true → ⊥) → open_year plan h ≤ year_of_day plan e.change.on → open_year plan h ≤ (if p || q then b.levy_year else year_of_day plan e.change.on)
    by_tests true q (inl t) out day = omega (arith, t.1, day)
    by_tests true q (inr t) out day = cc
    by_tests false true t out day = elim (cases_lt b.levy_year (open_year plan h)) [ inl less ↦ absurd (out less refl) | inr more ↦ more ]
    by_tests false false t out day = day
