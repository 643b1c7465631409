-- An open requisition is of the fiscal year of the first month that isn't closed, or of a later
-- one: the roll of its year lapses it.
use Rattle.std.proofs.Common.{◌≡◌, ◌⊎◌, inl, inr, ℕ, ◌+◌, ◌-◌, ◌*◌, ◌/◌, ◌<◌, ◌≤◌, Bool, true, false, if◌then◌else◌, ◌==◌, List, [], ◌∷◌, ◌++◌, map, Some, None, pos, ◌-ℤ◌, refl, sym, ap, subst, ◌∙◌, arith}
use Rattle.cf_base.proofs.Common.{AllByRecursion, cases_lt, eqb_tells}
use Rattle.cf_model.specs.Common.{Day, Month, Act, Requisition, Withdraw, Order, Close, Entry, RequisitionState, document_year, is_last_month, is_year, year_of_day, Hold, hold_of, hold_step, is_number, leaves, held_amount, number_of, year_at, release_move, Registers, no_registers, registers_of, closed_after, Adds, IsLegal}
use Rattle.cf_base.specs.Common.{year_of_month}
use Rattle.cf_calls.specs.declared.acts.Period.TheVariants as period
use Rattle.cf_calls.specs.declared.shown.RequisitionState.TheVariants as requisition
use Rattle.cf_calls.specs.Common.{requisition_items}
use Rattle.cf_chart.specs.Common.{Plan}
use Rattle.cf_model.proofs.Common.{next_named, HasCalendar, ClosesNext, year_is, registers_push, all_append, all_map, all_new}
use Rattle.cf_model_closed.proofs.Over.{in_time, legal_by_steps, now_year}

abbrev Equal : Bool → ℕ → ℕ → Type 0
Equal b m n = ((b ≡ true) × (m ≡ n)) ⊎ ((b ≡ false) × (m ≡ n → ⊥))

-- ---- the month that is closed

-- the fiscal year of the month that an accepted close names
pub rolled_is : (plan : Plan) (s : Registers) (m : Month) → HasCalendar plan → ClosesNext plan s (Close (period.Month m)) → year_of_month plan.first_month m ≡ now_year plan s
rolled_is plan s m calendar next =
    let named = next.0 in
    let at : number_of plan m ≡ s.closed = omega (arith, next.1) in
    sym (year_is plan m calendar named (omega (arith, next.1))) ∙ ap (year_at plan) at

-- where the month isn't its year's last, the month after it is of the same year
same_year : (plan : Plan) (s : Registers) (m : Month) → HasCalendar plan → ClosesNext plan s (Close (period.Month m)) → is_last_month plan.first_month m ≡ false → year_at plan (s.closed + 1) ≡ year_at plan s.closed
same_year plan s m calendar next other =
    by_first (plan.first_month == 1) (m.month == 12) (m.month + 1 == plan.first_month) (eqb_tells plan.first_month 1) (eqb_tells m.month 12) (eqb_tells (m.month + 1) plan.first_month) next.1 other
  where
    by_first : (a b c : Bool) → Equal a plan.first_month 1 → Equal b m.month 12 → Equal c (m.month + 1) plan.first_month →
        12 * m.year + m.month ≡ (12 * (if a then plan.first_year else plan.first_year - 1) + plan.first_month) + s.closed → (if a then b else c) ≡ false →
        plan.first_year + (s.closed + 1) / 12 ≡ plan.first_year + s.closed / 12
    by_first true true c t v w e other = cc
    by_first true false c (inl t) (inl v) w e other = cc
    by_first true false c (inl t) (inr v) w e other = early m.month (below v.1) t.1 e
      where
        below : (m.month ≡ 12 → ⊥) → m.month < 12
        below d = elim (cases_lt m.month 12) [ inl l ↦ l | inr l ↦ absurd (d (omega (arith, l, next.0.last))) ]

        early : (k : ℕ) → k < 12 → plan.first_month ≡ 1 → 12 * m.year + k ≡ (12 * plan.first_year + plan.first_month) + s.closed → plan.first_year + (s.closed + 1) / 12 ≡ plan.first_year + s.closed / 12
        early k l f e = omega (arith, l, f, e)
    by_first true false c (inr t) v w e other = cc
    by_first false b true t v w e other = cc
    by_first false b false t v (inl w) e other = cc
    by_first false b false (inl t) v (inr w) e other = cc
    by_first false b false (inr t) v (inr w) e other = by_order (cases_lt (m.month + 1) plan.first_month) (cases_lt plan.first_month (m.month + 1)) (cases_lt 1 plan.first_month)
      where
        by_order : (m.month + 1 < plan.first_month) ⊎ (plan.first_month ≤ m.month + 1) → (plan.first_month < m.month + 1) ⊎ (m.month + 1 ≤ plan.first_month) → (1 < plan.first_month) ⊎ (plan.first_month ≤ 1) →
            plan.first_year + (s.closed + 1) / 12 ≡ plan.first_year + s.closed / 12
        by_order o q (inr f) = absurd (t.1 (omega (arith, f, calendar.first)))
        by_order (inl l) q (inl f) = omega (arith, l, e, calendar.year, calendar.last, next.0.first)
        by_order (inr l) (inl k) (inl f) = omega (arith, k, f, e, calendar.year, next.0.last)
        by_order (inr l) (inr k) (inl f) = absurd (w.1 (omega (arith, l, k)))

-- ---- open requisitions

-- where it is open, it isn't of an earlier year
abbrev pub IsOpenFrom : ℕ → Hold → Type 0
IsOpenFrom now h = h.state ≡ requisition.Open → now ≤ h.year

left_shut : (s next : RequisitionState) → (next ≡ requisition.Open → ⊥) → leaves s next ≡ requisition.Open → ⊥
left_shut requisition.Open next shut e = shut e
left_shut requisition.Withdrawn next shut e = cc
left_shut requisition.Ordered next shut e = cc
left_shut requisition.Lapsed next shut e = cc

-- a requisition that takes a later state isn't open
shut_if : (now : ℕ) (h : Hold) (next : RequisitionState) → (next ≡ requisition.Open → ⊥) → (b : Bool) → (b ≡ false → IsOpenFrom now h) → IsOpenFrom now (if b then record h { state = leaves h.state next } else h)
shut_if now h next shut true from e = absurd (left_shut h.state next shut e)
shut_if now h next shut false from e = from refl e

next_year : (n year : ℕ) → n ≤ year → (year ≡ n → ⊥) → n + 1 ≤ year
next_year n year l other = elim (cases_lt n year) [ inl less ↦ omega (arith, less) | inr more ↦ absurd (other (omega (arith, l, more))) ]

at_most_next : (n closed : ℕ) → n + (closed + 1) / 12 ≤ n + closed / 12 + 1
at_most_next n closed = omega arith

-- the close of a month: where it rolls its year, what is open of it lapses
lapsed_from : (plan : Plan) (s : Registers) (m : Month) → HasCalendar plan → ClosesNext plan s (Close (period.Month m)) → (h : Hold) → IsOpenFrom (now_year plan s) h →
    IsOpenFrom (year_at plan (s.closed + 1)) (hold_step plan (Close (period.Month m)) h)
lapsed_from plan s m calendar next h from = by_last (is_last_month plan.first_month m) refl
  where
    shut : requisition.Lapsed ≡ requisition.Open → ⊥
    shut e = cc

    by_year : (b : Bool) → Equal b h.year (year_of_month plan.first_month m) → IsOpenFrom (year_at plan (s.closed + 1)) (if b then record h { state = leaves h.state requisition.Lapsed } else h)
    by_year b (inl t) = shut_if (year_at plan (s.closed + 1)) h requisition.Lapsed shut b (λ e. absurd (cc))
    by_year b (inr t) =
        shut_if (year_at plan (s.closed + 1)) h requisition.Lapsed shut b
        (λ e is_open. omega (arith, at_most_next plan.first_year s.closed, next_year (now_year plan s) h.year (from is_open) (λ same. t.1 (same ∙ sym (rolled_is plan s m calendar next)))))

    by_last : (b : Bool) → is_last_month plan.first_month m ≡ b →
        IsOpenFrom (year_at plan (s.closed + 1)) (if is_year h.year (if b then Some (year_of_month plan.first_month m) else None) then record h { state = leaves h.state requisition.Lapsed } else h)
    by_last true is = by_year (h.year == year_of_month plan.first_month m) (eqb_tells h.year (year_of_month plan.first_month m))
    by_last false is = λ is_open. omega (arith, same_year plan s m calendar next is, from is_open)

withdrawn_shut : requisition.Withdrawn ≡ requisition.Open → ⊥
withdrawn_shut e = cc

ordered_shut : requisition.Ordered ≡ requisition.Open → ⊥
ordered_shut e = cc

step_from : (plan : Plan) (s : Registers) (act : Act) → HasCalendar plan → ClosesNext plan s act → (h : Hold) → IsOpenFrom (now_year plan s) h → IsOpenFrom (year_at plan (closed_after act s.closed)) (hold_step plan act h)
step_from plan s (Withdraw n) calendar next h from = shut_if (now_year plan s) h requisition.Withdrawn withdrawn_shut (is_number (Some n) h.requisition) (λ e. from)
step_from plan s (Order o) calendar next h from = shut_if (now_year plan s) h requisition.Ordered ordered_shut (is_number o.requisition h.requisition) (λ e. from)
step_from plan s (Close (period.Month m)) calendar next h from = lapsed_from plan s m calendar next h from
step_from plan s (Close (period.Year y)) calendar next h from = from
step_from plan s _ calendar next h from = from

-- a new one is of the year of its day, and its act closes no month
new_from : (plan : Plan) (s : Registers) (number desk : ℕ) (on : Day) (act : Act) → now_year plan s ≤ year_of_day plan on →
    AllByRecursion (IsOpenFrom (year_at plan (closed_after act s.closed))) (map (hold_of number desk (document_year plan on act)) (requisition_items act))
new_from plan s number desk on (Requisition r) now = all_new (IsOpenFrom (now_year plan s)) (hold_of number desk (year_of_day plan on)) (λ a e. now) r.items
new_from plan s number desk on _ now = tt

abbrev pub AreOpenFrom : Plan → Registers → Type 0
AreOpenFrom plan s = AllByRecursion (IsOpenFrom (now_year plan s)) s.documents.holds

holds_step : (plan : Plan) → HasCalendar plan → (h : List Entry) (e : Entry) → IsLegal plan h → AreOpenFrom plan (registers_of plan h) → Adds plan h e → AreOpenFrom plan (registers_of plan (h ++ e ∷ []))
holds_step plan calendar h e legal from adds =
    let s = registers_of plan h in
    let act = e.change.act in
    let now = year_at plan (closed_after act s.closed) in
    subst (AreOpenFrom plan) (sym (registers_push plan no_registers h e))
    (all_append (IsOpenFrom now) (map (hold_step plan act) s.documents.holds) (map (hold_of e.drawn.number e.change.desk (document_year plan e.change.on act)) (requisition_items act))
    (all_map (IsOpenFrom (now_year plan s)) (IsOpenFrom now) (hold_step plan act) (step_from plan s act calendar (next_named plan h e calendar adds)) s.documents.holds from)
    (new_from plan s e.drawn.number e.change.desk e.change.on act (in_time plan h e calendar legal adds).now))

-- the open requisitions of a legal history
pub open_holds : (plan : Plan) (h : List Entry) → HasCalendar plan → IsLegal plan h → AllByRecursion (IsOpenFrom (now_year plan (registers_of plan h))) (registers_of plan h).documents.holds
open_holds plan h calendar legal = legal_by_steps plan (λ h. AreOpenFrom plan (registers_of plan h)) tt (holds_step plan calendar) h legal

-- so a requisition of an earlier year holds nothing
pub nothing_held : (now : ℕ) (h : Hold) → IsOpenFrom now h → h.year < now → (release_move h).held ≡ pos 0
nothing_held now h from before = by_state h.state (λ e. absurd (omega (arith, from e, before)))
  where
    by_state : (s : RequisitionState) → (s ≡ requisition.Open → ⊥) → pos 0 -ℤ pos (held_amount s h.account.amount) ≡ pos 0
    by_state requisition.Open shut = absurd (shut refl)
    by_state requisition.Withdrawn shut = refl
    by_state requisition.Ordered shut = refl
    by_state requisition.Lapsed shut = refl
