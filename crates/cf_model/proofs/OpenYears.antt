-- Years close one by one, in order: the closed ones are those before the open year.
use Rattle.std.proofs.Common.{◌≡◌, ◌⊎◌, inl, inr, ℕ, zero, suc, ◌+◌, ◌<◌, ◌≤◌, Bool, true, false, ◌==◌, ◌||◌, nat_lt, List, [], ◌∷◌, ◌++◌, length, length-append, None, refl, sym, subst, ap, ◌∙◌, arith}
use Rattle.cf_base.proofs.Common.{list_any, leb_tells, eqb_tells, cases_lt}
use Rattle.cf_base.specs.declared.calendar.Day.{Day}
use Rattle.cf_calls.specs.declared.acts.Act.{Act}
use Rattle.cf_calls.specs.declared.acts.Act.TheVariants.{Close}
use Rattle.cf_calls.specs.declared.acts.Period.TheVariants as period
use Rattle.cf_calls.specs.declared.entry.Entry.{Entry}
use Rattle.cf_calls.specs.declared.refusal.Refusal.TheVariants as refusal
use Rattle.cf_calls.specs.Common.{closes_year, IsActInForm}
use Rattle.cf_chart.specs.Common.{Plan}
use Rattle.cf_model.specs.Common.{is_year_closed, open_year, open_year_after, first_failing, closing_refusal, closed_refusal, closed_year, Adds, IsLegal}
use Rattle.cf_model.proofs.Accepted.{accepted}
use Rattle.cf_model.proofs.First.{or_else_none, refuse_none}
use Rattle.cf_model.proofs.Legal.{legal_induction}

-- the years from the chart's first up to this one are closed, and no later ones
pub record AreClosedTo (plan : Plan) (h : List Entry) (u : ℕ) : Type 0 where
  pub from : plan.first_year ≤ u
  pub few : u ≤ plan.first_year + length h
  pub closed : (y : ℕ) → plan.first_year ≤ y → y < u → is_year_closed h y ≡ true
  pub free : (y : ℕ) → u ≤ y → is_year_closed h y ≡ false
  pub last : plan.first_year ≤ 2200 → u ≤ 2200

failing_at : (p : ℕ → Bool) (most n u : ℕ) → n ≤ u → u ≤ n + most → ((y : ℕ) → n ≤ y → y < u → p y ≡ true) → p u ≡ false → first_failing p most n ≡ u
failing_at p zero n u from few all free = omega (arith, from, few)
failing_at p (suc most) n u from few all free =
    elim (cases_lt n u) [
      | inl less ↦ rw (all n (omega arith) less) (failing_at p most (n + 1) u (omega (arith, less)) (omega (arith, few)) (λ y l k. all y (omega (arith, l)) k) free)
      | inr more ↦ let same : n ≡ u = omega (arith, from, more) in rw (ap p same ∙ free) same
    ]

pub open_year_is : (plan : Plan) (h : List Entry) (u : ℕ) → AreClosedTo plan h u → open_year plan h ≡ u
open_year_is plan h u are = failing_at (is_year_closed h) (length h) plan.first_year u are.from are.few are.closed (are.free u (omega arith))

any_push : (p : Entry → Bool) (h : List Entry) (e : Entry) → list_any p (h ++ e ∷ []) ≡ (list_any p h || p e)
any_push p [] e = or_false (p e)
  where
    or_false : (b : Bool) → (b || false) ≡ b
    or_false true = refl
    or_false false = refl
any_push p (x ∷ h) e = ap (λ b. p x || b) (any_push p h e) ∙ grouped (p x) (list_any p h) (p e)
  where
    grouped : (a b c : Bool) → (a || (b || c)) ≡ ((a || b) || c)
    grouped true b c = refl
    grouped false b c = refl

not_less : (m n : ℕ) → nat_lt m n ≡ false → n ≤ m
not_less m n e = by_test (nat_lt m n) (leb_tells (suc m) n) e
  where
    by_test : (b : Bool) → ((b ≡ true) × (suc m ≤ n)) ⊎ ((b ≡ false) × (n < suc m)) → b ≡ false → n ≤ m
    by_test b (inl t) e = cc
    by_test b (inr t) e = omega (arith, t.1)

-- the year that an accepted close names is the open one
pub closes_open : (plan : Plan) (h : List Entry) (e : Entry) (y : ℕ) → closing_refusal plan h (Close (period.Year y)) ≡ None → closed_refusal plan h e.change.on (Close (period.Year y)) ≡ None → y ≡ open_year plan h
closes_open plan h e y none closed =
    omega (
      arith,
      not_less (open_year plan h) y (refuse_none (nat_lt (open_year plan h) y) (refusal.YearNotOpen y) none),
      not_less y (open_year plan h) (refuse_none (nat_lt y (open_year plan h)) (refusal.YearClosed y) (or_else_none (closed_year (open_year plan h) y) None closed).0),
    )

-- what an act closes
abbrev Closes : Act → ℕ → Type 0
Closes (Close (period.Year y)) u = y ≡ u
Closes _ u = Unit {0}

closes_next : (plan : Plan) (h : List Entry) (e : Entry) (act : Act) → closing_refusal plan h act ≡ None → closed_refusal plan h e.change.on act ≡ None → Closes act (open_year plan h)
closes_next plan h e (Close (period.Year y)) none closed = closes_open plan h e y none closed
closes_next plan h e (Close (period.Month m)) none closed = tt
closes_next plan h e _ none closed = tt

or_not : (b : Bool) → (b || false) ≡ b
or_not true = refl
or_not false = refl

abbrev Moves : Plan → List Entry → Entry → Act → ℕ → Type 0
Moves plan h e act u = (from : plan.first_year ≤ u) → u ≤ plan.first_year + length h → ((y : ℕ) → plan.first_year ≤ y → y < u → is_year_closed h y ≡ true) → ((y : ℕ) → u ≤ y → is_year_closed h y ≡ false) →
    ((y : ℕ) → plan.first_year ≤ y → y < open_year_after act u → (is_year_closed h y || closes_year y act) ≡ true) × (((y : ℕ) → open_year_after act u ≤ y → (is_year_closed h y || closes_year y act) ≡ false) × ((plan.first_year ≤ open_year_after act u) × (open_year_after act u ≤ plan.first_year + length h + 1)))

moves : (plan : Plan) (h : List Entry) (e : Entry) (act : Act) (u : ℕ) → Closes act u → Moves plan h e act u
moves plan h e (Close (period.Year n)) u next from few closed free = (
  λ y l k. before y l k (eqb_tells y n),
  (λ y l. after y l (eqb_tells y n), (omega (arith, from), omega (arith, few))),
)
  where
    before : (y : ℕ) → plan.first_year ≤ y → y < u + 1 → (((y == n) ≡ true) × (y ≡ n)) ⊎ (((y == n) ≡ false) × (y ≡ n → ⊥)) → (is_year_closed h y || (y == n)) ≡ true
    before y l k (inl t) = rw t.0 (or_true (is_year_closed h y))
      where
        or_true : (b : Bool) → (b || true) ≡ true
        or_true true = refl
        or_true false = refl
    before y l k (inr t) = rw (closed y l (less y (t.1) k)) refl
      where
        less : (y : ℕ) → (y ≡ n → ⊥) → y < u + 1 → y < u
        less y d k = elim (cases_lt y u) [ inl lt ↦ lt | inr ge ↦ absurd (d (omega (arith, ge, k, next))) ]

    after : (y : ℕ) → u + 1 ≤ y → (((y == n) ≡ true) × (y ≡ n)) ⊎ (((y == n) ≡ false) × (y ≡ n → ⊥)) → (is_year_closed h y || (y == n)) ≡ false
    after y l (inl t) = absurd (omega (arith, l, next, t.1))
    after y l (inr t) = rw (free y (omega (arith, l)), t.0) refl
moves plan h e (Close (period.Month m)) u next from few closed free = (λ y l k. or_not (is_year_closed h y) ∙ closed y l k, (λ y l. or_not (is_year_closed h y) ∙ free y l, (from, omega (arith, few))))
moves plan h e _ u next from few closed free = (λ y l k. or_not (is_year_closed h y) ∙ closed y l k, (λ y l. or_not (is_year_closed h y) ∙ free y l, (from, omega (arith, few))))

-- a year that closes is at most 2199
year_within : (act : Act) (on : Day) (u : ℕ) → IsActInForm on act → Closes act u → u ≤ 2200 → open_year_after act u ≤ 2200
year_within (Close (period.Year y)) on u form next l = omega (arith, form.to, next)
year_within (Close (period.Month m)) on u form next l = l
year_within _ on u form next l = l

-- with an entry more that the step adds
closed_push : (plan : Plan) (h : List Entry) (e : Entry) (u : ℕ) → AreClosedTo plan h u → Adds plan h e → AreClosedTo plan (h ++ e ∷ []) (open_year_after e.change.act u)
closed_push plan h e u are adds =
    let a = accepted plan h e adds in
    let next : Closes e.change.act u = let P : ℕ → Type 0 = λ v. Closes e.change.act v in subst P (open_year_is plan h u are) (closes_next plan h e e.change.act a.closing a.closed) in
    let m = moves plan h e e.change.act u next are.from are.few are.closed are.free in
    let pushed : (y : ℕ) → is_year_closed (h ++ e ∷ []) y ≡ (is_year_closed h y || closes_year y e.change.act) = λ y. any_push (λ x. closes_year y x.change.act) h e in
    record {
      from = m.1.1.0;
      few = rw (length-append h (e ∷ [])) (omega (arith, m.1.1.1));
      closed = λ y l k. pushed y ∙ m.0 y l k;
      free = λ y l. pushed y ∙ m.1.0 y l;
      last = λ first. year_within e.change.act e.change.on u adds.form.act next (are.last first);
    }

abbrev Has : Plan → List Entry → Type 0
Has plan h = (u : ℕ) × AreClosedTo plan h u

has_years : (plan : Plan) (h : List Entry) → IsLegal plan h → Has plan h
has_years plan h legal =
    legal_induction plan (Has plan) (plan.first_year, record { from = omega arith; few = omega arith; closed = λ y l k. absurd (omega (arith, l, k)); free = λ y l. refl; last = λ first. first })
    (λ h e has adds. (open_year_after e.change.act has.0, closed_push plan h e has.0 has.1 adds)) h legal

-- the closed years of a legal history are those before the open one
pub years_are : (plan : Plan) (h : List Entry) → IsLegal plan h → AreClosedTo plan h (open_year plan h)
years_are plan h legal =
    let has = has_years plan h legal in
    let P : ℕ → Type 0 = λ u. AreClosedTo plan h u in
    subst P (sym (open_year_is plan h has.0 has.1)) has.1

-- an entry moves the open year by its act alone
pub open_year_push : (plan : Plan) (h : List Entry) (e : Entry) → IsLegal plan h → Adds plan h e → open_year plan (h ++ e ∷ []) ≡ open_year_after e.change.act (open_year plan h)
open_year_push plan h e legal adds =
    open_year_is plan (h ++ e ∷ []) (open_year_after e.change.act (open_year plan h)) (closed_push plan h e (open_year plan h) (years_are plan h legal) adds)
