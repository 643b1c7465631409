-- An entry that cancels no order leaves the numbers of every control line in closed fiscal years.
use Rattle.std.proofs.Common.{◌≡◌, ◌⊎◌, inl, inr, ℕ, ◌+◌, ◌<◌, ◌≤◌, Bool, true, false, if◌then◌else◌, ◌==◌, ◌&&◌, List, [], ◌∷◌, ◌++◌, None, ℤ, pos, ◌+ℤ◌, ◌-ℤ◌, refl, sym, subst, ◌∙◌, arith}
use Rattle.cf_base.proofs.Common.{AllByRecursion, eqb_tells, ints, sum_by-cons}
use Rattle.cf_model.specs.Common.{Day, Act, Adopt, Amend, Transfer, Entry, open_year, rolls, state_refusal, Documents, documents_of, added_by, adopted_by, amount_for, appropriated, carried_sum, counts, encumbered, expended, fall_of, is_on, numbers, original, removed_by, rise_of, Move, carried_by, moved_sum, moves_of, Carried, carried_of, registers_of, closed_year, first_refusal, posted_years, Adds, IsLegal}
use Rattle.cf_chart.specs.Common.{Plan}
use Rattle.cf_model.specs.LineNumbers.{held}
use Rattle.cf_model.proofs.Common.{accepted, original_push, appropriated_push, held_push, encumbered_push, expended_push, next_named, HasCalendar, documents_are, IsTidy, tidy_always, all_so}
use Rattle.cf_model_closed.specs.ClosedYears.{cancels}
use Rattle.cf_model_closed.proofs.Moves.{IsIdleBefore, IsOpenOn, IsPassed, carried_from, moves_idle, rolled_from}
use Rattle.cf_model_closed.proofs.OpenHolds.{open_holds}
use Rattle.cf_model_closed.proofs.Over.{in_time}
use Rattle.cf_model_closed.proofs.Posts.{first_open, open_to}

-- ---- sums over what is of later years

differs : (a b : ℕ) → b < a → (a == b) ≡ false
differs a b l = by_test (a == b) (eqb_tells a b)
  where
    by_test : (t : Bool) → ((t ≡ true) × (a ≡ b)) ⊎ ((t ≡ false) × (a ≡ b → ⊥)) → t ≡ false
    by_test t (inl h) = absurd (omega (arith, l, h.1))
    by_test t (inr h) = h.0

none_if : (b : Bool) (z : ℤ) → z ≡ pos 0 → (if b then z else pos 0) ≡ pos 0
none_if true z e = e
none_if false z e = refl

none_first : (z : ℤ) → z ≡ pos 0 → pos 0 +ℤ z ≡ pos 0
none_first z e = omega (arith, ints, e)

-- moves that move nothing of years before this one come to nothing there
idle_sum : (f : Move → ℤ) (plan : Plan) (u line year : ℕ) → year < u → (moves : List Move) → AllByRecursion (λ m. m.year < u → f m ≡ pos 0) moves → moved_sum f plan line year moves ≡ pos 0
idle_sum f plan u line year before [] idle = refl
idle_sum f plan u line year before (m ∷ moves) idle =
    (λ i. by_year (m.year == year) (eqb_tells m.year year) i +ℤ moved_sum f plan line year moves) ∙ none_first (moved_sum f plan line year moves) (idle_sum f plan u line year before moves idle.1)
  where
    by_year : (b : Bool) → ((b ≡ true) × (m.year ≡ year)) ⊎ ((b ≡ false) × (m.year ≡ year → ⊥)) → (if b && is_on plan line m.year m.account then f m else pos 0) ≡ pos 0
    by_year true (inl t) = none_if (is_on plan line m.year m.account) (f m) (idle.0 (omega (arith, t.1, before)))
    by_year true (inr t) = cc
    by_year false t = refl

later_sum : (plan : Plan) (u line year : ℕ) → year < u → (carried : List Carried) → AllByRecursion (λ c. u ≤ c.year) carried → carried_sum plan line year carried ≡ 0
later_sum plan u line year before [] later = refl
later_sum plan u line year before (c ∷ carried) later =
    sum_by-cons (λ (x : Carried). if counts plan line year x.account x.year then x.amount else 0) c carried
    ∙ (λ i. (if differs c.year year (omega (arith, later.0, before)) i && is_on plan line c.year c.account then c.amount else 0) + later_sum plan u line year before carried later.1 i)

-- ---- appropriations

-- an act adopts, adds and removes nothing of a line and year
record IsStill (line year : ℕ) (act : Act) : Type 0 where
  pub adopted : adopted_by line year act ≡ 0
  pub added : added_by line year act ≡ 0
  pub removed : removed_by line year act ≡ 0

still_if : (a b : Bool) (n : ℕ) → b ≡ false → (if a && b then n else 0) ≡ 0
still_if true true n e = absurd (cc)
still_if true false n e = refl
still_if false b n e = refl

still : (plan : Plan) (s : Documents) (on : Day) (u line year : ℕ) (act : Act) → year < u → first_refusal (closed_year u) (posted_years plan s on act) ≡ None → IsStill line year act
still plan s on u line year (Adopt a) before allowed =
    let other = differs a.year year (omega (arith, before, first_open u a.year [] allowed)) in
    let none : adopted_by line year (Adopt a) ≡ 0 = λ i. if other i then amount_for line a.lines else 0 in
    record { adopted = none; added = none; removed = refl }
still plan s on u line year (Amend a) before allowed =
    let other = differs a.year year (omega (arith, before, first_open u a.year [] allowed)) in
    record { adopted = refl; added = still_if (a.line == line) (a.year == year) (rise_of a.by) other; removed = still_if (a.line == line) (a.year == year) (fall_of a.by) other }
still plan s on u line year (Transfer t) before allowed =
    let other = differs t.year year (omega (arith, before, first_open u t.year [] allowed)) in
    record { adopted = refl; added = still_if (t.to == line) (t.year == year) t.amount other; removed = still_if (t.from == line) (t.year == year) t.amount other }
still plan s on u line year _ before allowed = record { adopted = refl; added = refl; removed = refl }

-- ---- one entry

none_more : (n m : ℕ) → m ≡ 0 → n + m ≡ n
none_more n m e = omega (arith, e)

no_move : (a b : ℕ) (z : ℤ) → z ≡ pos 0 → pos b ≡ pos a +ℤ z → b ≡ a
no_move a b z e is = omega (arith, ints, e, is)

keeps : (a : ℤ) (x y z : ℕ) → x ≡ 0 → y ≡ 0 → z ≡ 0 → a +ℤ (pos (x + y) -ℤ pos z) ≡ a
keeps a x y z e f g = omega (arith, ints, e, f, g)

pub numbers_of_closed : (plan : Plan) (h : List Entry) (e : Entry) → HasCalendar plan → IsLegal plan h → Adds plan h e → cancels e.change.act ≡ false → (line year : ℕ) → year < open_year plan h →
    numbers plan line year (h ++ e ∷ []) ≡ numbers plan line year h
numbers_of_closed plan h e calendar legal adds other line year before =
    let u = open_year plan h in
    let s = registers_of plan h in
    let act = e.change.act in
    let on = e.change.on in
    let a = accepted plan h e adds in
    let are : s.documents ≡ documents_of plan h = documents_are plan h in
    let time = in_time plan h e calendar legal adds in
    let tidy : IsTidy s.documents = subst IsTidy (sym are) (tidy_always plan h legal) in
    let rolled : (y : ℕ) → rolls plan y act ≡ true → u ≤ y = λ y r. omega (arith, time.from, rolled_from plan s act calendar (next_named plan h e calendar adds) y r) in
    let here : IsOpenOn plan s u act = record { now = time.from; holds = open_holds plan h calendar legal; places = tidy.places; rolled = rolled } in
    let passed : IsPassed plan s u on act = record {
      years = subst (λ (d : Documents). first_refusal (closed_year u) (posted_years plan d on act) ≡ None) (sym are) a.closed;
      states = subst (λ (d : Documents). state_refusal plan d on act ≡ None) (sym are) a.states;
    } in
    let moves = moves_of plan s e.drawn.number on act in
    let idle : AllByRecursion (IsIdleBefore u) moves = moves_idle plan s u e.drawn.number on act (open_to plan h e calendar legal adds) here passed other in
    let same = still plan (documents_of plan h) on u line year act before a.closed in
    let carried : carried_by plan (documents_of plan h) line year act ≡ 0 = later_sum plan u line year before (carried_of plan act (documents_of plan h).items) (carried_from plan u act rolled (documents_of plan h).items) in
    let no_held : moved_sum (λ m. m.held) plan line year moves ≡ pos 0 = idle_sum (λ m. m.held) plan u line year before moves (all_so (IsIdleBefore u) (λ m. m.year < u → m.held ≡ pos 0) (λ m i l. (i l).0) moves idle) in
    let no_encumbered : moved_sum (λ m. m.encumbered) plan line year moves ≡ pos 0 =
    idle_sum (λ m. m.encumbered) plan u line year before moves (all_so (IsIdleBefore u) (λ m. m.year < u → m.encumbered ≡ pos 0) (λ m i l. (i l).1) moves idle) in
    let no_expended : moved_sum (λ m. m.expended) plan line year moves ≡ pos 0 =
    idle_sum (λ m. m.expended) plan u line year before moves (all_so (IsIdleBefore u) (λ m. m.year < u → m.expended ≡ pos 0) (λ m i l. (i l).2) moves idle) in
    let first : original line year (h ++ e ∷ []) ≡ original line year h = original_push line year h e ∙ none_more _ _ same.adopted in
    let second : appropriated plan line year (h ++ e ∷ []) ≡ appropriated plan line year h = appropriated_push plan line year h e ∙ keeps _ _ _ _ same.added carried same.removed in
    let third : held plan line year (h ++ e ∷ []) ≡ held plan line year h = no_move _ _ _ no_held (held_push plan line year h e) in
    let fourth : encumbered plan line year (h ++ e ∷ []) ≡ encumbered plan line year h = no_move _ _ _ no_encumbered (encumbered_push plan line year h e adds.form.act legal) in
    let fifth : expended plan line year (h ++ e ∷ []) ≡ expended plan line year h = no_move _ _ _ no_expended (expended_push plan line year h e) in
    λ i. record {
      original = pos (first i);
      appropriated = second i;
      held = pos (third i);
      encumbered = pos (fourth i);
      expended = pos (fifth i);
      room = second i -ℤ pos (third i + fourth i + fifth i);
    }
