-- What an entry moves in closed fiscal years: nothing, where it cancels no order.
use Rattle.std.proofs.Common.{◌≡◌, ◌⊎◌, inl, inr, ℕ, ◌+◌, ◌<◌, ◌≤◌, Bool, true, false, not, if◌then◌else◌, ◌==◌, ◌&&◌, List, [], ◌∷◌, map, Option, Some, None, IfSome, pos, ◌-ℤ◌, refl, sym, ap, ◌∙◌, arith, filter}
use Rattle.cf_base.proofs.Common.{AllByRecursion, eqb_tells, ints}
use Rattle.cf_model.specs.Common.{Day, Act, Requisition, Withdraw, Order, ChangeOrder, CancelOrder, Voucher, VoidVoucher, PayDue, Leave, Close, Lease, DebtPayment, Mature, Charge, Direct, OnOrder, VoucherItem, Bond, Due, next_due, document_year, is_last_month, is_year, rolls, year_of_day, charge_state, charged_state, state_refusal, Expenditure, Hold, is_number, Move, charge_move, charged_item, hold_move, item_move, lapses_of, move_if, moves_of, order_move, release_move, releases, reopen_move, roll_moves, spend_move, spending_move, spent_by, unspend_move, Carried, Liquidated, OrderItem, carried_of, is_live, is_named, item_named, item_step, lapses, open_of, without, Registers, closed_year, first_refusal, item_years, posted_years, Spending, bonds_spendings, due_spendings, spendings_by}
use Rattle.cf_base.specs.Common.{year_of_month}
use Rattle.cf_calls.specs.declared.acts.Period.TheVariants as period
use Rattle.cf_calls.specs.Common.{is_distinct}
use Rattle.cf_chart.specs.Common.{Plan}
use Rattle.cf_model.proofs.Common.{or_else_none, ClosesNext, HasCalendar, all_filter, all_append, all_map, all_new, both, same_place}
use Rattle.cf_model_closed.specs.ClosedYears.{cancels}
use Rattle.cf_model_closed.proofs.Dues.{IsUnpaidLater, next_later}
use Rattle.cf_model_closed.proofs.OpenHolds.{IsOpenFrom, nothing_held, rolled_is}
use Rattle.cf_model_closed.proofs.Over.{now_year}
use Rattle.cf_model_closed.proofs.Posts.{IsOpenTo, first_open, voided_from}
use Rattle.cf_model_closed.proofs.VoucherYears.{IsFound, IsTakenInYear, charged_of, each_found, of_found}

-- a move of a year before this one moves nothing
abbrev pub IsIdleBefore : ℕ → Move → Type 0
IsIdleBefore u m = m.year < u → (m.held ≡ pos 0) × (m.encumbered ≡ pos 0) × (m.expended ≡ pos 0)

of_later : (u : ℕ) (m : Move) → u ≤ m.year → IsIdleBefore u m
of_later u m l before = absurd (omega (arith, l, before))

-- ---- requisitions and the items of orders

-- what is released of requisitions of closed years is nothing
released : (u now : ℕ) (p : Hold → Bool) (holds : List Hold) → u ≤ now → AllByRecursion (IsOpenFrom now) holds → AllByRecursion (IsIdleBefore u) (map release_move (filter p holds))
released u now p holds l from =
    all_map (IsOpenFrom now) (IsIdleBefore u) release_move (λ h kept before. (nothing_held now h kept (omega (arith, l, before)), refl, refl)) (filter p holds) (all_filter (IsOpenFrom now) p holds from)

passing_all : {A : Type 0} (P Q : A → Type 0) (p : A → Bool) → ((x : A) → P x → p x ≡ true → Q x) → (xs : List A) → AllByRecursion P xs → AllByRecursion Q (filter p xs)
passing_all P Q p so [] all = tt
passing_all P Q p so (x ∷ xs) all = by_test (p x) refl (passing_all P Q p so xs all.1)
  where
    by_test : (b : Bool) → p x ≡ b → AllByRecursion Q (filter p xs) → AllByRecursion Q (if b then x ∷ filter p xs else filter p xs)
    by_test true is rest = (so x all.0 is, rest)
    by_test false is rest = rest

-- an item that may be changed is of an open year
changed_from : (u order place : ℕ) (items : List OrderItem) → is_distinct same_place items ≡ true → first_refusal (closed_year u) (item_years (item_named order place items)) ≡ None →
    AllByRecursion (λ i. u ≤ i.year) (filter (is_named order place) items)
changed_from u order place items apart none =
    passing_all (IsFound items) (λ i. u ≤ i.year) (is_named order place)
    (λ i found named. first_open u i.year [] (sym (ap (λ o. first_refusal (closed_year u) (item_years o)) (found order place named)) ∙ none)) items (each_found items apart)

-- ---- vouchers

charged_idle : (u year : ℕ) (step : OrderItem → OrderItem) (items : List OrderItem) (vs : List VoucherItem) → u ≤ year → first_refusal (λ v. charge_state year items v.charge) vs ≡ None →
    AllByRecursion (IsIdleBefore u) (map (charge_move step items year) vs)
charged_idle u year step items [] l none = tt
charged_idle u year step items (v ∷ vs) l none =
    let b = or_else_none (charge_state year items v.charge) (first_refusal (λ v. charge_state year items v.charge) vs) none in
    (by_charge v.charge b.0, charged_idle u year step items vs l b.1)
  where
    by_item : (o : Option OrderItem) → charged_state year o ≡ None → IsIdleBefore u (move_if step v.account year o)
    by_item None none = of_later u (move_if step v.account year None) l
    by_item (Some i) none = of_later u (item_move step i) (omega (arith, l, charged_of year i none))

    by_charge : (c : Charge) → charge_state year items c ≡ None → IsIdleBefore u (move_if step v.account year (charged_item c items))
    by_charge Direct none = of_later u (move_if step v.account year None) l
    by_charge (OnOrder place order how) none = by_item (item_named order place items) none

-- a void that took nothing of an item leaves it
none_without : (n : ℕ) (taken : List Liquidated) → AllByRecursion (λ t. t.voucher ≡ n → ⊥) taken → without n taken ≡ taken
none_without n [] others = refl
none_without n (t ∷ taken) others = by_test (t.voucher == n) (eqb_tells t.voucher n) (none_without n taken others.1)
  where
    by_test : (b : Bool) → ((b ≡ true) × (t.voucher ≡ n)) ⊎ ((b ≡ false) × (t.voucher ≡ n → ⊥)) → without n taken ≡ taken → (if not b then t ∷ without n taken else without n taken) ≡ t ∷ taken
    by_test true (inl h) rest = absurd (others.0 h.1)
    by_test true (inr h) rest = cc
    by_test false h rest = ap (λ ts. t ∷ ts) rest

no_rise : (n : ℕ) → pos n -ℤ pos n ≡ pos 0
no_rise n = omega (arith, ints)

others_taken : (year : ℕ → ℕ) (most u n of : ℕ) → u ≤ year n → of < u → (taken : List Liquidated) → AllByRecursion (λ t. (of ≡ year t.voucher) × (t.voucher ≤ most)) taken → AllByRecursion (λ t. t.voucher ≡ n → ⊥) taken
others_taken year most u n of from before [] all = tt
others_taken year most u n of from before (t ∷ taken) all =
    ((λ same. absurd (omega (arith, from, before, all.0.0 ∙ ap year same))), others_taken year most u n of from before taken all.1)

reopened : (plan : Plan) (number u n : ℕ) (year : ℕ → ℕ) (most : ℕ) (items : List OrderItem) (x : Expenditure) → AllByRecursion (IsTakenInYear year most) items → (u ≤ x.year) × (u ≤ year n) →
    IsIdleBefore u (reopen_move (item_step plan number (VoidVoucher n)) items x)
reopened plan number u n year most items x taken from = by_charge x.charge
  where
    by_item : (o : Option OrderItem) → IfSome o (IsTakenInYear year most) → IsIdleBefore u (move_if (item_step plan number (VoidVoucher n)) x.account x.year o)
    by_item None t before = of_later u (move_if (item_step plan number (VoidVoucher n)) x.account x.year None) from.0 before
    by_item (Some i) t before =
        let same : without n i.taken ≡ i.taken = none_without n i.taken (others_taken year most u n i.year from.1 before i.taken t) in
        (refl, ap (λ ts. pos (open_of (record i { taken = ts })) -ℤ pos (open_of i)) same ∙ no_rise (open_of i), refl)

    by_charge : (c : Charge) → IsIdleBefore u (move_if (item_step plan number (VoidVoucher n)) x.account x.year (charged_item c items))
    by_charge Direct = of_later u (move_if (item_step plan number (VoidVoucher n)) x.account x.year None) from.0
    by_charge (OnOrder place order how) = by_item (item_named order place items) (of_found (IsTakenInYear year most) (is_named order place) items taken)

-- ---- the roll of a year

-- a year that is rolled is that of the month that is closed
pub rolled_from : (plan : Plan) (s : Registers) (act : Act) → HasCalendar plan → ClosesNext plan s act → (year : ℕ) → rolls plan year act ≡ true → now_year plan s ≤ year
rolled_from plan s (Close (period.Month m)) calendar next year e = by_last (is_last_month plan.first_month m) e
  where
    by_year : (b : Bool) → ((b ≡ true) × (year ≡ year_of_month plan.first_month m)) ⊎ ((b ≡ false) × (year ≡ year_of_month plan.first_month m → ⊥)) → b ≡ true → now_year plan s ≤ year
    by_year b (inl t) e = omega (arith, t.1, rolled_is plan s m calendar next)
    by_year b (inr t) e = absurd (cc)

    by_last : (b : Bool) → is_year year (if b then Some (year_of_month plan.first_month m) else None) ≡ true → now_year plan s ≤ year
    by_last true e = by_year (year == year_of_month plan.first_month m) (eqb_tells year (year_of_month plan.first_month m)) e
    by_last false e = absurd (cc)
rolled_from plan s (Close (period.Year y)) calendar next year e = absurd (cc)
rolled_from plan s _ calendar next year e = absurd (cc)

rolled_idle : (plan : Plan) (u : ℕ) (act : Act) → ((year : ℕ) → rolls plan year act ≡ true → u ≤ year) → (items : List OrderItem) → AllByRecursion (IsIdleBefore u) (roll_moves plan act items)
rolled_idle plan u act from [] = tt
rolled_idle plan u act from (i ∷ items) =
    all_append (IsIdleBefore u) (if rolls plan i.year act && is_live i then fall ∷ (if lapses plan i then [] else rise ∷ []) else []) (roll_moves plan act items)
    (by_tests (rolls plan i.year act && is_live i) (lapses plan i) (λ e. from i.year (both (rolls plan i.year act) (is_live i) e).0)) (rolled_idle plan u act from items)
  where
    fall : Move
    fall = record { account = i.account; year = i.year; held = pos 0; encumbered = pos 0 -ℤ pos (open_of i); expended = pos 0 }

    rise : Move
    rise = record { account = i.account; year = i.year + 1; held = pos 0; encumbered = pos (open_of i); expended = pos 0 }

    by_tests : (b c : Bool) → (b ≡ true → u ≤ i.year) → AllByRecursion (IsIdleBefore u) (if b then fall ∷ (if c then [] else rise ∷ []) else [])
    by_tests true true l = (of_later u fall (l refl), tt)
    by_tests true false l = (of_later u fall (l refl), (of_later u rise (omega (arith, l refl)), tt))
    by_tests false c l = tt

-- what is carried is carried into a later year
pub carried_from : (plan : Plan) (u : ℕ) (act : Act) → ((year : ℕ) → rolls plan year act ≡ true → u ≤ year) → (items : List OrderItem) → AllByRecursion (λ c. u ≤ c.year) (carried_of plan act items)
carried_from plan u act from [] = tt
carried_from plan u act from (i ∷ items) =
    all_append (λ c. u ≤ c.year) (if rolls plan i.year act && is_live i && not (lapses plan i) then one ∷ [] else []) (carried_of plan act items)
    (by_test (rolls plan i.year act && is_live i && not (lapses plan i)) (λ e. from i.year (first (rolls plan i.year act) (is_live i) (not (lapses plan i)) e))) (carried_from plan u act from items)
  where
    one : Carried
    one = record { account = i.account; year = i.year + 1; amount = open_of i }

    first : (a b c : Bool) → (a && b && c) ≡ true → a ≡ true
    first true b c e = refl
    first false b c e = cc

    by_test : (b : Bool) → (b ≡ true → u ≤ i.year) → AllByRecursion (λ (c : Carried). u ≤ c.year) (if b then one ∷ [] else [])
    by_test true l = (omega (arith, l refl), tt)
    by_test false l = tt

-- ---- debt payments, matured leave and leases

due_spent : (plan : Plan) (s : Registers) (u : ℕ) (on : Day) (d : DebtPayment) (bonds : List Bond) → IsOpenTo plan s u on → AllByRecursion (IsUnpaidLater s.closed) bonds →
    AllByRecursion (λ x. u ≤ x.year) (bonds_spendings plan d bonds)
due_spent plan s u on d [] is later = tt
due_spent plan s u on d (b ∷ bonds) is later =
    all_append (λ x. u ≤ x.year) (due_spendings plan d b (next_due b)) (bonds_spendings plan d bonds) (by_next (next_due b) (next_later s.closed b later.0)) (due_spent plan s u on d bonds is later.1)
  where
    by_next : (o : Option Due) → IfSome o (λ p. s.closed ≤ p.month) → AllByRecursion (λ (x : Spending). u ≤ x.year) (due_spendings plan d b o)
    by_next None l = tt
    by_next (Some p) l = (is.months p.month l, (is.months p.month l, tt))

spent_from : (plan : Plan) (s : Registers) (u : ℕ) (on : Day) (act : Act) → IsOpenTo plan s u on → AllByRecursion (λ x. u ≤ x.year) (spendings_by plan s on act)
spent_from plan s u on (PayDue d) is = due_spent plan s u on d (filter (λ b. b.number == d.bond) s.bonds) is (all_filter (IsUnpaidLater s.closed) _ s.bonds is.unpaid)
spent_from plan s u on (Leave (Mature l)) is = (is.day, tt)
spent_from plan s u on (Lease l) is = (is.day, tt)
spent_from plan s u on _ is = tt

spendings_idle : (plan : Plan) (s : Registers) (u : ℕ) (on : Day) (act : Act) → IsOpenTo plan s u on → AllByRecursion (IsIdleBefore u) (map spending_move (spendings_by plan s on act))
spendings_idle plan s u on act is = all_map (λ x. u ≤ x.year) (IsIdleBefore u) spending_move (λ x l. of_later u (spending_move x) l) (spendings_by plan s on act) (spent_from plan s u on act is)

-- ---- the moves of each act

-- what is known of the requisitions and the order items where an act is added
pub record IsOpenOn (plan : Plan) (s : Registers) (u : ℕ) (act : Act) : Type 0 where
  pub now : u ≤ now_year plan s
  pub holds : AllByRecursion (IsOpenFrom (now_year plan s)) s.documents.holds
  pub places : is_distinct same_place s.documents.items ≡ true
  pub rolled : (year : ℕ) → rolls plan year act ≡ true → u ≤ year

-- the closed year rule and the rule on states, over these registers
pub record IsPassed (plan : Plan) (s : Registers) (u : ℕ) (on : Day) (act : Act) : Type 0 where
  pub years : first_refusal (closed_year u) (posted_years plan s.documents on act) ≡ None
  pub states : state_refusal plan s.documents on act ≡ None

pub moves_idle : (plan : Plan) (s : Registers) (u number : ℕ) (on : Day) (act : Act) → IsOpenTo plan s u on → IsOpenOn plan s u act → IsPassed plan s u on act → cancels act ≡ false →
    AllByRecursion (IsIdleBefore u) (moves_of plan s number on act)
moves_idle plan s u number on (Requisition r) to here passed other = all_new (IsIdleBefore u) (hold_move (year_of_day plan on)) (λ a. of_later u (hold_move (year_of_day plan on) a) to.day) r.items
moves_idle plan s u number on (Withdraw n) to here passed other = released u (now_year plan s) (λ h. is_number (Some n) h.requisition) s.documents.holds here.now here.holds
moves_idle plan s u number on (Order o) to here passed other =
    all_append (IsIdleBefore u) (releases o.requisition s.documents.holds) (map (order_move (year_of_day plan on)) o.items)
    (released u (now_year plan s) (λ h. is_number o.requisition h.requisition) s.documents.holds here.now here.holds)
    (all_new (IsIdleBefore u) (order_move (year_of_day plan on)) (λ a. of_later u (order_move (year_of_day plan on) a) to.day) o.items)
moves_idle plan s u number on (ChangeOrder c) to here passed other =
    let step = item_step plan number (ChangeOrder c) in
    all_map (λ i. u ≤ i.year) (IsIdleBefore u) (item_move step) (λ i l. of_later u (item_move step i) l) (filter (is_named c.order c.item) s.documents.items) (changed_from u c.order c.item s.documents.items here.places passed.years)
moves_idle plan s u number on (CancelOrder n) to here passed other = absurd (cc)
moves_idle plan s u number on (Voucher v) to here passed other =
    let y = document_year plan on (Voucher v) in
    let l = first_open u y [] passed.years in
    all_append (IsIdleBefore u) (map (spend_move y) v.items) (map (charge_move (item_step plan number (Voucher v)) s.documents.items y) v.items)
    (all_new (IsIdleBefore u) (spend_move y) (λ i. of_later u (spend_move y i) l) v.items)
    (charged_idle u y (item_step plan number (Voucher v)) s.documents.items v.items l passed.states)
moves_idle plan s u number on (VoidVoucher n) to here passed other =
    let xs = spent_by n s.documents.expenditures in
    let year = to.vouchers.0 in
    let from : AllByRecursion (λ x. (u ≤ x.year) × (u ≤ year n)) xs = voided_from u n year s.documents.expenditures to.vouchers.1.spent passed.years in
    let reopen = reopen_move (item_step plan number (VoidVoucher n)) s.documents.items in
    all_append (IsIdleBefore u) (map unspend_move xs) (map reopen xs)
    (all_map (λ x. (u ≤ x.year) × (u ≤ year n)) (IsIdleBefore u) unspend_move (λ x l. of_later u (unspend_move x) l.0) xs from)
    (all_map (λ x. (u ≤ x.year) × (u ≤ year n)) (IsIdleBefore u) reopen (λ x l. reopened plan number u n year s.documents.vouchers s.documents.items x to.vouchers.1.taken l) xs from)
moves_idle plan s u number on (PayDue d) to here passed other = spendings_idle plan s u on (PayDue d) to
moves_idle plan s u number on (Leave l) to here passed other = spendings_idle plan s u on (Leave l) to
moves_idle plan s u number on (Close p) to here passed other =
    all_append (IsIdleBefore u) (lapses_of plan (Close p) s.documents.holds) (roll_moves plan (Close p) s.documents.items)
    (released u (now_year plan s) (λ h. rolls plan h.year (Close p)) s.documents.holds here.now here.holds) (rolled_idle plan u (Close p) here.rolled s.documents.items)
moves_idle plan s u number on (Lease l) to here passed other = spendings_idle plan s u on (Lease l) to
moves_idle plan s u number on _ to here passed other = tt
