-- The documents of a legal history have the numbers 1, 2, 3 .., and the items of a requisition
-- share their state.
use Rattle.std.proofs.Common.{◌≡◌, ◌≢◌, ℕ, ◌+◌, ◌≤◌, Bool, true, false, if◌then◌else◌, ◌==◌, List, [], ◌∷◌, ◌++◌, map, Some, None, refl, sym, ap, subst, ◌∙◌, arith, filter}
use Rattle.cf_base.proofs.Common.{AllByRecursion, common_steps}
use Rattle.cf_model.specs.Common.{Act, Requisition, Withdraw, Order, Close, Entry, AccountItem, RequisitionState, document_year, rolls, not_open_requisition, withdrawn_state, Hold, Documents, documents_of, documents_step, draws_order, draws_requisition, hold_of, hold_step, is_number, leaves, no_documents, requisition_at, held_amount, OrderItem, item_step, items_by, items_from, registers_of, document_number, draws, Adds, IsLegal}
use Rattle.cf_calls.specs.declared.shown.RequisitionState.TheVariants as requisition
use Rattle.cf_calls.specs.Common.{requisition_items}
use Rattle.cf_chart.specs.Common.{Plan}
use Rattle.cf_model.proofs.Common.{accepted, hold_same, legal_induction, documents_are, after_act, all_append, all_map, all_new, by_own_number, documents_push, step_place}
use Rattle.cf_office_rows.specs.Rolls.{AreReleased}

-- ---- items that share their state

abbrev IsAlike : Hold → Hold → Type 0
IsAlike h k = h.requisition ≡ k.requisition → (h.state ≡ k.state) × (h.year ≡ k.year)

abbrev AreAlike : List Hold → Type 0
AreAlike [] = Unit {0}
AreAlike (h ∷ hs) = AllByRecursion (IsAlike h) hs × AreAlike hs

-- the state of an item after an act, by what the items of its requisition share
abbrev state_after : Plan → Act → ℕ → RequisitionState → ℕ → RequisitionState
state_after plan (Withdraw n) r s y = if is_number (Some n) r then leaves s requisition.Withdrawn else s
state_after plan (Order o) r s y = if is_number o.requisition r then leaves s requisition.Ordered else s
state_after plan (Close p) r s y = if rolls plan y (Close p) then leaves s requisition.Lapsed else s
state_after plan _ r s y = s

if_state : (b : Bool) (h : Hold) (s : RequisitionState) → (if b then record h { state = s } else h).state ≡ (if b then s else h.state)
if_state true h s = refl
if_state false h s = refl

step_state : (plan : Plan) (act : Act) (h : Hold) → (hold_step plan act h).state ≡ state_after plan act h.requisition h.state h.year
step_state plan (Withdraw n) h = if_state (is_number (Some n) h.requisition) h (leaves h.state requisition.Withdrawn)
step_state plan (Order o) h = if_state (is_number o.requisition h.requisition) h (leaves h.state requisition.Ordered)
step_state plan (Close p) h = if_state (rolls plan h.year (Close p)) h (leaves h.state requisition.Lapsed)
step_state plan _ h = refl

alike_step : (plan : Plan) (act : Act) (h k : Hold) → IsAlike h k → IsAlike (hold_step plan act h) (hold_step plan act k)
alike_step plan act h k alike same =
    let a = hold_same plan act h in
    let b = hold_same plan act k in
    let r : h.requisition ≡ k.requisition = sym a.requisition ∙ same ∙ b.requisition in
    let both = alike r in
    (step_state plan act h ∙ (λ i. state_after plan act (r i) (both.0 i) (both.1 i)) ∙ sym (step_state plan act k), a.year ∙ both.1 ∙ sym b.year)

alike_map : (plan : Plan) (act : Act) (hs : List Hold) → AreAlike hs → AreAlike (map (hold_step plan act) hs)
alike_map plan act [] alike = tt
alike_map plan act (h ∷ hs) alike =
    (all_map (IsAlike h) (IsAlike (hold_step plan act h)) (hold_step plan act) (λ k a. alike_step plan act h k a) hs alike.0, alike_map plan act hs alike.1)

alike_append : (hs ks : List Hold) → AreAlike hs → AreAlike ks → AllByRecursion (λ (h : Hold). AllByRecursion (IsAlike h) ks) hs → AreAlike (hs ++ ks)
alike_append [] ks a b c = b
alike_append (h ∷ hs) ks a b c = (all_append (IsAlike h) hs ks a.0 c.0, alike_append hs ks a.1 b c.1)

new_alike : (n desk year : ℕ) (accounts : List AccountItem) → AreAlike (map (hold_of n desk year) accounts)
new_alike n desk year [] = tt
new_alike n desk year (a ∷ accounts) = (all_new (IsAlike (hold_of n desk year a)) (hold_of n desk year) (λ b same. (refl, refl)) accounts, new_alike n desk year accounts)

-- the items of a new requisition are of another than those before
apart : (s : Documents) (desk year : ℕ) (act : Act) (h : Hold) → h.requisition ≤ s.requisitions → AllByRecursion (IsAlike h) (map (hold_of (document_number s act) desk year) (requisition_items act))
apart s desk year (Requisition r) h l = all_new (IsAlike h) (hold_of (s.requisitions + 1) desk year) (λ a same. absurd (omega (arith, l, same))) r.items
apart s desk year _ h l = tt

-- ---- documents by their numbers

pub record IsOrderly (s : Documents) : Type 0 where
  pub holds : AllByRecursion (λ h. (1 ≤ h.requisition) × (h.requisition ≤ s.requisitions)) s.holds
  pub items : AllByRecursion (λ i. (1 ≤ i.order) × (i.order ≤ s.orders)) s.items
  pub alike : AreAlike s.holds

orderly_start : IsOrderly no_documents
orderly_start = record { holds = tt; items = tt; alike = tt }

new_holds : (s : Documents) (desk year : ℕ) (act : Act) →
    AllByRecursion (λ (h : Hold). (1 ≤ h.requisition) × (h.requisition ≤ s.requisitions + draws_requisition act)) (map (hold_of (document_number s act) desk year) (requisition_items act))
new_holds s desk year (Requisition r) =
    all_new (λ (h : Hold). (1 ≤ h.requisition) × (h.requisition ≤ s.requisitions + 1)) (hold_of (s.requisitions + 1) desk year) (λ a. (omega arith, omega arith)) r.items
new_holds s desk year _ = tt

from_items : (n most vendor year place : ℕ) (accounts : List AccountItem) → 1 ≤ n → n ≤ most → AllByRecursion (λ (i : OrderItem). (1 ≤ i.order) × (i.order ≤ most)) (items_from n vendor year place accounts)
from_items n most vendor year place [] a b = tt
from_items n most vendor year place (x ∷ accounts) a b = ((a, b), from_items n most vendor year (place + 1) accounts a b)

new_items : (s : Documents) (year : ℕ) (act : Act) → AllByRecursion (λ (i : OrderItem). (1 ≤ i.order) × (i.order ≤ s.orders + draws_order act)) (items_by (document_number s act) year act)
new_items s year (Order o) = from_items (s.orders + 1) (s.orders + 1) o.vendor year 1 o.items (omega arith) (omega arith)
new_items s year _ = tt

orderly_step : (plan : Plan) (h : List Entry) (e : Entry) → IsOrderly (documents_of plan h) → Adds plan h e → IsOrderly (documents_step plan (documents_of plan h) e)
orderly_step plan h e o adds =
    let s = documents_of plan h in
    let a = accepted plan h e adds in
    let act = e.change.act in
    let desk = e.change.desk in
    let year = document_year plan e.change.on act in
    let n = document_number s act in
    let number : e.drawn.number ≡ (draws (registers_of plan h) act).number = ap (λ (x : Entry). x.drawn.number) a.entry in
    let same : after_act plan s e.drawn.number desk e.change.on year act ≡ after_act plan s n desk e.change.on year act =
    ap (λ m. after_act plan s m desk e.change.on year act) number
    ∙ subst (λ d. after_act plan d (draws (registers_of plan h) act).number desk e.change.on year act ≡ after_act plan d (document_number d act) desk e.change.on year act) (documents_are plan h)
    (by_own_number plan (registers_of plan h) desk e.change.on year act) in
    subst IsOrderly (sym same)
    (record {
      holds = all_append (λ (x : Hold). (1 ≤ x.requisition) × (x.requisition ≤ s.requisitions + draws_requisition act)) (map (hold_step plan act) s.holds) (map (hold_of n desk year) (requisition_items act))
          (all_map (λ (x : Hold). (1 ≤ x.requisition) × (x.requisition ≤ s.requisitions)) (λ (x : Hold). (1 ≤ x.requisition) × (x.requisition ≤ s.requisitions + draws_requisition act)) (hold_step plan act)
          (λ x l. (omega (arith, l.0, (hold_same plan act x).requisition), omega (arith, l.1, (hold_same plan act x).requisition))) s.holds o.holds)
          (new_holds s desk year act);
      items = all_append (λ (x : OrderItem). (1 ≤ x.order) × (x.order ≤ s.orders + draws_order act)) (map (item_step plan n act) s.items) (items_by n year act)
          (all_map (λ (x : OrderItem). (1 ≤ x.order) × (x.order ≤ s.orders)) (λ (x : OrderItem). (1 ≤ x.order) × (x.order ≤ s.orders + draws_order act)) (item_step plan n act)
          (λ x l. (omega (arith, l.0, (step_place plan n act x).order), omega (arith, l.1, (step_place plan n act x).order))) s.items o.items)
          (new_items s year act);
      alike = alike_append (map (hold_step plan act) s.holds) (map (hold_of n desk year) (requisition_items act)) (alike_map plan act s.holds o.alike) (new_alike n desk year (requisition_items act))
          (all_map (λ (x : Hold). (1 ≤ x.requisition) × (x.requisition ≤ s.requisitions)) (λ (x : Hold). AllByRecursion (IsAlike x) (map (hold_of n desk year) (requisition_items act))) (hold_step plan act)
          (λ x l. apart s desk year act (hold_step plan act x) (omega (arith, l.1, (hold_same plan act x).requisition))) s.holds o.holds);
    })

pub orderly_always : (plan : Plan) (history : List Entry) → IsLegal plan history → IsOrderly (documents_of plan history)
orderly_always plan history legal =
    legal_induction plan (λ h. IsOrderly (documents_of plan h)) orderly_start
    (λ h e o adds. subst IsOrderly (sym (documents_push plan no_documents h e)) (orderly_step plan h e o adds)) history legal

-- ---- what isn't open holds nothing

not_open_none : (n : ℕ) (s : RequisitionState) (amount : ℕ) → not_open_requisition n s ≢ None → held_amount s amount ≡ 0
not_open_none n requisition.Open amount differs = absurd (differs refl)
not_open_none n requisition.Withdrawn amount differs = refl
not_open_none n requisition.Ordered amount differs = refl
not_open_none n requisition.Lapsed amount differs = refl

met : (m n : ℕ) → (m == n) ≡ true → m ≡ n
met m n e = grind (arith, common_steps)

turned : (m n : ℕ) (b : Bool) → (m == n) ≡ b → (n == m) ≡ b
turned m n true e = grind (arith, common_steps)
turned m n false e = grind (arith, common_steps)

rest_released : (n : ℕ) (h : Hold) (hs : List Hold) → h.requisition ≡ n → not_open_requisition n h.state ≢ None → AllByRecursion (IsAlike h) hs →
    AllByRecursion (λ (k : Hold). held_amount k.state k.account.amount ≡ 0) (filter (λ (k : Hold). is_number (Some n) k.requisition) hs)
rest_released n h [] of differs alike = tt
rest_released n h (k ∷ hs) of differs alike = by_test (n == k.requisition) refl (rest_released n h hs of differs alike.1)
  where
    rest : List Hold
    rest = filter (λ (k : Hold). is_number (Some n) k.requisition) hs

    by_test : (b : Bool) → (n == k.requisition) ≡ b → AllByRecursion (λ (k : Hold). held_amount k.state k.account.amount ≡ 0) rest →
        AllByRecursion (λ (k : Hold). held_amount k.state k.account.amount ≡ 0) (if b then k ∷ rest else rest)
    by_test true e more =
        let shares = alike.0 (of ∙ met n k.requisition e) in
        (ap (λ (s : RequisitionState). held_amount s k.account.amount) (sym shares.0) ∙ not_open_none n h.state k.account.amount differs, more)
    by_test false e more = more

pub are_released : (holds : List Hold) → AreAlike holds → AreReleased holds
are_released [] alike n differs = tt
are_released (h ∷ hs) alike n differs = by_test (h.requisition == n) refl differs (are_released hs alike.1 n)
  where
    rest : List Hold
    rest = filter (λ (k : Hold). is_number (Some n) k.requisition) hs

    by_test : (b : Bool) → (h.requisition == n) ≡ b → withdrawn_state n (if b then Some h else requisition_at n hs) ≢ None →
        (withdrawn_state n (requisition_at n hs) ≢ None → AllByRecursion (λ (k : Hold). held_amount k.state k.account.amount ≡ 0) rest) →
        AllByRecursion (λ (k : Hold). held_amount k.state k.account.amount ≡ 0) (if n == h.requisition then h ∷ rest else rest)
    by_test true e d later =
        rw (turned h.requisition n true e)
        (not_open_none n h.state h.account.amount d, rest_released n h hs (met h.requisition n e) d alike.0)
    by_test false e d later = rw (turned h.requisition n false e) (later d)

pub released_always : (plan : Plan) (h : List Entry) → IsLegal plan h → AreReleased (registers_of plan h).documents.holds
released_always plan h legal =
    subst (λ (d : Documents). AreReleased d.holds) (sym (documents_are plan h)) (are_released (documents_of plan h).holds (orderly_always plan h legal).alike)
