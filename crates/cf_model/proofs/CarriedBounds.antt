-- What rolls carry over a legal history is small: no more than the order items have, each time.
use Rattle.std.proofs.Common.{◌≡◌, ℕ, suc, ◌+◌, ◌*◌, ◌-◌, ◌^◌, ◌<◌, ◌≤◌, Bool, true, false, not, if◌then◌else◌, ◌&&◌, List, [], ◌∷◌, ◌++◌, length, length-append, map, None, ℤ, pos, negsuc, ◌+ℤ◌, unsigned_abs, refl, sym, subst, ap, ◌∙◌, ◌==◌, ◌≤ℤ◌, arith}
use Rattle.cf_base.proofs.Common.{AllByRecursion, ints, length-map, sum_by-cons}
use Rattle.cf_base.specs.Common.{most_cents, most_entries}
use Rattle.cf_calls.specs.declared.acts.Act.{Act}
use Rattle.cf_calls.specs.declared.acts.Act.TheVariants.{Order, ChangeOrder, CancelOrder, Voucher, VoidVoucher, Close}
use Rattle.cf_calls.specs.declared.entry.Entry.{Entry}
use Rattle.cf_calls.specs.declared.items.AccountItem.{AccountItem}
use Rattle.cf_calls.specs.declared.items.Charge.{Charge}
use Rattle.cf_calls.specs.declared.items.Charge.TheVariants.{Direct, OnOrder}
use Rattle.cf_calls.specs.declared.items.VoucherItem.{VoucherItem}
use Rattle.cf_calls.specs.Common.{IsActInForm}
use Rattle.cf_base.specs.declared.calendar.Day.{Day}
use Rattle.cf_chart.specs.Common.{Plan}
use Rattle.cf_model.specs.Common.{document_year, rolls, Documents, documents_of, carried_in, no_documents, carried_sum, counts, OrderItem, Carried, carried_of, charge_item, charge_items, is_live, is_named, item_step, items_by, items_from, lapses, lapsed, cancelled, liquidated_sum, nonnegative, open_of, rolled, shifted, amount, amount_refusal, bad_amount, first_refusal, Adds, IsLegal}
use Rattle.cf_model.proofs.Accepted.{accepted, accepted_fits}
use Rattle.cf_model.proofs.Bounds.{small}
use Rattle.cf_model.proofs.Changed.{carried_push}
use Rattle.cf_model.proofs.First.{or_else_none}
use Rattle.cf_model.proofs.Legal.{legal_induction}
use Rattle.cf_model.proofs.Tidy.{all_append, all_map, documents_push}

-- ---- the base of an item

charged_base : (number amount : ℕ) (c : Charge) (i : OrderItem) → (charge_item number amount c i).base ≡ i.base
charged_base number amount Direct i = refl
charged_base number amount (OnOrder place order how) i = by_test (is_named order place i) i _ refl
  where
    by_test : (b : Bool) (i j : OrderItem) → j.base ≡ i.base → (if b then j else i).base ≡ i.base
    by_test true i j e = e
    by_test false i j e = refl

charges_base : (number : ℕ) (vs : List VoucherItem) (i : OrderItem) → (charge_items number vs i).base ≡ i.base
charges_base number [] i = refl
charges_base number (v ∷ vs) i = charges_base number vs (charge_item number v.account.amount v.charge i) ∙ charged_base number v.account.amount v.charge i

open_base : (i : OrderItem) → open_of i ≤ i.base
open_base i = by_test (is_live i) i.base (liquidated_sum i.taken)
  where
    by_test : (b : Bool) (x y : ℕ) → (if b then x - y else 0) ≤ x
    by_test true x y = omega arith
    by_test false x y = omega arith

shifted_most : (n : ℕ) (by : ℤ) → unsigned_abs by ≤ most_cents → shifted n by ≤ n + most_cents
shifted_most n (pos m) l = l_sum n m l
  where
    l_sum : (n m : ℕ) → m ≤ most_cents → n + m ≤ n + most_cents
    l_sum n m l = omega (arith, l)
shifted_most n (negsuc m) l = below n (pos n +ℤ negsuc m) (omega (arith, ints))
  where
    below : (n : ℕ) (z : ℤ) → z ≤ℤ pos n → nonnegative z ≤ n + most_cents
    below n (pos k) l = omega (arith, ints, l)
    below n (negsuc k) l = omega arith

if_base : (b : Bool) (i j : OrderItem) (most : ℕ) → i.base ≤ most → j.base ≤ most → (if b then j else i).base ≤ most
if_base true i j most k l = l
if_base false i j most k l = k

-- an act raises the base of an item by at most the greatest amount
step_base : (plan : Plan) (number : ℕ) (act : Act) (i : OrderItem) → amount_refusal act ≡ None → (item_step plan number act i).base ≤ i.base + most_cents
step_base plan number (ChangeOrder c) i none =
    if_base (is_named c.order c.item i && is_live i) i (record i { base = shifted i.base c.by }) (i.base + most_cents) (omega arith)
    (shifted_most i.base c.by (small (unsigned_abs c.by) (or_else_none (bad_amount (amount (unsigned_abs c.by))) None none).0))
step_base plan number (CancelOrder n) i none = if_base ((i.order == n) && is_live i) i (record i { stage = cancelled }) (i.base + most_cents) (omega arith) (omega arith)
step_base plan number (Voucher v) i none = omega (arith, charges_base number v.items i)
step_base plan number (VoidVoucher n) i none = omega arith
step_base plan number (Close p) i none =
    if_base (rolls plan i.year (Close p) && is_live i) i (rolled plan i) (i.base + most_cents) (omega arith)
    (if_base (lapses plan i) (record i { year = i.year + 1; base = open_of i; taken = [] }) (record i { stage = lapsed }) (i.base + most_cents) (omega (arith, open_base i)) (omega arith))
step_base plan number _ i none = omega arith

-- ---- all items of a history

items_low : (order vendor year place : ℕ) (accounts : List AccountItem) (most : ℕ) → first_refusal bad_amount (map (λ i. amount i.amount) accounts) ≡ None → most_cents ≤ most → AllByRecursion (λ i. i.base ≤ most) (items_from order vendor year place accounts)
items_low order vendor year place [] most none l = tt
items_low order vendor year place (a ∷ accounts) most none l =
    let both = or_else_none (bad_amount (amount a.amount)) (first_refusal bad_amount (map (λ i. amount i.amount) accounts)) none in
    (omega (arith, small a.amount both.0, l), items_low order vendor year (place + 1) accounts most both.1 l)

items_many : (order vendor year place : ℕ) (accounts : List AccountItem) → length (items_from order vendor year place accounts) ≡ length accounts
items_many order vendor year place [] = refl
items_many order vendor year place (a ∷ accounts) = ap suc (items_many order vendor year (place + 1) accounts)

new_low : (order year : ℕ) (act : Act) (most : ℕ) → amount_refusal act ≡ None → most_cents ≤ most → AllByRecursion (λ i. i.base ≤ most) (items_by order year act)
new_low order year (Order o) most none l = items_low order o.vendor year 1 o.items most none l
new_low order year _ most none l = tt

new_many : (order year : ℕ) (on : Day) (act : Act) → IsActInForm on act → length (items_by order year act) ≤ 32
new_many order year on (Order o) form = omega (arith, items_many order o.vendor year 1 o.items, form.to)
new_many order year on _ form = omega arith

-- the items of a history of so many entries
pub record AreLow (plan : Plan) (h : List Entry) : Type 0 where
  pub bases : AllByRecursion (λ i. i.base ≤ length h * most_cents) (documents_of plan h).items
  pub few : length (documents_of plan h).items ≤ length h * 32

low_push : (plan : Plan) (h : List Entry) (e : Entry) → AreLow plan h → Adds plan h e → AreLow plan (h ++ e ∷ [])
low_push plan h e are adds =
    let a = accepted plan h e adds in
    let items = (documents_of plan h).items in
    let number = e.drawn.number in
    let year = document_year plan e.change.on e.change.act in
    let pushed : (documents_of plan (h ++ e ∷ [])).items ≡ map (item_step plan number e.change.act) items ++ items_by number year e.change.act = ap (λ (s : Documents). s.items) (documents_push plan no_documents h e) in
    let more : length (h ++ e ∷ []) ≡ length h + 1 = length-append h (e ∷ []) in
    record {
      bases = subst (λ (xs : List OrderItem). AllByRecursion (λ i. i.base ≤ length (h ++ e ∷ []) * most_cents) xs) (sym pushed)
          (all_append (λ i. i.base ≤ length (h ++ e ∷ []) * most_cents) (map (item_step plan number e.change.act) items) (items_by number year e.change.act)
          (all_map (λ i. i.base ≤ length h * most_cents) (λ i. i.base ≤ length (h ++ e ∷ []) * most_cents) (item_step plan number e.change.act) (λ i l. omega (arith, l, more, step_base plan number e.change.act i a.amounts)) items are.bases)
          (new_low number year e.change.act (length (h ++ e ∷ []) * most_cents) a.amounts (omega (arith, more))));
      few = rw (pushed, length-append (map (item_step plan number e.change.act) items) (items_by number year e.change.act), length-map items (item_step plan number e.change.act))
          (omega (arith, more, are.few, new_many number year e.change.on e.change.act adds.form.act));
    }

-- ---- what a roll carries

abbrev amount_on : Plan → ℕ → ℕ → Carried → ℕ
amount_on plan line year c = if counts plan line year c.account c.year then c.amount else 0

carried_low : (plan : Plan) (line year : ℕ) (act : Act) (items : List OrderItem) → AllByRecursion (λ i. i.base ≤ 15000000000000000000) items → carried_sum plan line year (carried_of plan act items) ≤ length items * 15000000000000000000
carried_low plan line year act [] all = omega arith
carried_low plan line year act (i ∷ items) all = by_test (rolls plan i.year act && is_live i && not (lapses plan i)) (carried_low plan line year act items all.1)
  where
    carry : Carried
    carry = record { account = i.account; year = i.year + 1; amount = open_of i }

    at_most : (b : Bool) → (if b then open_of i else 0) ≤ 15000000000000000000
    at_most true = omega (arith, open_base i, all.0)
    at_most false = omega arith

    by_test : (b : Bool) → carried_sum plan line year (carried_of plan act items) ≤ length items * 15000000000000000000 →
        carried_sum plan line year ((if b then carry ∷ [] else []) ++ carried_of plan act items) ≤ suc (length items) * 15000000000000000000
    by_test true rest = rw (sum_by-cons (amount_on plan line year) carry (carried_of plan act items)) (omega (arith, rest, at_most (counts plan line year i.account (i.year + 1))))
    by_test false rest = omega (arith, rest)

weaker : (n : ℕ) (items : List OrderItem) → n ≤ most_entries → AllByRecursion (λ i. i.base ≤ n * most_cents) items → AllByRecursion (λ i. i.base ≤ 15000000000000000000) items
weaker n [] l all = tt
weaker n (i ∷ items) l all = (omega (arith, l, all.0), weaker n items l all.1)

-- by the number of entries
pub record IsCarriedLow (plan : Plan) (h : List Entry) : Type 0 where
  pub items : AreLow plan h
  pub carried : (line year : ℕ) → carried_sum plan line year (carried_in plan h) ≤ length h * 720000000000000000000000000

carried_step : (plan : Plan) (h : List Entry) (e : Entry) → IsCarriedLow plan h → Adds plan h e → IsCarriedLow plan (h ++ e ∷ [])
carried_step plan h e low adds =
    let fits = accepted_fits plan h e adds in
    let items = (documents_of plan h).items in
    record {
      items = low_push plan h e low.items adds;
      carried = λ line year. rw (carried_push plan line year h e, length-append h (e ∷ []))
          (omega (arith, low.carried line year, fits, low.items.few, carried_low plan line year e.change.act items (weaker (length h) items (omega (arith, fits)) low.items.bases)));
    }

-- what was carried into a line and year
pub carried_small : (plan : Plan) (h : List Entry) → IsLegal plan h → length h ≤ most_entries → (line year : ℕ) → carried_sum plan line year (carried_in plan h) < 2 ^ 110
carried_small plan h legal few line year =
    let low : IsCarriedLow plan h = legal_induction plan (IsCarriedLow plan) (record { items = record { bases = tt; few = omega arith }; carried = λ l y. omega arith }) (carried_step plan) h legal in
    omega (arith, few, low.carried line year)
