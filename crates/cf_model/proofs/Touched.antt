-- An entry that doesn't touch a stripe leaves the numbers of its lines.
use Rattle.std.proofs.Common.{◌≡◌, ℕ, ◌+◌, Bool, true, false, not, ◌==◌, ◌&&◌, ◌||◌, if◌then◌else◌, List, [], ◌∷◌, ◌++◌, map, Option, Some, None, is_some, ℤ, pos, ◌+ℤ◌, ◌-ℤ◌, refl, sym, subst, arith, ◌∙◌, ap, append-nil, append_assoc, filter, count_by}
use Rattle.cf_base.proofs.Common.{list_any, AllByRecursion, common_steps, ints, sum_by-cons}
use Rattle.cf_base.specs.declared.calendar.Day.{Day}
use Rattle.cf_calls.specs.declared.acts.Act.{Act}
use Rattle.cf_calls.specs.declared.acts.Act.TheVariants.{Adopt, Amend, Transfer, Requisition, Withdraw, Order, ChangeOrder, CancelOrder, Voucher, VoidVoucher, Pay, Bill, Collect, Receive, WriteOff, Asset, Issue, PayDue, Leave, Interfund, Close, Lease}
use Rattle.cf_calls.specs.declared.acts.DebtPayment.{DebtPayment}
use Rattle.cf_calls.specs.declared.acts.LeaveAct.TheVariants.{Mature}
use Rattle.cf_calls.specs.declared.entry.Entry.{Entry}
use Rattle.cf_calls.specs.declared.items.AccountItem.{AccountItem}
use Rattle.cf_calls.specs.declared.items.Charge.{Charge}
use Rattle.cf_calls.specs.declared.items.Charge.TheVariants.{Direct, OnOrder}
use Rattle.cf_calls.specs.declared.items.LineAmount.{LineAmount}
use Rattle.cf_calls.specs.declared.items.VoucherItem.{VoucherItem}
use Rattle.cf_calls.specs.declared.refusal.Refusal.TheVariants as refusal
use Rattle.cf_calls.specs.Common.{is_distinct}
use Rattle.cf_chart.specs.Common.{Plan, is_later, line_in}
use Rattle.cf_model.specs.Common.{Bond, Due, next_due, document_year, rolled_year, OrderItem, is_named, item_named, item_step, Hold, Documents, documents_of, is_number, on_order_refusal, charge_not_on_order, not_on_order, has_account, is_account, counts, carried_sum, is_on, is_line, amount_for, adopted_by, added_by, removed_by, original, appropriated, encumbered, expended, numbers, Move, document_moves, moves_of, carried_by, moved_sum, spending_move, releases, release_move, hold_move, order_move, item_move, spend_move, charge_move, move_if, Registers, registers_of, first_refusal, Spending, due_spendings, bonds_spendings, spendings_by, Adds, IsLegal, IsLegalAfter, stripe_of, is_line_in, is_in, is_item_in, touches, entry_touches}
use Rattle.cf_model.specs.LineNumbers.{held}
use Rattle.cf_model.proofs.Accepted.{accepted}
use Rattle.cf_model.proofs.Changed.{original_push, appropriated_push, held_push, encumbered_push, expended_push, nothing_rolled, unrolled_moves}
use Rattle.cf_model.proofs.First.{or_else_none, refuse_none}
use Rattle.cf_model.proofs.Legal.{legal_push}
use Rattle.cf_model.proofs.Pushes.{documents_are}
use Rattle.cf_model.proofs.Tidy.{tidy_always, all_append, all_map, both, not_true, same_place}

-- ---- the moves of an act are of accounts in stripes that it touches

abbrev pub IsOut : Plan → ℕ → Move → Type 0
IsOut plan stripe m = is_item_in plan stripe m.account ≡ false

or_false : (a b : Bool) → (a || b) ≡ false → (a ≡ false) × (b ≡ false)
or_false true b e = cc
or_false false b e = (refl, e)

-- moves of items that are out
out_map : {A : Type 0} (plan : Plan) (stripe : ℕ) (account : A → AccountItem) (move : A → Move) → ((x : A) → (move x).account ≡ account x) → (xs : List A) →
    list_any (λ x. is_item_in plan stripe (account x)) xs ≡ false → AllByRecursion (IsOut plan stripe) (map move xs)
out_map plan stripe account move same [] none = tt
out_map plan stripe account move same (x ∷ xs) none =
    let b = or_false (is_item_in plan stripe (account x)) (list_any (λ y. is_item_in plan stripe (account y)) xs) none in
    (ap (is_item_in plan stripe) (same x) ∙ b.0, out_map plan stripe account move same xs b.1)

-- an order's item that has an account is in the account's stripe
same_number : (a b : ℕ) → (a == b) ≡ true → a ≡ b
same_number a b e = grind (arith, common_steps)

same_stripe : (plan : Plan) (stripe fund dept object : ℕ) (a : AccountItem) → is_account a fund dept object ≡ true → is_item_in plan stripe a ≡ is_in plan stripe fund dept object
same_stripe plan stripe fund dept object a has =
    let one = both ((a.fund == fund) && (a.dept == dept)) (a.object == object) has in
    let two = both (a.fund == fund) (a.dept == dept) one.0 in
    λ i. is_in plan stripe (same_number a.fund fund two.0 i) (same_number a.dept dept two.1 i) (same_number a.object object one.1 i)

not_false : (b : Bool) → not b ≡ false → b ≡ true
not_false true e = refl
not_false false e = cc

has_named : (items : List OrderItem) (order place fund dept object : ℕ) → not_on_order items order place fund dept object ≡ None → has_account (item_named order place items) fund dept object ≡ true
has_named items order place fund dept object none = not_false _ (refuse_none _ (refusal.NotOnOrder order place) none)

-- what is charged
move_out : (plan : Plan) (stripe year : ℕ) (step : OrderItem → OrderItem) (a : AccountItem) (o : Option OrderItem) → is_item_in plan stripe a ≡ false → has_account o a.fund a.dept a.object ≡ true →
    IsOut plan stripe (move_if step a year o)
move_out plan stripe year step a None out has = out
move_out plan stripe year step a (Some i) out has = same_stripe plan stripe a.fund a.dept a.object i.account has ∙ out

charge_out : (plan : Plan) (stripe year : ℕ) (step : OrderItem → OrderItem) (items : List OrderItem) (v : VoucherItem) (c : Charge) → v.charge ≡ c → is_item_in plan stripe v.account ≡ false →
    charge_not_on_order items v v.charge ≡ None → IsOut plan stripe (charge_move step items year v)
charge_out plan stripe year step items v Direct is out none = rw is out
charge_out plan stripe year step items v (OnOrder place order how) is out none =
    let named = has_named items order place v.account.fund v.account.dept v.account.object (sym (ap (charge_not_on_order items v) is) ∙ none) in
    rw is (move_out plan stripe year step v.account (item_named order place items) out named)

charges_out : (plan : Plan) (stripe year : ℕ) (step : OrderItem → OrderItem) (items : List OrderItem) (vs : List VoucherItem) → list_any (λ v. is_item_in plan stripe v.account) vs ≡ false →
    first_refusal (λ v. charge_not_on_order items v v.charge) vs ≡ None → AllByRecursion (IsOut plan stripe) (map (charge_move step items year) vs)
charges_out plan stripe year step items [] out none = tt
charges_out plan stripe year step items (v ∷ vs) out none =
    let b = or_false (is_item_in plan stripe v.account) (list_any (λ w. is_item_in plan stripe w.account) vs) out in
    let n = or_else_none (charge_not_on_order items v v.charge) (first_refusal (λ w. charge_not_on_order items w w.charge) vs) none in
    (charge_out plan stripe year step items v v.charge refl b.0 n.0, charges_out plan stripe year step items vs b.1 n.1)

-- of items that are apart only the first is named
none_named : (order place : ℕ) (i : OrderItem) (items : List OrderItem) → is_named order place i ≡ true → list_any (same_place i) items ≡ false → filter (is_named order place) items ≡ []
none_named order place i [] here alone = refl
none_named order place i (j ∷ items) here alone =
    let b = or_false (same_place i j) (list_any (same_place i) items) alone in
    let at = both (i.order == order) (i.place == place) here in
    let other : is_named order place j ≡ false = sym (λ k. is_named (same_number i.order order at.0 k) (same_number i.place place at.1 k) j) ∙ b.0 in
    rw other (none_named order place i items here b.1)

named_out : (plan : Plan) (stripe order place fund dept object : ℕ) (step : OrderItem → OrderItem) (items : List OrderItem) → is_distinct same_place items ≡ true →
    has_account (item_named order place items) fund dept object ≡ true → is_in plan stripe fund dept object ≡ false → AllByRecursion (IsOut plan stripe) (map (item_move step) (filter (is_named order place) items))
named_out plan stripe order place fund dept object step [] apart has out = tt
named_out plan stripe order place fund dept object step (i ∷ items) apart has out =
    let b = both (not (list_any (same_place i) items)) (is_distinct same_place items) apart in
    by_test (is_named order place i) refl has (not_true _ b.0) (λ h. named_out plan stripe order place fund dept object step items b.1 h out)
  where
    by_test : (t : Bool) → is_named order place i ≡ t → has_account (if t then Some i else item_named order place items) fund dept object ≡ true → list_any (same_place i) items ≡ false →
        (has_account (item_named order place items) fund dept object ≡ true → AllByRecursion (IsOut plan stripe) (map (item_move step) (filter (is_named order place) items))) →
        AllByRecursion (IsOut plan stripe) (map (item_move step) (if t then i ∷ filter (is_named order place) items else filter (is_named order place) items))
    by_test true here has alone rest = rw (none_named order place i items here alone) (same_stripe plan stripe fund dept object i.account has ∙ out, tt)
    by_test false here has alone rest = rest has

-- what a requisition held is released only by a call that touches every stripe
no_releases : (plan : Plan) (stripe : ℕ) (r : Option ℕ) (s : Documents) → is_some r ≡ false → AllByRecursion (IsOut plan stripe) (releases r s.holds)
no_releases plan stripe (Some n) s none = cc
no_releases plan stripe None s none = subst (λ (hs : List Hold). AllByRecursion (IsOut plan stripe) (map release_move hs)) (sym (none_left s.holds)) tt
  where
    none_left : (hs : List Hold) → filter (λ h. is_number None h.requisition) hs ≡ []
    none_left [] = refl
    none_left (h ∷ hs) = none_left hs

pub documents_out : (plan : Plan) (s : Documents) (number : ℕ) (on : Day) (act : Act) (stripe : ℕ) → is_distinct same_place s.items ≡ true → on_order_refusal s act ≡ None →
    touches plan stripe act ≡ false → AllByRecursion (IsOut plan stripe) (document_moves plan s number on act)
documents_out plan s number on (Requisition r) stripe apart none out =
    out_map plan stripe (λ a. a) (hold_move (document_year plan on (Requisition r))) (λ a. refl) r.items out
documents_out plan s number on (Withdraw n) stripe apart none out = cc
documents_out plan s number on (Order o) stripe apart none out =
    let b = or_false (is_some o.requisition) (list_any (is_item_in plan stripe) o.items) out in
    all_append (IsOut plan stripe) (releases o.requisition s.holds) (map (order_move (document_year plan on (Order o))) o.items)
    (no_releases plan stripe o.requisition s b.0)
    (out_map plan stripe (λ a. a) (order_move (document_year plan on (Order o))) (λ a. refl) o.items b.1)
documents_out plan s number on (ChangeOrder c) stripe apart none out =
    named_out plan stripe c.order c.item c.fund c.dept c.object (item_step plan number (ChangeOrder c)) s.items apart (has_named s.items c.order c.item c.fund c.dept c.object none) out
documents_out plan s number on (CancelOrder n) stripe apart none out = cc
documents_out plan s number on (Voucher v) stripe apart none out =
    let y = document_year plan on (Voucher v) in
    let step = item_step plan number (Voucher v) in
    all_append (IsOut plan stripe) (map (spend_move y) v.items) (map (charge_move step s.items y) v.items)
    (out_map plan stripe (λ v. v.account) (spend_move y) (λ v. refl) v.items out)
    (charges_out plan stripe y step s.items v.items out none)
documents_out plan s number on (VoidVoucher n) stripe apart none out = cc
documents_out plan s number on (Adopt a) stripe apart none out = tt
documents_out plan s number on (Amend a) stripe apart none out = tt
documents_out plan s number on (Transfer t) stripe apart none out = tt
documents_out plan s number on (Pay p) stripe apart none out = tt
documents_out plan s number on (Receive r) stripe apart none out = tt
documents_out plan s number on (Interfund m) stripe apart none out = tt
documents_out plan s number on (Bill b) stripe apart none out = tt
documents_out plan s number on (Collect c) stripe apart none out = tt
documents_out plan s number on (WriteOff w) stripe apart none out = tt
documents_out plan s number on (Asset d) stripe apart none out = tt
documents_out plan s number on (Issue i) stripe apart none out = tt
documents_out plan s number on (PayDue p) stripe apart none out = tt
documents_out plan s number on (Leave l) stripe apart none out = tt
documents_out plan s number on (Close p) stripe apart none out = tt
documents_out plan s number on (Lease l) stripe apart none out = tt

-- who closes a period touches every stripe
pub not_rolled : (plan : Plan) (stripe : ℕ) (act : Act) → touches plan stripe act ≡ false → rolled_year plan act ≡ None
not_rolled plan stripe (Close p) out = cc
not_rolled plan stripe _ out = refl

-- debt payments, matured leave and leases

abbrev pub IsSpentOut : Plan → ℕ → Spending → Type 0
IsSpentOut plan stripe x = is_item_in plan stripe x.account ≡ false

due_out : (plan : Plan) (stripe : ℕ) (d : DebtPayment) (b : Bond) (o : Option Due) → is_in plan stripe d.fund d.dept d.principal ≡ false → is_in plan stripe d.fund d.dept d.interest ≡ false →
    AllByRecursion (IsSpentOut plan stripe) (due_spendings plan d b o)
due_out plan stripe d b None principal interest = tt
due_out plan stripe d b (Some p) principal interest = (principal, (interest, tt))

bonds_out : (plan : Plan) (stripe : ℕ) (d : DebtPayment) (bonds : List Bond) → is_in plan stripe d.fund d.dept d.principal ≡ false → is_in plan stripe d.fund d.dept d.interest ≡ false →
    AllByRecursion (IsSpentOut plan stripe) (bonds_spendings plan d bonds)
bonds_out plan stripe d [] principal interest = tt
bonds_out plan stripe d (b ∷ bonds) principal interest =
    all_append (IsSpentOut plan stripe) (due_spendings plan d b (next_due b)) (bonds_spendings plan d bonds) (due_out plan stripe d b (next_due b) principal interest) (bonds_out plan stripe d bonds principal interest)

pub spendings_out : (plan : Plan) (s : Registers) (on : Day) (act : Act) (stripe : ℕ) → touches plan stripe act ≡ false → AllByRecursion (IsSpentOut plan stripe) (spendings_by plan s on act)
spendings_out plan s on (PayDue d) stripe out =
    let b = or_false (is_in plan stripe d.fund d.dept d.principal) (is_in plan stripe d.fund d.dept d.interest) out in
    bonds_out plan stripe d (filter (λ x. x.number == d.bond) s.bonds) b.0 b.1
spendings_out plan s on (Leave (Mature l)) stripe out = (out, tt)
spendings_out plan s on (Lease l) stripe out = (out, tt)
spendings_out plan s on _ stripe out = tt

pub moves_out : (plan : Plan) (s : Registers) (number : ℕ) (on : Day) (act : Act) (stripe : ℕ) → is_distinct same_place s.documents.items ≡ true → on_order_refusal s.documents act ≡ None →
    touches plan stripe act ≡ false → AllByRecursion (IsOut plan stripe) (moves_of plan s number on act)
moves_out plan s number on act stripe apart none out =
    subst (AllByRecursion (IsOut plan stripe)) (sym (unrolled_moves plan s number on act (not_rolled plan stripe act out)))
    (all_append (IsOut plan stripe) (document_moves plan s.documents number on act) (map spending_move (spendings_by plan s on act))
    (documents_out plan s.documents number on act stripe apart none out)
    (all_map (IsSpentOut plan stripe) (IsOut plan stripe) spending_move (λ x o. o) (spendings_by plan s on act) (spendings_out plan s on act stripe out)))

-- ---- so they come to nothing on lines of other stripes

same_self : (n : ℕ) → (n == n) ≡ true
same_self n = grind (arith, common_steps)

not_line : (line : ℕ) (o : Option ℕ) → is_line_in (stripe_of line) o ≡ false → is_line line o ≡ false
not_line line None out = refl
not_line line (Some n) out = by_test (n == line) refl
  where
    by_test : (b : Bool) → (n == line) ≡ b → (n == line) ≡ false
    by_test false e = e
    by_test true e = absurd (clash (sym (same_self (stripe_of line)) ∙ (λ i. stripe_of (sym (same_number n line e) i) == stripe_of line) ∙ out))
      where
        clash : true ≡ false → ⊥
        clash e = cc

-- an account whose lines at both levels are of other stripes isn't on the line in any year
pub off_line : (plan : Plan) (line year : ℕ) (a : AccountItem) → is_item_in plan (stripe_of line) a ≡ false → is_on plan line year a ≡ false
off_line plan line year a out = by_level (is_later plan a.fund year)
  where
    by_level : (b : Bool) → is_line line (line_in plan a.fund a.dept a.object b) ≡ false
    by_level false = not_line line (line_in plan a.fund a.dept a.object false) (or_false (is_line_in (stripe_of line) (line_in plan a.fund a.dept a.object false)) (is_line_in (stripe_of line) (line_in plan a.fund a.dept a.object true)) out).0
    by_level true = not_line line (line_in plan a.fund a.dept a.object true) (or_false (is_line_in (stripe_of line) (line_in plan a.fund a.dept a.object false)) (is_line_in (stripe_of line) (line_in plan a.fund a.dept a.object true)) out).1

pub out_sum : (f : Move → ℤ) (plan : Plan) (line year : ℕ) (moves : List Move) → AllByRecursion (IsOut plan (stripe_of line)) moves → moved_sum f plan line year moves ≡ pos 0
out_sum f plan line year [] out = refl
out_sum f plan line year (m ∷ moves) out =
    let off : is_on plan line m.year m.account ≡ false = off_line plan line m.year m.account out.0 in
    let no : counts plan line year m.account m.year ≡ false = ap (λ b. (m.year == year) && b) off ∙ and_false (m.year == year) in
    (λ i. (if no i then f m else pos 0) +ℤ out_sum f plan line year moves out.1 i)
  where
    and_false : (b : Bool) → (b && false) ≡ false
    and_false true = refl
    and_false false = refl

-- ---- and neither does an appropriation change there

amount_none : (line : ℕ) (rows : List LineAmount) → list_any (λ r. stripe_of r.line == stripe_of line) rows ≡ false → amount_for line rows ≡ 0
amount_none line [] out = refl
amount_none line (r ∷ rows) out =
    let b = or_false (stripe_of r.line == stripe_of line) (list_any (λ q. stripe_of q.line == stripe_of line) rows) out in
    sum_by-cons (λ (q : LineAmount). if q.line == line then q.amount else 0) r rows
    ∙ (λ i. (if not_line line (Some r.line) b.0 i then r.amount else 0) + amount_none line rows b.1 i)

-- what an act adopts, adds and removes of a line of another stripe
pub record IsStill (line year : ℕ) (act : Act) : Type 0 where
  pub adopted : adopted_by line year act ≡ 0
  pub added : added_by line year act ≡ 0
  pub removed : removed_by line year act ≡ 0

zero_if : (b : Bool) → (let r : ℕ = if b then 0 else 0 in r) ≡ 0
zero_if true = refl
zero_if false = refl

still_if : (a b : Bool) (n : ℕ) → a ≡ false → (if a && b then n else 0) ≡ 0
still_if true b n e = cc
still_if false b n e = refl

pub still : (plan : Plan) (line year : ℕ) (act : Act) → touches plan (stripe_of line) act ≡ false → IsStill line year act
still plan line year (Adopt a) out =
    let none = ap (λ (n : ℕ). if a.year == year then n else 0) (amount_none line a.lines out) ∙ zero_if (a.year == year) in
    record { adopted = none; added = none; removed = refl }
still plan line year (Amend a) out = record {
  adopted = refl;
  added = still_if (a.line == line) (a.year == year) _ (not_line line (Some a.line) out);
  removed = still_if (a.line == line) (a.year == year) _ (not_line line (Some a.line) out);
}
still plan line year (Transfer t) out =
    let b = or_false (stripe_of t.from == stripe_of line) (stripe_of t.to == stripe_of line) out in
    record {
      adopted = refl;
      added = still_if (t.to == line) (t.year == year) _ (not_line line (Some t.to) b.1);
      removed = still_if (t.from == line) (t.year == year) _ (not_line line (Some t.from) b.0);
    }
still plan line year (Requisition r) out = record { adopted = refl; added = refl; removed = refl }
still plan line year (Withdraw n) out = record { adopted = refl; added = refl; removed = refl }
still plan line year (Order o) out = record { adopted = refl; added = refl; removed = refl }
still plan line year (ChangeOrder c) out = record { adopted = refl; added = refl; removed = refl }
still plan line year (CancelOrder n) out = record { adopted = refl; added = refl; removed = refl }
still plan line year (Voucher v) out = record { adopted = refl; added = refl; removed = refl }
still plan line year (VoidVoucher n) out = record { adopted = refl; added = refl; removed = refl }
still plan line year (Pay p) out = record { adopted = refl; added = refl; removed = refl }
still plan line year (Receive r) out = record { adopted = refl; added = refl; removed = refl }
still plan line year (Interfund m) out = record { adopted = refl; added = refl; removed = refl }
still plan line year (Bill b) out = record { adopted = refl; added = refl; removed = refl }
still plan line year (Collect c) out = record { adopted = refl; added = refl; removed = refl }
still plan line year (WriteOff w) out = record { adopted = refl; added = refl; removed = refl }
still plan line year (Asset d) out = record { adopted = refl; added = refl; removed = refl }
still plan line year (Issue i) out = record { adopted = refl; added = refl; removed = refl }
still plan line year (PayDue p) out = record { adopted = refl; added = refl; removed = refl }
still plan line year (Leave l) out = record { adopted = refl; added = refl; removed = refl }
still plan line year (Close p) out = cc
still plan line year (Lease l) out = record { adopted = refl; added = refl; removed = refl }

-- ---- one entry

none_more : (n m : ℕ) → m ≡ 0 → n + m ≡ n
none_more n m e = omega (arith, e)

no_move : (a b : ℕ) (z : ℤ) → z ≡ pos 0 → pos b ≡ pos a +ℤ z → b ≡ a
no_move a b z e is = omega (arith, ints, e, is)

keeps : (a : ℤ) (x y z : ℕ) → x ≡ 0 → y ≡ 0 → z ≡ 0 → a +ℤ (pos (x + y) -ℤ pos z) ≡ a
keeps a x y z e f g = omega (arith, ints, e, f, g)

pub numbers_stay : (plan : Plan) (h : List Entry) (e : Entry) (line year : ℕ) → IsLegal plan h → Adds plan h e → entry_touches plan (stripe_of line) e ≡ false →
    numbers plan line year (h ++ e ∷ []) ≡ numbers plan line year h
numbers_stay plan h e line year legal adds out =
    let a = accepted plan h e adds in
    let s = documents_of plan h in
    let are : s ≡ (registers_of plan h).documents = sym (documents_are plan h) in
    let moves = moves_out plan (registers_of plan h) e.drawn.number e.change.on e.change.act (stripe_of line)
    (subst (λ (d : Documents). is_distinct same_place d.items ≡ true) are (tidy_always plan h legal).places) (subst (λ d. on_order_refusal d e.change.act ≡ None) are a.on_order) out in
    let same = still plan line year e.change.act out in
    let carried : carried_by plan s line year e.change.act ≡ 0 = ap (carried_sum plan line year) (nothing_rolled plan e.change.act s.items (not_rolled plan (stripe_of line) e.change.act out)) in
    let first : original line year (h ++ e ∷ []) ≡ original line year h = original_push line year h e ∙ none_more _ _ same.adopted in
    let second : appropriated plan line year (h ++ e ∷ []) ≡ appropriated plan line year h = appropriated_push plan line year h e ∙ keeps _ _ _ _ same.added carried same.removed in
    let third : held plan line year (h ++ e ∷ []) ≡ held plan line year h = no_move _ _ _ (out_sum (λ m. m.held) plan line year _ moves) (held_push plan line year h e) in
    let fourth : encumbered plan line year (h ++ e ∷ []) ≡ encumbered plan line year h =
    no_move _ _ _ (out_sum (λ m. m.encumbered) plan line year _ moves) (encumbered_push plan line year h e adds.form.act legal) in
    let fifth : expended plan line year (h ++ e ∷ []) ≡ expended plan line year h = no_move _ _ _ (out_sum (λ m. m.expended) plan line year _ moves) (expended_push plan line year h e) in
    λ i. record {
      original = pos (first i);
      appropriated = second i;
      held = pos (third i);
      encumbered = pos (fourth i);
      expended = pos (fifth i);
      room = second i -ℤ pos (third i + fourth i + fifth i);
    }

-- ---- many entries

one_none : (b : Bool) (n : ℕ) → (if b then 1 else 0) + n ≡ 0 → (b ≡ false) × (n ≡ 0)
one_none true n e = absurd (omega (arith, e))
one_none false n e = (refl, omega (arith, e))

pub numbers_stay_after : (plan : Plan) (h rest : List Entry) (line year : ℕ) → IsLegal plan h → IsLegalAfter plan h rest → count_by (entry_touches plan (stripe_of line)) rest ≡ 0 →
    numbers plan line year (h ++ rest) ≡ numbers plan line year h
numbers_stay_after plan h [] line year legal later none = ap (numbers plan line year) (append-nil h)
numbers_stay_after plan h (e ∷ rest) line year legal later none =
    let b = one_none (entry_touches plan (stripe_of line) e) (count_by (entry_touches plan (stripe_of line)) rest) (sym (sum_by-cons (λ (x : Entry). if entry_touches plan (stripe_of line) x then 1 else 0) e rest) ∙ none) in
    ap (numbers plan line year) (sym (append_assoc h (e ∷ []) rest))
    ∙ numbers_stay_after plan (h ++ e ∷ []) rest line year (legal_push plan h e legal later.0) later.1 b.1
    ∙ numbers_stay plan h e line year legal later.0 b.0
