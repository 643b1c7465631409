-- What the registers need to take an accepted entry in, and what they become.
use Rattle.std.proofs.Common.{◌≡◌, ◌⊎◌, inl, inr, ℕ, suc, ◌+◌, ◌<◌, ◌≤◌, Bool, true, false, not, ◌==◌, nat_lt, is_some, List, [], ◌∷◌, ◌++◌, length, None, refl, sym, subst, ◌∙◌, ap, arith, filter}
use Rattle.cf_base.proofs.Common.{leb_tells}
use Rattle.cf_model.specs.Common.{Day, Act, Requisition, Order, Voucher, VoidVoucher, Issue, PayDue, Close, Lease, Donate, Dispose, Drawn, Entry, Made, document_year, open_year, rolled_year, year_of_day, document_refusal, Documents, documents_of, is_number, number_of_day, moves_of, receivable_refusal, Receivables, asset_refusal, debt_refusal, disposed_asset, voided_asset, levy_refusal, payment_year, register_name_refusal, unknown_bond, unknown_payment, Registers, registers_of, registers_step, no_registers, bond_at, draws, made_of, payment_number, results_of, closed_refusal, closed_year, first_refusal, or_else, Adds, IsLegal, Asset as CapitalAsset, voucher_of, Bond}
use Rattle.cf_calls.specs.declared.acts.Act.TheVariants.{Bill, Asset}
use Rattle.cf_calls.specs.declared.names.NameKind.TheVariants as kind
use Rattle.cf_calls.specs.declared.refusal.Refusal.TheVariants as refusal
use Rattle.cf_chart.specs.Common.{Plan}
use Rattle.cf_model.proofs.Common.{accepted, accepted_fits, assets_named, bonds_named, years_are, unrolled_moves, or_else_none, refuse_none, IsWhole, closed_are, day_year_is, early, documents_are, registers_push, results_push}
use Rattle.cf_debt.specs.Register.{IsEarlyIssue, IsThere, Debts}
use Rattle.cf_debt.specs.Register as debt
use Rattle.cf_assets.specs.Register as assets
use Rattle.cf_orders.specs.Register as orders
use Rattle.cf_revenue.specs.Register as revenue
use Rattle.cf_registers.specs.Moved.{IsCleared, act_moves}
use Rattle.cf_registers.specs.Numbered.{AreNumbered}
use Rattle.cf_registers.specs.RegistersState.{RegistersState, HasRoomFor, HaveTaken, CanTakeIn}
use Rattle.cf_registers.proofs.Cleared.{cleared}

-- the rules on documents allow an accepted entry
pub allowed : (plan : Plan) (h : List Entry) (e : Entry) → Adds plan h e → document_refusal plan (documents_of plan h) e.change.on e.change.desk e.change.act ≡ None
allowed plan h e adds =
    let a = accepted plan h e adds in
    λ i. or_else (a.states i) (or_else (a.hands i) (or_else (a.on_order i) (or_else (a.opens i) None)))

pub accepted_cleared : (plan : Plan) (h : List Entry) (e : Entry) → IsWhole plan → IsLegal plan h → Adds plan h e → IsCleared plan (registers_of plan h) e.change.on e.change.act
accepted_cleared plan h e whole legal adds =
    cleared plan h e.change.on e.change.desk e.change.act whole.calendar legal adds.form.on adds.form.act (allowed plan h e adds)

-- no rule on debt, leave and the order of months refuses it
pub debt_allowed : (plan : Plan) (h : List Entry) (e : Entry) → Adds plan h e → debt_refusal plan (registers_of plan h) e.change.on e.change.act ≡ None
debt_allowed plan h e adds =
    let a = accepted plan h e adds in
    λ i. or_else (a.paid i) (or_else (a.due i) (or_else (a.leave i) (or_else (a.order i) (or_else (a.unpaid i) None))))

pub numbered : (plan : Plan) (h : List Entry) → IsLegal plan h → AreNumbered (registers_of plan h)
numbered plan h legal = record { assets = assets_named plan h legal; bonds = bonds_named plan h legal }

-- ---- the days and years of accepted entries

year_open : (u year : ℕ) → first_refusal (closed_year u) (year ∷ []) ≡ None → u ≤ year
year_open u year none = by_test (nat_lt year u) (leb_tells (suc year) u) (refuse_none (nat_lt year u) (refusal.YearClosed year) (or_else_none (closed_year u year) None none).0)
  where
    by_test : (b : Bool) → ((b ≡ true) × (suc year ≤ u)) ⊎ ((b ≡ false) × (u < suc year)) → b ≡ false → u ≤ year
    by_test b (inl t) e = cc
    by_test b (inr t) e = omega (arith, t.1)

-- the year of a document is one that the office keeps
document_kept : (plan : Plan) (h : List Entry) (on : Day) (a : Act) → plan.first_year ≤ year_of_day plan on → plan.first_year ≤ open_year plan h → closed_refusal plan h on a ≡ None → plan.first_year ≤ document_year plan on a
document_kept plan h on (Voucher v) day first none = omega (arith, first, year_open (open_year plan h) (document_year plan on (Voucher v)) none)
document_kept plan h on _ day first none = day

-- the bond of a payment is there
bond_there : (plan : Plan) (s : Registers) (on : Day) (a : Act) → register_name_refusal plan s on a ≡ None → IsThere s.bonds a
bond_there plan s on (PayDue p) none =
    by_test (is_some (bond_at p.bond s.bonds)) (refuse_none (not (is_some (bond_at p.bond s.bonds))) (refusal.UnknownName kind.Bond p.bond) (or_else_none (unknown_bond s.bonds p.bond) (unknown_payment plan (payment_year plan (year_of_day plan on) (bond_at p.bond s.bonds)) p) none).0)
  where
    by_test : (b : Bool) → not b ≡ false → b ≡ true
    by_test true e = refl
    by_test false e = cc
bond_there plan s on _ none = tt

pub can_take_in : (plan : Plan) (h : List Entry) (e : Entry) (s : RegistersState) → IsWhole plan → IsLegal plan h → Adds plan h e → s.registers ≡ registers_of plan h → HaveTaken (length h) s →
    HasRoomFor e.change.act s → CanTakeIn plan s e
can_take_in plan h e s whole legal adds registers taken room =
    let a = accepted plan h e adds in
    let few = accepted_fits plan h e adds in
    let documents : s.registers.documents ≡ documents_of plan h = ap (λ (r : Registers). r.documents) registers ∙ documents_are plan h in
    let closed = closed_are plan h whole.calendar legal in
    let from : (registers_of plan h).closed ≤ number_of_day plan e.change.on = early plan h e.change.on closed adds.form.on a.period in
    let year_is = day_year_is plan h e.change.on whole.calendar closed adds.form.on a.period in
    let first : plan.first_year ≤ year_of_day plan e.change.on = subst (λ y. plan.first_year ≤ y) year_is (omega arith) in
    record {
      room = room;
      day = adds.form.on;
      form = adds.form.act;
      amounts = a.amounts;
      early = subst (λ (r : Registers). r.closed ≤ number_of_day plan e.change.on) (sym registers) from;
      year = document_kept plan h e.change.on e.change.act first (years_are plan h legal).from a.closed;
      there = subst (λ (r : Registers). IsThere r.bonds e.change.act) (sym registers) (bond_there plan (registers_of plan h) e.change.on e.change.act a.register_names);
      levied = ap (λ (r : Registers). levy_refusal plan r e.change.on e.change.act) registers ∙ a.levied;
      documents = ap (λ (d : Documents). document_refusal plan d e.change.on e.change.desk e.change.act) documents ∙ allowed plan h e adds;
      receivables = ap (λ (r : Registers). receivable_refusal r.receivables e.change.act) registers ∙ a.receivables;
      assets = ap (λ (r : Registers). asset_refusal r e.change.on e.change.act) registers ∙ a.assets;
      debt = ap (λ (r : Registers). debt_refusal plan r e.change.on e.change.act) registers ∙ debt_allowed plan h e adds;
      drawn = ap (λ (x : Entry). x.drawn) a.entry ∙ ap (λ (r : Registers). draws r e.change.act) (sym registers);
      taken = subst (λ n. HaveTaken n s) (sym taken.orders) taken;
      few = omega (arith, taken.orders, few);
    }

-- the registers after the entry
pub taken_in : (plan : Plan) (h : List Entry) (e : Entry) (old new : Registers) → old ≡ registers_of plan h → new ≡ registers_step plan old e → new ≡ registers_of plan (h ++ e ∷ [])
taken_in plan h e old new was is = is ∙ ap (λ (s : Registers). registers_step plan s e) was ∙ sym (registers_push plan no_registers h e)

-- and the results
pub made_in : (plan : Plan) (h : List Entry) (e : Entry) (old new : List Made) (made : Made) (s : Registers) → old ≡ results_of plan h → s ≡ registers_of plan h → made ≡ made_of plan s e → new ≡ old ++ made ∷ [] →
    new ≡ results_of plan (h ++ e ∷ [])
made_in plan h e old new made s was registers is pushed =
    pushed ∙ (λ i. was i ++ (is ∙ ap (λ (r : Registers). made_of plan r e) registers) i ∷ []) ∙ sym (results_push plan h e)

-- the month of an issue or of a lease isn't closed
pub early_issue : (plan : Plan) (d : Debts) (on : Day) (a : Act) → d.closed ≤ number_of_day plan on → IsEarlyIssue plan d on a
early_issue plan d on (Issue i) early = early
early_issue plan d on (Lease l) early = early
early_issue plan d on _ early = tt

-- the rule on assets reads assets and closed months alone
pub asset_same : (s t : Registers) (on : Day) (a : Act) → s.assets ≡ t.assets → s.closed ≡ t.closed → asset_refusal s on a ≡ asset_refusal t on a
asset_same s t on (VoidVoucher n) assets closed = λ i. first_refusal (voided_asset (closed i)) (filter (λ a. is_number (voucher_of a.origin) n) (assets i))
asset_same s t on (Asset (Donate d)) assets closed = refl
asset_same s t on (Asset (Dispose d)) assets closed = ap (λ (xs : List CapitalAsset). first_refusal (disposed_asset on) (filter (λ a. a.number == d.asset) xs)) assets
asset_same s t on _ assets closed = refl

-- ---- the numbers that an act draws are the next of each register

pub next_documents : (s : Registers) (a : Act) (drawn : Drawn) → drawn ≡ draws s a → orders.IsNext a drawn s.documents
next_documents s (Requisition r) drawn is = ap (λ (d : Drawn). d.number) is
next_documents s (Order o) drawn is = ap (λ (d : Drawn). d.number) is
next_documents s (Voucher v) drawn is = ap (λ (d : Drawn). d.number) is
next_documents s _ drawn is = tt

pub next_bills : (s : Registers) (r : revenue.Register) (a : Act) (drawn : Drawn) → s.receivables ≡ r.receivables → drawn ≡ draws s a → revenue.IsNext a drawn r
next_bills s r (Bill l) drawn of is = ap (λ (d : Drawn). d.number) is ∙ ap (λ (x : Receivables). length x.bills + 1) of
next_bills s r _ drawn of is = tt

pub next_assets : (s : Registers) (r : assets.Register) (a : Act) (drawn : Drawn) → assets.IsOf s r → r.vouchers ≡ s.documents.vouchers → drawn ≡ draws s a → assets.IsNext a drawn r
next_assets s r (Voucher v) drawn of vouchers is = record {
  voucher = ap (λ (d : Drawn). d.number) is ∙ ap (λ n. n + 1) (sym vouchers);
  asset = ap (λ (d : Drawn). d.second) is ∙ ap (λ (xs : List CapitalAsset). length xs + 1) of.assets;
}
next_assets s r (Asset (Donate d)) drawn of vouchers is = ap (λ (x : Drawn). x.number) is ∙ ap (λ (xs : List CapitalAsset). length xs + 1) of.assets
next_assets s r (Asset (Dispose d)) drawn of vouchers is = tt
next_assets s r (Lease l) drawn of vouchers is = ap (λ (x : Drawn). x.number) is ∙ ap (λ (xs : List CapitalAsset). length xs + 1) of.assets
next_assets s r _ drawn of vouchers is = tt

pub next_bonds : (s : Registers) (r : debt.Register) (a : Act) (drawn : Drawn) → s.bonds ≡ r.debts.bonds → drawn ≡ draws s a → debt.IsNext a drawn r
next_bonds s r (Issue i) drawn of is = ap (λ (d : Drawn). d.number) is ∙ ap (λ (bonds : List Bond). length bonds + 1) of
next_bonds s r (Lease l) drawn of is = ap (λ (d : Drawn). d.second) is ∙ ap (λ (bonds : List Bond). length bonds + 1) of
next_bonds s r (PayDue p) drawn of is = ap (λ (d : Drawn). d.number) is ∙ ap (λ (bonds : List Bond). payment_number (bond_at p.bond bonds)) of
next_bonds s r _ drawn of is = tt

-- the moves of an act that rolls no year are those of its documents, or what it spends beside them
pub moves_drawn : (plan : Plan) (s : Registers) (on : Day) (act : Act) → rolled_year plan act ≡ None → moves_of plan s (draws s act).number on act ≡ act_moves plan s on act
moves_drawn plan s on (Close p) none = unrolled_moves plan s 0 on (Close p) none
moves_drawn plan s on (Asset (Donate d)) none = refl
moves_drawn plan s on (Asset (Dispose d)) none = refl
moves_drawn plan s on _ none = refl
