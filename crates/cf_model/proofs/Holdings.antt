-- What the acts of a legal history enter in the registers of assets and bonds: few of each an
-- entry, of amounts within bounds.
use Rattle.std.proofs.Common.{◌≡◌, ℕ, zero, suc, ◌+◌, ◌-◌, ◌*◌, ◌≤◌, Bool, true, false, if◌then◌else◌, ◌==◌, List, [], ◌∷◌, ◌++◌, map, length, Some, None, slice_get, refl, sym, ap, subst, arith, length-append}
use Rattle.cf_base.proofs.Common.{AllByRecursion, common_steps, length-map}
use Rattle.cf_base.specs.Common.{most_cents}
use Rattle.cf_base.specs.declared.calendar.Day.{Day}
use Rattle.cf_calls.specs.declared.acts.Act.{Act}
use Rattle.cf_calls.specs.declared.acts.Act.TheVariants as act
use Rattle.cf_calls.specs.declared.acts.AssetAct.TheVariants.{Donate, Dispose}
use Rattle.cf_calls.specs.declared.entry.Drawn.{Drawn}
use Rattle.cf_calls.specs.declared.entry.Entry.{Entry}
use Rattle.cf_calls.specs.declared.items.VoucherItem.{VoucherItem}
use Rattle.cf_calls.specs.declared.refusal.Refusal.TheVariants as refusal
use Rattle.cf_calls.specs.Common.{IsActInForm, IsPaymentNumber, is_period}
use Rattle.cf_chart.specs.Common.{Plan, object_at}
use Rattle.cf_model.specs.Common.{Asset, asset_step, assets_by, bought, disposed, new_asset, void, voucher_of, purchase, life_of, Bond, Due, bond_step, bonds_by, dues, dues_from, document_year, year_of_day, is_capital, is_number, Registers, no_registers, registers_of, bond_at, draws, payment_if, payment_number, amount, amount_or_none, amount_refusal, bad_amount, first_refusal, Adds, IsLegal}
use Rattle.cf_model.proofs.Accepted.{accepted}
use Rattle.cf_model.proofs.BookYears.{IsTimely, timely_new, timely_step}
use Rattle.cf_model.proofs.Bounds.{small}
use Rattle.cf_model.proofs.CloseBounds.{IsSmallBond}
use Rattle.cf_model.proofs.First.{or_else_none, refuse_none}
use Rattle.cf_model.proofs.Legal.{legal_induction, legal_push}
use Rattle.cf_model.proofs.LegalMonths.{closed_are}
use Rattle.cf_model.proofs.MonthNumbers.{HasCalendar, from_closed}
use Rattle.cf_model.proofs.Pushes.{registers_push}
use Rattle.cf_model.proofs.Tidy.{all_append, all_map}

-- ---- assets

abbrev pub IsLowCost : Asset → Type 0
IsLowCost a = a.cost ≤ most_cents

cost_kept : (plan : Plan) (closed : ℕ) (on : Day) (a : Act) (x : Asset) → IsLowCost x → IsLowCost (asset_step plan closed on a x)
cost_kept plan closed on (act.VoidVoucher n) x l = by_test (is_number (voucher_of x.origin) n)
  where
    by_test : (b : Bool) → IsLowCost (if b then record x { stage = void } else x)
    by_test true = l
    by_test false = l
cost_kept plan closed on (act.Asset (Dispose d)) x l = by_test (x.number == d.asset)
  where
    by_test : (b : Bool) → IsLowCost (if b then record x { stage = disposed (year_of_day plan on) closed } else x)
    by_test true = l
    by_test false = l
cost_kept plan closed on _ x l = l

bought_low : (plan : Plan) (voucher : ℕ) (on : Day) (year number : ℕ) (items : List VoucherItem) → first_refusal bad_amount (map (λ i. amount i.account.amount) items) ≡ None →
    AllByRecursion IsLowCost (bought plan voucher on year number items)
bought_low plan voucher on year number [] none = tt
bought_low plan voucher on year number (i ∷ items) none =
    let both = or_else_none (bad_amount (amount i.account.amount)) (first_refusal bad_amount (map (λ i. amount i.account.amount) items)) none in
    by_test (is_capital (object_at plan i.account.object)) (small i.account.amount both.0) (bought_low plan voucher on year (number + 1) items both.1) (bought_low plan voucher on year number items both.1)
  where
    by_test : (b : Bool) → i.account.amount ≤ most_cents → AllByRecursion IsLowCost (bought plan voucher on year (number + 1) items) → AllByRecursion IsLowCost (bought plan voucher on year number items) →
        AllByRecursion IsLowCost (if b then new_asset plan (purchase voucher) on year number i.account.dept (life_of plan i.account.object) i.account.amount ∷ bought plan voucher on year (number + 1) items else bought plan voucher on year number items)
    by_test true l next stay = (l, next)
    by_test false l next stay = stay

bought_few : (plan : Plan) (voucher : ℕ) (on : Day) (year number : ℕ) (items : List VoucherItem) → length (bought plan voucher on year number items) ≤ length items
bought_few plan voucher on year number [] = omega arith
bought_few plan voucher on year number (i ∷ items) = by_test (is_capital (object_at plan i.account.object)) (bought_few plan voucher on year (number + 1) items) (bought_few plan voucher on year number items)
  where
    by_test : (b : Bool) → length (bought plan voucher on year (number + 1) items) ≤ length items → length (bought plan voucher on year number items) ≤ length items →
        length (if b then new_asset plan (purchase voucher) on year number i.account.dept (life_of plan i.account.object) i.account.amount ∷ bought plan voucher on year (number + 1) items else bought plan voucher on year number items) ≤ suc (length items)
    by_test true l m = omega (arith, l)
    by_test false l m = omega (arith, m)

new_low : (plan : Plan) (on : Day) (a : Act) (drawn : Drawn) → amount_refusal a ≡ None → AllByRecursion IsLowCost (assets_by plan on a drawn)
new_low plan on (act.Voucher v) drawn none = bought_low plan drawn.number on (document_year plan on (act.Voucher v)) drawn.second v.items none
new_low plan on (act.Asset (Donate d)) drawn none = (small d.amount (or_else_none (bad_amount (amount d.amount)) None none).0, tt)
new_low plan on (act.Asset (Dispose d)) drawn none = tt
new_low plan on (act.Lease l) drawn none = (small l.account.amount (or_else_none (bad_amount (amount l.account.amount)) (first_refusal bad_amount (map amount_or_none l.terms.principals)) none).0, tt)
new_low plan on _ drawn none = tt

new_few : (plan : Plan) (on : Day) (a : Act) (drawn : Drawn) → IsActInForm on a → length (assets_by plan on a drawn) ≤ 32
new_few plan on (act.Voucher v) drawn form = omega (arith, bought_few plan drawn.number on (document_year plan on (act.Voucher v)) drawn.second v.items, form.count.to)
new_few plan on (act.Asset (Donate d)) drawn form = omega arith
new_few plan on (act.Asset (Dispose d)) drawn form = omega arith
new_few plan on (act.Lease l) drawn form = omega arith
new_few plan on _ drawn form = omega arith

-- ---- bonds

-- a bond as the rules of form and the rule on amounts leave it
pub record IsLowBond (b : Bond) : Type 0 where
  pub terms : IsSmallBond b
  pub principals : AllByRecursion (λ (p : ℕ). p ≤ most_cents) b.principals

bond_kept : (a : Act) (b : Bond) → IsLowBond b → IsLowBond (bond_step a b)
bond_kept (act.PayDue p) b low = by_test (b.number == p.bond)
  where
    by_test : (t : Bool) → IsLowBond (if t then record b { paid = b.paid + 1 } else b)
    by_test true =
        record { terms = record { amount = low.terms.amount; rate = low.terms.rate; every = low.terms.every; count = low.terms.count }; principals = low.principals }
    by_test false = low
bond_kept _ b low = low

principals_low : (principals : List ℕ) → first_refusal bad_amount (map amount_or_none principals) ≡ None → AllByRecursion (λ (p : ℕ). p ≤ most_cents) principals
principals_low [] none = tt
principals_low (p ∷ principals) none =
    let both = or_else_none (bad_amount (amount_or_none p)) (first_refusal bad_amount (map amount_or_none principals)) none in
    (at_most p both.0, principals_low principals both.1)
  where
    at_most : (p : ℕ) → bad_amount (amount_or_none p) ≡ None → p ≤ most_cents
    at_most p e = let b = refuse_none _ (refusal.AmountRange p) e in grind arith

period_most : (n : ℕ) → is_period n ≡ true → n ≤ 12
period_most n e = grind (arith, common_steps)

new_bonds : (plan : Plan) (on : Day) (a : Act) (drawn : Drawn) → IsActInForm on a → amount_refusal a ≡ None → AllByRecursion IsLowBond (bonds_by plan on a drawn)
new_bonds plan on (act.Issue i) drawn form none =
    let both = or_else_none (bad_amount (amount i.amount)) (first_refusal bad_amount (map amount_or_none i.terms.principals)) none in (
      record {
        terms = record { amount = small i.amount both.0; rate = form.rate; every = period_most i.terms.every form.every; count = form.principals.to };
        principals = principals_low i.terms.principals both.1;
      },
      tt,
    )
new_bonds plan on (act.Lease l) drawn form none =
    let both = or_else_none (bad_amount (amount l.account.amount)) (first_refusal bad_amount (map amount_or_none l.terms.principals)) none in (
      record {
        terms = record { amount = small l.account.amount both.0; rate = form.terms.rate; every = period_most l.terms.every form.terms.every; count = form.terms.principals.to };
        principals = principals_low l.terms.principals both.1;
      },
      tt,
    )
new_bonds plan on _ drawn form none = tt

new_bond : (plan : Plan) (on : Day) (a : Act) (drawn : Drawn) → length (bonds_by plan on a drawn) ≤ 1
new_bond plan on (act.Issue i) drawn = omega arith
new_bond plan on (act.Lease l) drawn = omega arith
new_bond plan on _ drawn = omega arith

-- ---- both, by the number of entries

pub record AreHoldings (s : Registers) (n : ℕ) : Type 0 where
  pub costs : AllByRecursion IsLowCost s.assets
  pub few_assets : length s.assets ≤ n * 32
  pub bonds : AllByRecursion IsLowBond s.bonds
  pub few_bonds : length s.bonds ≤ n

abbrev AreHeld : Plan → List Entry → Type 0
AreHeld plan h = AreHoldings (registers_of plan h) (length h)

held_step : (plan : Plan) (h : List Entry) (e : Entry) → AreHeld plan h → Adds plan h e → AreHeld plan (h ++ e ∷ [])
held_step plan h e are adds =
    let s = registers_of plan h in
    let a = e.change.act in
    let on = e.change.on in
    let rules = accepted plan h e adds in
    let assets = assets_by plan on a e.drawn in
    let bonds = bonds_by plan on a e.drawn in
    let old : length (map (asset_step plan s.closed on a) s.assets) ≡ length s.assets = length-map s.assets (asset_step plan s.closed on a) in
    let was : length (map (bond_step a) s.bonds) ≡ length s.bonds = length-map s.bonds (bond_step a) in
    let more : length (h ++ e ∷ []) ≡ length h + 1 = length-append h (e ∷ []) in
    subst (λ (r : Registers). AreHoldings r (length (h ++ e ∷ []))) (sym (registers_push plan no_registers h e))
    (record {
      costs =
          all_append IsLowCost (map (asset_step plan s.closed on a) s.assets) assets
          (all_map IsLowCost IsLowCost (asset_step plan s.closed on a) (cost_kept plan s.closed on a) s.assets are.costs) (new_low plan on a e.drawn rules.amounts);
      few_assets = rw (length-append (map (asset_step plan s.closed on a) s.assets) assets) (omega (arith, old, more, are.few_assets, new_few plan on a e.drawn adds.form.act));
      bonds =
          all_append IsLowBond (map (bond_step a) s.bonds) bonds
          (all_map IsLowBond IsLowBond (bond_step a) (bond_kept a) s.bonds are.bonds) (new_bonds plan on a e.drawn adds.form.act rules.amounts);
      few_bonds = rw (length-append (map (bond_step a) s.bonds) bonds) (omega (arith, was, more, are.few_bonds, new_bond plan on a e.drawn));
    })

pub are_held : (plan : Plan) (history : List Entry) → IsLegal plan history → AreHoldings (registers_of plan history) (length history)
are_held plan history legal =
    legal_induction plan (AreHeld plan) (record { costs = tt; few_assets = omega arith; bonds = tt; few_bonds = omega arith }) (held_step plan) history legal

-- ---- payments are due in years of the books

record HasTimely (plan : Plan) (h : List Entry) : Type 0 where
  pub legal : IsLegal plan h
  pub bonds : AllByRecursion (IsTimely plan) (registers_of plan h).bonds

timely_push : (plan : Plan) → HasCalendar plan → (h : List Entry) (e : Entry) → HasTimely plan h → Adds plan h e → HasTimely plan (h ++ e ∷ [])
timely_push plan calendar h e has adds =
    let s = registers_of plan h in
    let a = e.change.act in
    let from = from_closed plan h e.change.on (closed_are plan h calendar has.legal) adds.form.on (accepted plan h e adds).period in
    record {
      legal = legal_push plan h e has.legal adds;
      bonds =
          subst (λ (r : Registers). AllByRecursion (IsTimely plan) r.bonds) (sym (registers_push plan no_registers h e))
          (all_append (IsTimely plan) (map (bond_step a) s.bonds) (bonds_by plan e.change.on a e.drawn)
          (all_map (IsTimely plan) (IsTimely plan) (bond_step a) (timely_step a plan) s.bonds has.bonds)
          (timely_new plan e.change.on a e.drawn calendar (omega (arith, from)) adds.form.act));
    }

pub are_timely : (plan : Plan) (history : List Entry) → HasCalendar plan → IsLegal plan history → AllByRecursion (IsTimely plan) (registers_of plan history).bonds
are_timely plan history calendar legal = (legal_induction plan (HasTimely plan) (record { legal = tt; bonds = tt }) (timely_push plan calendar) history legal).bonds

-- ---- the number of a payment

dues_length : (every from owed : ℕ) (principals : List ℕ) → length (dues_from every from owed principals) ≡ length principals
dues_length every from owed [] = refl
dues_length every from owed (p ∷ principals) = ap suc (dues_length every (from + every) (owed - p) principals)

payment_at : (ps : List Due) (k m n : ℕ) → n ≡ k + m → payment_if n (slice_get ps k) ≤ m + length ps
payment_at [] k m n e = omega arith
payment_at (p ∷ ps) zero m n e = omega (arith, e)
payment_at (p ∷ ps) (suc k) m n e = omega (arith, payment_at ps k (m + 1) n (omega (arith, e)))

-- it is at most the number of payments
payment_most : (number : ℕ) (bonds : List Bond) → AllByRecursion IsLowBond bonds → payment_number (bond_at number bonds) ≤ 120
payment_most number [] low = omega arith
payment_most number (b ∷ bonds) low = by_test (b.number == number) (payment_most number bonds low.1)
  where
    by_test : (t : Bool) → payment_number (bond_at number bonds) ≤ 120 → payment_number (if t then Some b else bond_at number bonds) ≤ 120
    by_test true l = omega (arith, payment_at (dues b) b.paid 0 b.paid (omega arith), dues_length b.every b.month b.amount b.principals, low.0.terms.count)
    by_test false l = l

pub payment_in_form : (plan : Plan) (h : List Entry) (e : Entry) → IsLegal plan h → Adds plan h e → IsPaymentNumber e.change.act e.drawn
payment_in_form plan h e legal adds = by_act e.change.act (ap (λ (x : Entry). x.drawn) (accepted plan h e adds).entry)
  where
    by_act : (a : Act) → e.drawn ≡ draws (registers_of plan h) a → IsPaymentNumber a e.drawn
    by_act (act.PayDue p) drawn =
        let number : e.drawn.number ≡ payment_number (bond_at p.bond (registers_of plan h).bonds) = ap (λ (d : Drawn). d.number) drawn in
        omega (arith, number, payment_most p.bond (registers_of plan h).bonds (are_held plan h legal).bonds)
    by_act _ drawn = tt
