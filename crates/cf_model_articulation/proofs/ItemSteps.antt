-- What an entry makes of each item of the summary reconciliation is what its deeds add to it.
use Rattle.std.proofs.Common.{◌≡◌, ℕ, ◌+◌, ◌<◌, ◌≤◌, Bool, true, false, not, if◌then◌else◌, ◌==◌, nat_le, List, [], ◌∷◌, ◌++◌, map, length, Option, Some, None, option_map, sum_by, ℤ, pos, ◌+ℤ◌, ◌-ℤ◌, refl, sym, ap, ◌∙◌, arith, append-nil, filter}
use Rattle.cf_base.proofs.Common.{AllByRecursion, ints}
use Rattle.cf_model.specs.Common.{Day, Act, Donate, Dispose, Earn, Use, Mature, Drawn, VoucherItem, Function, Asset, Origin, Stage, asset_step, assets_by, bought, disposed, gift, is_leased, lease, leased, leased_life, life_of, net, new_asset, owned, purchase, void, voucher_of, Bond, Due, accrued_through, bond_step, bonds_by, coupon, interest_charge, issues, next_due, owed_through, document_year, year_of_day, is_capital, bonds_deeds, collect_deeds, deeds_of, due_deeds, function_charge, write_off_deeds, is_number, absences, accrued, LeaveChange, leave_by, year_at, spent_by, Settlement, bill_at, bills_by, collected_of, collected_year, settlements_by, Registers, closed_after, int_sum, through}
use Rattle.cf_calls.specs.declared.acts.Act.TheVariants as act
use Rattle.cf_calls.specs.declared.acts.Period.TheVariants as period
use Rattle.cf_calls.specs.Common.{schedule_of}
use Rattle.cf_chart.specs.Common.{Plan, object_at}
use Rattle.cf_model.specs.Bonds as bond
use Rattle.cf_model.specs.Receivables.{Bill}
use Rattle.cf_model.proofs.Common.{FindsBill, IsEarly, to_absences, to_accrued, to_deferred, to_items, billed_one, left_through, settled_one, IsSoundAsset, deferred_now, one_bill, still_deferred, all_filter, all_so, none_first, none_last, stepped_all, sum_append, sum_filter, sum_map, sum_none, sum_same}
use Rattle.cf_model.proofs.Allowed.{IsSound}
use Rattle.cf_model.proofs.Capital as assets
use Rattle.cf_model.proofs.Debt as debt
use Rattle.cf_post.specs.declared.deed.Deed.{Deed}
use Rattle.cf_post.specs.declared.deed.Deed.TheVariants as deed
use Rattle.cf_model_articulation.proofs.DeedSums.{between_none, close_none, collect_none, dispose_none, dues_none, pay_none, void_none, voucher_none, write_off_none}
use Rattle.cf_model_articulation.proofs.ItemDeeds.{to_issues, to_leased, to_leases}

-- ---- lists

-- a sum that stays, and deeds that come to nothing
stays : (x y t : ℤ) → y ≡ x +ℤ pos 0 → t ≡ pos 0 → y ≡ x +ℤ t
stays x y t a b = a ∙ ap (λ z. x +ℤ z) (sym b)

still : {A : Type 0} (f : A → ℤ) (xs : List A) → int_sum f (map (λ x. x) xs ++ []) ≡ int_sum f xs +ℤ pos 0
still f xs = sum_append f (map (λ x. x) xs) [] ∙ ap (λ z. z +ℤ pos 0) (sum_map f (λ x. x) xs)

grown : {A : Type 0} (f : A → ℤ) (xs ys : List A) → int_sum f (map (λ x. x) xs ++ ys) ≡ int_sum f xs +ℤ int_sum f ys
grown f xs ys = sum_append f (map (λ x. x) xs) ys ∙ ap (λ z. z +ℤ int_sum f ys) (sum_map f (λ x. x) xs)

-- a step that doesn't change a test moves what passes it
pub stepped_filter : {A : Type 0} (p : A → Bool) (step : A → A) → ((x : A) → p (step x) ≡ p x) → (xs ys : List A) → filter p (map step xs ++ ys) ≡ map step (filter p xs) ++ filter p ys
stepped_filter p step same [] ys = refl
stepped_filter p step same (x ∷ xs) ys =
    (λ i. if same x i then step x ∷ stepped_filter p step same xs ys i else stepped_filter p step same xs ys i) ∙ by (p x)
  where
    by : (b : Bool) →
        (if b then step x ∷ (map step (filter p xs) ++ filter p ys) else map step (filter p xs) ++ filter p ys)
        ≡ map step (if b then x ∷ filter p xs else filter p xs) ++ filter p ys
    by true = refl
    by false = refl

-- what passes a test, with what is known of all
passed : {A : Type 0} (P : A → Type 0) (p : A → Bool) (xs : List A) → AllByRecursion P xs → AllByRecursion (λ x. (p x ≡ true) × P x) (filter p xs)
passed P p [] all = tt
passed P p (x ∷ xs) all = by (p x) refl (passed P p xs all.1)
  where
    by : (b : Bool) → p x ≡ b → AllByRecursion (λ x. (p x ≡ true) × P x) (filter p xs) → AllByRecursion (λ x. (p x ≡ true) × P x) (if b then x ∷ filter p xs else filter p xs)
    by true is rest = ((is, all.0), rest)
    by false is rest = rest

no_premise : {A : Type 0} (xs : List A) → AllByRecursion (λ (x : A). Unit {0}) xs
no_premise [] = tt
no_premise (x ∷ xs) = (tt, no_premise xs)

-- ---- right-to-use assets

pub leased_same : (plan : Plan) (closed : ℕ) (on : Day) (a : Act) (x : Asset) → is_leased (asset_step plan closed on a x).origin ≡ is_leased x.origin
leased_same plan closed on (act.VoidVoucher n) x = by (is_number (voucher_of x.origin) n)
  where
    by : (b : Bool) → is_leased (if b then record x { stage = void } else x).origin ≡ is_leased x.origin
    by true = refl
    by false = refl
leased_same plan closed on (act.Asset (Dispose d)) x = by (x.number == d.asset)
  where
    by : (b : Bool) → is_leased (if b then record x { stage = disposed (year_of_day plan on) closed } else x).origin ≡ is_leased x.origin
    by true = refl
    by false = refl
leased_same plan closed on _ x = refl

-- none is bought by a voucher
none_bought : (plan : Plan) (n : ℕ) (on : Day) (year number : ℕ) (items : List VoucherItem) → leased (bought plan n on year number items) ≡ []
none_bought plan n on year number [] = refl
none_bought plan n on year number (i ∷ items) = by (is_capital (object_at plan i.account.object)) (none_bought plan n on year (number + 1) items) (none_bought plan n on year number items)
  where
    by : (b : Bool) → leased (bought plan n on year (number + 1) items) ≡ [] → leased (bought plan n on year number items) ≡ [] →
        leased (if b then new_asset plan (purchase n) on year number i.account.dept (life_of plan i.account.object) i.account.amount ∷ bought plan n on year (number + 1) items else bought plan n on year number items)
        ≡ []
    by true next stay = next
    by false next stay = stay

-- so no void takes one
not_void : (plan : Plan) (closed year n : ℕ) (on : Day) (a : Asset) → is_leased a.origin ≡ true → net plan closed year (asset_step plan closed on (act.VoidVoucher n) a) ≡ net plan closed year a +ℤ pos 0
not_void plan closed year n on a is = by a.origin is
  where
    by : (o : Origin) → is_leased o ≡ true →
        net plan closed year (if is_number (voucher_of o) n then record a { stage = void } else a) ≡ net plan closed year a +ℤ pos 0
    by (purchase m) is = cc
    by gift is = cc
    by lease is = sym (none_last (net plan closed year a))

-- what may be said of each asset that an act would dispose of
abbrev pub IsOwned : ℕ → Asset → Type 0
IsOwned n a = (a.number == n) ≡ true → is_leased a.origin ≡ false

not_disposed : (plan : Plan) (closed year n : ℕ) (on : Day) (stage : Stage) (a : Asset) → is_leased a.origin ≡ true → IsOwned n a →
    net plan closed year (if a.number == n then record a { stage = stage } else a) ≡ net plan closed year a +ℤ pos 0
not_disposed plan closed year n on stage a is own = by (a.number == n) own
  where
    by : (b : Bool) → (b ≡ true → is_leased a.origin ≡ false) → net plan closed year (if b then record a { stage = stage } else a) ≡ net plan closed year a +ℤ pos 0
    by true own = absurd (differ (sym is ∙ own refl))
      where
        differ : true ≡ false → ⊥
        differ e = cc
    by false own = sym (none_last (net plan closed year a))

-- what the rules give of an entry on right-to-use assets
abbrev pub AllowsLeased : Plan → Registers → Day → Act → Type 0
AllowsLeased plan s on (act.Lease l) = IsEarly plan s on
AllowsLeased plan s on (act.Asset (Dispose d)) = AllByRecursion (IsOwned d.asset) s.assets
AllowsLeased plan s on _ = Unit {0}

abbrev leased_after : Plan → ℕ → Registers → Day → Drawn → Act → ℤ
leased_after plan year s on drawn a = int_sum (net plan (closed_after a s.closed) year) (map (asset_step plan s.closed on a) (leased s.assets) ++ leased (assets_by plan on a drawn))

abbrev leased_now : Plan → ℕ → Registers → ℤ
leased_now plan year s = int_sum (net plan s.closed year) (leased s.assets)

leased_still : (plan : Plan) (year : ℕ) (s : Registers) → int_sum (net plan s.closed year) (map (λ a. a) (leased s.assets) ++ []) ≡ leased_now plan year s +ℤ pos 0
leased_still plan year s = still (net plan s.closed year) (leased s.assets)

-- what a month charges to functions for these assets
amortized : (plan : Plan) (closed year : ℕ) (xs : List Asset) → AllByRecursion (assets.HasFunction plan) xs →
    int_sum (to_leased year) (map (assets.amortize_deed plan closed xs) plan.functions) ≡ int_sum (assets.charge_part plan closed year) xs
amortized plan closed year xs known =
    sum_map (to_leased year) (assets.amortize_deed plan closed xs) plan.functions
    ∙ sum_same (λ f. to_leased year (assets.amortize_deed plan closed xs f)) (λ f. to_items year (assets.function_deed plan closed xs f))
    (λ f. sym (assets.alone (through year (year_at plan closed) (pos 0 -ℤ pos (function_charge closed xs f.id))))) plan.functions
    ∙ sym (sum_map (to_items year) (assets.function_deed plan closed xs) plan.functions)
    ∙ assets.charge_deeds plan closed year xs known

pub leased_step : (plan : Plan) (year : ℕ) (s : Registers) (on : Day) (drawn : Drawn) → IsSound plan s → (a : Act) → AllowsLeased plan s on a →
    leased_after plan year s on drawn a ≡ leased_now plan year s +ℤ int_sum (to_leased year) (deeds_of plan s on a)
leased_step plan year s on drawn sound (act.Voucher v) ok =
    ap (λ xs. int_sum (net plan s.closed year) (map (λ a. a) (leased s.assets) ++ xs)) (none_bought plan drawn.number on (document_year plan on (act.Voucher v)) drawn.second v.items)
    ∙ stays _ _ _ (leased_still plan year s) (voucher_none (to_leased year) (λ x. refl) plan (document_year plan on (act.Voucher v)) v.items)
leased_step plan year s on drawn sound (act.VoidVoucher n) ok =
    stays _ _ _
    (stepped_all (net plan s.closed year) (net plan s.closed year) (asset_step plan s.closed on (act.VoidVoucher n)) (λ a. pos 0) (leased s.assets) []
    (all_so (λ (a : Asset). (is_leased a.origin ≡ true) × Unit {0}) (λ a. net plan s.closed year (asset_step plan s.closed on (act.VoidVoucher n) a) ≡ net plan s.closed year a +ℤ pos 0)
    (λ a is. not_void plan s.closed year n on a is.0) (leased s.assets) (passed (λ (a : Asset). Unit {0}) (λ a. is_leased a.origin) s.assets (no_premise s.assets)))
    ∙ ap (λ z. leased_now plan year s +ℤ z) (none_last _ ∙ sum_none (λ (a : Asset). pos 0) (λ a. refl) (leased s.assets)))
    (void_none (to_leased year) (λ x. refl) plan (spent_by n s.documents.expenditures))
leased_step plan year s on drawn sound (act.Pay p) ok = stays _ _ _ (leased_still plan year s) (pay_none (to_leased year) (λ x. refl) (year_of_day plan on) s.documents.expenditures p.vouchers)
leased_step plan year s on drawn sound (act.Collect c) ok = stays _ _ _ (leased_still plan year s) (collect_none (to_leased year) (λ x. refl) plan on c (bill_at c.bill s.receivables.bills))
leased_step plan year s on drawn sound (act.WriteOff w) ok = stays _ _ _ (leased_still plan year s) (write_off_none (to_leased year) (λ x. refl) plan on w (bill_at w.bill s.receivables.bills))
leased_step plan year s on drawn sound (act.Asset (Donate d)) ok = leased_still plan year s
leased_step plan year s on drawn sound (act.Asset (Dispose d)) ok =
    stays _ _ _
    (stepped_all (net plan s.closed year) (net plan s.closed year) (asset_step plan s.closed on (act.Asset (Dispose d))) (λ a. pos 0) (leased s.assets) []
    (all_so (λ (a : Asset). (is_leased a.origin ≡ true) × IsOwned d.asset a) (λ a. net plan s.closed year (asset_step plan s.closed on (act.Asset (Dispose d)) a) ≡ net plan s.closed year a +ℤ pos 0)
    (λ a is. not_disposed plan s.closed year d.asset on (disposed (year_of_day plan on) s.closed) a is.0 is.1) (leased s.assets) (passed (IsOwned d.asset) (λ a. is_leased a.origin) s.assets ok))
    ∙ ap (λ z. leased_now plan year s +ℤ z) (none_last _ ∙ sum_none (λ (a : Asset). pos 0) (λ a. refl) (leased s.assets)))
    (dispose_none (to_leased year) (λ x. refl) plan s.closed on d s.assets)
leased_step plan year s on drawn sound (act.PayDue p) ok = stays _ _ _ (leased_still plan year s) (dues_none (to_leased year) (λ x. refl) plan on p.fund (filter (λ b. b.number == p.bond) s.bonds))
leased_step plan year s on drawn sound (act.Leave (Earn l)) ok = leased_still plan year s
leased_step plan year s on drawn sound (act.Leave (Use l)) ok = leased_still plan year s
leased_step plan year s on drawn sound (act.Leave (Mature l)) ok = leased_still plan year s
leased_step plan year s on drawn sound (act.Interfund m) ok = stays _ _ _ (leased_still plan year s) (between_none (to_leased year) (λ x. refl) (λ x. refl) (λ x. refl) m.what _)
leased_step plan year s on drawn sound (act.Close (period.Month m)) ok =
    let owned_deeds = map (assets.function_deed plan s.closed (owned s.assets)) plan.functions in
    let leased_deeds = map (assets.amortize_deed plan s.closed (leased s.assets)) plan.functions in
    let interest = deed.AccrueInterest (record { year = year_at plan s.closed; amount = sum_by (interest_charge s.closed) s.bonds }) in
    assets.close_capital plan s.closed year (leased s.assets) (all_filter (IsSoundAsset plan s.closed) (λ a. is_leased a.origin) s.assets sound.assets)
    ∙ ap (λ z. leased_now plan year s +ℤ z)
    (sym
    (sum_append (to_leased year) owned_deeds (leased_deeds ++ interest ∷ [])
    ∙ (λ i. (sum_map (to_leased year) (assets.function_deed plan s.closed (owned s.assets)) plan.functions
    ∙ sum_none (λ (f : Function). to_leased year (assets.function_deed plan s.closed (owned s.assets) f)) (λ f. refl) plan.functions) i
    +ℤ (sum_append (to_leased year) leased_deeds (interest ∷ [])
    ∙ ap (λ z. z +ℤ pos 0) (amortized plan s.closed year (leased s.assets) (all_filter (assets.HasFunction plan) (λ a. is_leased a.origin) s.assets sound.functions))) i)
    ∙ alone (int_sum (assets.charge_part plan s.closed year) (leased s.assets))))
  where
    alone : (z : ℤ) → pos 0 +ℤ (z +ℤ pos 0) ≡ z
    alone z = omega (arith, ints)
leased_step plan year s on drawn sound (act.Close (period.Year y)) ok = leased_still plan year s
leased_step plan year s on drawn sound (act.Lease l) ok =
    grown (net plan s.closed year) (leased s.assets) _
    ∙ ap (λ z. leased_now plan year s +ℤ z) (assets.acquired_net plan s.closed year lease on (year_of_day plan on) drawn.number l.account.dept (leased_life plan l) l.account.amount ok)
leased_step plan year s on drawn sound _ ok = leased_still plan year s

-- ---- payments of bonds and leases

-- what the deeds of a payment add, of the bonds or leases that a sum keeps
due_sum : (f : Deed → ℤ) (keep : Bond → Bool) (amount : Bond → Option Due → ℕ) (plan : Plan) (on : Day) (fund n : ℕ) →
    ((b : Bond) (o : Option Due) → int_sum f (due_deeds plan on fund b o) ≡ debt.paid_if (keep b) (amount b o)) → (bonds : List Bond) →
    int_sum f (bonds_deeds plan on fund (filter (λ b. b.number == n) bonds)) ≡ int_sum (λ b. if keep b then debt.paid_if (b.number == n) (amount b (next_due b)) else pos 0) bonds
due_sum f keep amount plan on fund n each [] = refl
due_sum f keep amount plan on fund n each (b ∷ bonds) =
    by (b.number == n) (keep b) (each b (next_due b)) (due_sum f keep amount plan on fund n each bonds)
  where
    rest : ℤ
    rest = int_sum (λ b. if keep b then debt.paid_if (b.number == n) (amount b (next_due b)) else pos 0) bonds

    nothing : (k : Bool) (z : ℤ) → z ≡ (if k then pos 0 else pos 0) +ℤ z
    nothing true z = sym (none_first z)
    nothing false z = sym (none_first z)

    by : (is k : Bool) → int_sum f (due_deeds plan on fund b (next_due b)) ≡ debt.paid_if k (amount b (next_due b)) →
        int_sum f (bonds_deeds plan on fund (filter (λ b. b.number == n) bonds)) ≡ rest →
        int_sum f (bonds_deeds plan on fund (if is then b ∷ filter (λ b. b.number == n) bonds else filter (λ b. b.number == n) bonds))
        ≡ (if k then debt.paid_if is (amount b (next_due b)) else pos 0) +ℤ rest
    by true true e more = sum_append f (due_deeds plan on fund b (next_due b)) (bonds_deeds plan on fund (filter (λ b. b.number == n) bonds)) ∙ (λ i. e i +ℤ more i)
    by true false e more = sum_append f (due_deeds plan on fund b (next_due b)) (bonds_deeds plan on fund (filter (λ b. b.number == n) bonds)) ∙ (λ i. e i +ℤ more i)
    by false k e more = more ∙ nothing k rest

paid_none : (k : Bool) → pos 0 ≡ debt.paid_if k 0
paid_none true = refl
paid_none false = refl

-- ---- bonds, and leases

pub kind_same : (a : Act) (b : Bond) → (bond_step a b).is_lease ≡ b.is_lease
kind_same (act.PayDue p) b = by (b.number == p.bond)
  where
    by : (t : Bool) → (if t then record b { paid = b.paid + 1 } else b).is_lease ≡ b.is_lease
    by true = refl
    by false = refl
kind_same _ b = refl

issue_due : (plan : Plan) (on : Day) (year fund : ℕ) (b : Bond) (o : Option Due) →
    int_sum (to_issues year) (due_deeds plan on fund b o) ≡ debt.paid_if (not b.is_lease) (debt.next_part (debt.principal_to plan year) o)
issue_due plan on year fund b None = paid_none (not b.is_lease)
issue_due plan on year fund b (Some p) = by b.is_lease (nat_le (year_at plan p.month) year)
  where
    by : (is_lease now : Bool) → (if now then pos 0 -ℤ pos (if is_lease then 0 else p.principal) else pos 0) +ℤ pos 0 ≡ debt.paid_if (not is_lease) (if now then p.principal else 0)
    by true true = refl
    by true false = refl
    by false true = none_last _
    by false false = refl

lease_due : (plan : Plan) (on : Day) (year fund : ℕ) (b : Bond) (o : Option Due) →
    int_sum (to_leases year) (due_deeds plan on fund b o) ≡ debt.paid_if b.is_lease (debt.next_part (debt.principal_to plan year) o)
lease_due plan on year fund b None = paid_none b.is_lease
lease_due plan on year fund b (Some p) = by b.is_lease (nat_le (year_at plan p.month) year)
  where
    by : (is_lease now : Bool) → (if now then pos 0 -ℤ pos (if is_lease then p.principal else 0) else pos 0) +ℤ pos 0 ≡ debt.paid_if is_lease (if now then p.principal else 0)
    by true true = none_last _
    by true false = refl
    by false true = refl
    by false false = refl

coupon_due : (plan : Plan) (on : Day) (year fund : ℕ) (b : Bond) (o : Option Due) →
    int_sum (to_accrued year) (due_deeds plan on fund b o) ≡ debt.paid_if true (debt.next_part (debt.coupon_to plan year b) o)
coupon_due plan on year fund b None = refl
coupon_due plan on year fund b (Some p) = by (nat_le (year_at plan p.month) year)
  where
    by : (now : Bool) → (if now then pos 0 -ℤ pos (coupon b p) else pos 0) +ℤ pos 0 ≡ debt.paid_if true (if now then coupon b p else 0)
    by true = none_last _
    by false = refl

abbrev owed_after : (List Bond → List Bond) → Plan → ℕ → Registers → Day → Drawn → Act → ℤ
owed_after kind plan year s on drawn a = int_sum (owed_through plan year) (map (bond_step a) (kind s.bonds) ++ kind (bonds_by plan on a drawn))

abbrev owed_now : (List Bond → List Bond) → Plan → ℕ → Registers → ℤ
owed_now kind plan year s = int_sum (owed_through plan year) (kind s.bonds)

issues_still : (plan : Plan) (year : ℕ) (s : Registers) → int_sum (owed_through plan year) (map (λ b. b) (issues s.bonds) ++ []) ≡ owed_now issues plan year s +ℤ pos 0
issues_still plan year s = still (owed_through plan year) (issues s.bonds)

pub issues_step : (plan : Plan) (year : ℕ) (s : Registers) (on : Day) (drawn : Drawn) (a : Act) →
    owed_after issues plan year s on drawn a ≡ owed_now issues plan year s +ℤ int_sum (to_issues year) (deeds_of plan s on a)
issues_step plan year s on drawn (act.Voucher v) = stays _ _ _ (issues_still plan year s) (voucher_none (to_issues year) (λ x. refl) plan (document_year plan on (act.Voucher v)) v.items)
issues_step plan year s on drawn (act.VoidVoucher n) = stays _ _ _ (issues_still plan year s) (void_none (to_issues year) (λ x. refl) plan (spent_by n s.documents.expenditures))
issues_step plan year s on drawn (act.Pay p) = stays _ _ _ (issues_still plan year s) (pay_none (to_issues year) (λ x. refl) (year_of_day plan on) s.documents.expenditures p.vouchers)
issues_step plan year s on drawn (act.Collect c) = stays _ _ _ (issues_still plan year s) (collect_none (to_issues year) (λ x. refl) plan on c (bill_at c.bill s.receivables.bills))
issues_step plan year s on drawn (act.WriteOff w) = stays _ _ _ (issues_still plan year s) (write_off_none (to_issues year) (λ x. refl) plan on w (bill_at w.bill s.receivables.bills))
issues_step plan year s on drawn (act.Asset (Donate d)) = issues_still plan year s
issues_step plan year s on drawn (act.Asset (Dispose d)) =
    stays _ _ _ (issues_still plan year s)
    (dispose_none (to_issues year) (λ x. refl) plan s.closed on d s.assets)
issues_step plan year s on drawn (act.Issue i) =
    grown (owed_through plan year) (issues s.bonds) _ ∙ ap (λ z. owed_now issues plan year s +ℤ z) (debt.issued_owed plan year on drawn.number false i)
issues_step plan year s on drawn (act.PayDue p) =
    debt.paid_owed plan year p (issues s.bonds)
    ∙ ap (λ z. owed_now issues plan year s +ℤ z)
    (sum_filter (debt.principal_part plan year p.bond) (λ b. not b.is_lease) s.bonds
    ∙ sym (due_sum (to_issues year) (λ b. not b.is_lease) (λ b o. debt.next_part (debt.principal_to plan year) o) plan on p.fund p.bond (issue_due plan on year p.fund) s.bonds))
issues_step plan year s on drawn (act.Leave (Earn l)) = issues_still plan year s
issues_step plan year s on drawn (act.Leave (Use l)) = issues_still plan year s
issues_step plan year s on drawn (act.Leave (Mature l)) = issues_still plan year s
issues_step plan year s on drawn (act.Interfund m) = stays _ _ _ (issues_still plan year s) (between_none (to_issues year) (λ x. refl) (λ x. refl) (λ x. refl) m.what _)
issues_step plan year s on drawn (act.Close (period.Month m)) = stays _ _ _ (issues_still plan year s) (close_none (to_issues year) plan s (λ x. refl) (λ x. refl))
issues_step plan year s on drawn (act.Close (period.Year y)) = issues_still plan year s
issues_step plan year s on drawn _ = issues_still plan year s

leases_still : (plan : Plan) (year : ℕ) (s : Registers) → int_sum (owed_through plan year) (map (λ b. b) (bond.leases s.bonds) ++ []) ≡ owed_now bond.leases plan year s +ℤ pos 0
leases_still plan year s = still (owed_through plan year) (bond.leases s.bonds)

pub leases_step : (plan : Plan) (year : ℕ) (s : Registers) (on : Day) (drawn : Drawn) (a : Act) →
    owed_after bond.leases plan year s on drawn a ≡ owed_now bond.leases plan year s +ℤ int_sum (to_leases year) (deeds_of plan s on a)
leases_step plan year s on drawn (act.Voucher v) = stays _ _ _ (leases_still plan year s) (voucher_none (to_leases year) (λ x. refl) plan (document_year plan on (act.Voucher v)) v.items)
leases_step plan year s on drawn (act.VoidVoucher n) = stays _ _ _ (leases_still plan year s) (void_none (to_leases year) (λ x. refl) plan (spent_by n s.documents.expenditures))
leases_step plan year s on drawn (act.Pay p) = stays _ _ _ (leases_still plan year s) (pay_none (to_leases year) (λ x. refl) (year_of_day plan on) s.documents.expenditures p.vouchers)
leases_step plan year s on drawn (act.Collect c) = stays _ _ _ (leases_still plan year s) (collect_none (to_leases year) (λ x. refl) plan on c (bill_at c.bill s.receivables.bills))
leases_step plan year s on drawn (act.WriteOff w) = stays _ _ _ (leases_still plan year s) (write_off_none (to_leases year) (λ x. refl) plan on w (bill_at w.bill s.receivables.bills))
leases_step plan year s on drawn (act.Asset (Donate d)) = leases_still plan year s
leases_step plan year s on drawn (act.Asset (Dispose d)) =
    stays _ _ _ (leases_still plan year s)
    (dispose_none (to_leases year) (λ x. refl) plan s.closed on d s.assets)
leases_step plan year s on drawn (act.PayDue p) =
    debt.paid_owed plan year p (bond.leases s.bonds)
    ∙ ap (λ z. owed_now bond.leases plan year s +ℤ z)
    (sum_filter (debt.principal_part plan year p.bond) (λ b. b.is_lease) s.bonds
    ∙ sym (due_sum (to_leases year) (λ b. b.is_lease) (λ b o. debt.next_part (debt.principal_to plan year) o) plan on p.fund p.bond (lease_due plan on year p.fund) s.bonds))
leases_step plan year s on drawn (act.Leave (Earn l)) = leases_still plan year s
leases_step plan year s on drawn (act.Leave (Use l)) = leases_still plan year s
leases_step plan year s on drawn (act.Leave (Mature l)) = leases_still plan year s
leases_step plan year s on drawn (act.Interfund m) = stays _ _ _ (leases_still plan year s) (between_none (to_leases year) (λ x. refl) (λ x. refl) (λ x. refl) m.what _)
leases_step plan year s on drawn (act.Close (period.Month m)) = stays _ _ _ (leases_still plan year s) (close_none (to_leases year) plan s (λ x. refl) (λ x. refl))
leases_step plan year s on drawn (act.Close (period.Year y)) = leases_still plan year s
leases_step plan year s on drawn (act.Lease l) =
    grown (owed_through plan year) (bond.leases s.bonds) _ ∙ ap (λ z. owed_now bond.leases plan year s +ℤ z) (debt.issued_owed plan year on drawn.second true (schedule_of l))
leases_step plan year s on drawn _ = leases_still plan year s

-- ---- accrued interest

abbrev pub AllowsAccrued : Plan → Registers → Day → Act → Type 0
AllowsAccrued plan s on (act.Issue i) = IsEarly plan s on × (1 ≤ on.day)
AllowsAccrued plan s on (act.Lease l) = IsEarly plan s on × (1 ≤ on.day)
AllowsAccrued plan s on _ = Unit {0}

abbrev accrued_after : Plan → ℕ → Registers → Day → Drawn → Act → ℤ
accrued_after plan year s on drawn a = int_sum (accrued_through plan (closed_after a s.closed) year) (map (bond_step a) s.bonds ++ bonds_by plan on a drawn)

accrued_still : (plan : Plan) (year : ℕ) (s : Registers) → int_sum (accrued_through plan s.closed year) (map (λ b. b) s.bonds ++ []) ≡ accrued plan year s +ℤ pos 0
accrued_still plan year s = still (accrued_through plan s.closed year) s.bonds

pub accrued_step : (plan : Plan) (year : ℕ) (s : Registers) (on : Day) (drawn : Drawn) (a : Act) → AllowsAccrued plan s on a →
    accrued_after plan year s on drawn a ≡ accrued plan year s +ℤ int_sum (to_accrued year) (deeds_of plan s on a)
accrued_step plan year s on drawn (act.Voucher v) ok = stays _ _ _ (accrued_still plan year s) (voucher_none (to_accrued year) (λ x. refl) plan (document_year plan on (act.Voucher v)) v.items)
accrued_step plan year s on drawn (act.VoidVoucher n) ok = stays _ _ _ (accrued_still plan year s) (void_none (to_accrued year) (λ x. refl) plan (spent_by n s.documents.expenditures))
accrued_step plan year s on drawn (act.Pay p) ok = stays _ _ _ (accrued_still plan year s) (pay_none (to_accrued year) (λ x. refl) (year_of_day plan on) s.documents.expenditures p.vouchers)
accrued_step plan year s on drawn (act.Collect c) ok = stays _ _ _ (accrued_still plan year s) (collect_none (to_accrued year) (λ x. refl) plan on c (bill_at c.bill s.receivables.bills))
accrued_step plan year s on drawn (act.WriteOff w) ok = stays _ _ _ (accrued_still plan year s) (write_off_none (to_accrued year) (λ x. refl) plan on w (bill_at w.bill s.receivables.bills))
accrued_step plan year s on drawn (act.Asset (Donate d)) ok = accrued_still plan year s
accrued_step plan year s on drawn (act.Asset (Dispose d)) ok =
    stays _ _ _ (accrued_still plan year s)
    (dispose_none (to_accrued year) (λ x. refl) plan s.closed on d s.assets)
accrued_step plan year s on drawn (act.Issue i) ok =
    grown (accrued_through plan s.closed year) s.bonds _ ∙ ap (λ z. accrued plan year s +ℤ z) (debt.issued_accrued plan s.closed year on drawn.number false i ok.0 ok.1)
accrued_step plan year s on drawn (act.PayDue p) ok =
    debt.paid_accrued plan s.closed year p s.bonds
    ∙ ap (λ z. accrued plan year s +ℤ z)
    (sym (due_sum (to_accrued year) (λ b. true) (λ b o. debt.next_part (debt.coupon_to plan year b) o) plan on p.fund p.bond (coupon_due plan on year p.fund) s.bonds))
accrued_step plan year s on drawn (act.Leave (Earn l)) ok = accrued_still plan year s
accrued_step plan year s on drawn (act.Leave (Use l)) ok = accrued_still plan year s
accrued_step plan year s on drawn (act.Leave (Mature l)) ok = accrued_still plan year s
accrued_step plan year s on drawn (act.Interfund m) ok = stays _ _ _ (accrued_still plan year s) (between_none (to_accrued year) (λ x. refl) (λ x. refl) (λ x. refl) m.what _)
accrued_step plan year s on drawn (act.Close (period.Month m)) ok =
    debt.close_interest plan s.closed year s.bonds
    ∙ ap (λ z. accrued plan year s +ℤ z) (sym (close_none (to_accrued year) plan s (λ x. refl) (λ x. refl) ∙ debt.interest_deed plan s.closed year s.bonds))
accrued_step plan year s on drawn (act.Close (period.Year y)) ok = accrued_still plan year s
accrued_step plan year s on drawn (act.Lease l) ok =
    grown (accrued_through plan s.closed year) s.bonds _ ∙ ap (λ z. accrued plan year s +ℤ z) (debt.issued_accrued plan s.closed year on drawn.second true (schedule_of l) ok.0 ok.1)
accrued_step plan year s on drawn _ ok = accrued_still plan year s

-- ---- compensated absences

abbrev absences_after : Plan → ℕ → Registers → Day → Act → ℤ
absences_after plan year s on a = int_sum (λ c. through year c.year c.by) (s.leave ++ leave_by plan on a)

absences_still : (year : ℕ) (s : Registers) → int_sum (λ c. through year c.year c.by) (s.leave ++ []) ≡ absences year s +ℤ pos 0
absences_still year s = sum_append (λ (c : LeaveChange). through year c.year c.by) s.leave []

pub absences_step : (plan : Plan) (year : ℕ) (s : Registers) (on : Day) (a : Act) → absences_after plan year s on a ≡ absences year s +ℤ int_sum (to_absences year) (deeds_of plan s on a)
absences_step plan year s on (act.Voucher v) = stays _ _ _ (absences_still year s) (voucher_none (to_absences year) (λ x. refl) plan (document_year plan on (act.Voucher v)) v.items)
absences_step plan year s on (act.VoidVoucher n) = stays _ _ _ (absences_still year s) (void_none (to_absences year) (λ x. refl) plan (spent_by n s.documents.expenditures))
absences_step plan year s on (act.Pay p) = stays _ _ _ (absences_still year s) (pay_none (to_absences year) (λ x. refl) (year_of_day plan on) s.documents.expenditures p.vouchers)
absences_step plan year s on (act.Collect c) = stays _ _ _ (absences_still year s) (collect_none (to_absences year) (λ x. refl) plan on c (bill_at c.bill s.receivables.bills))
absences_step plan year s on (act.WriteOff w) = stays _ _ _ (absences_still year s) (write_off_none (to_absences year) (λ x. refl) plan on w (bill_at w.bill s.receivables.bills))
absences_step plan year s on (act.Asset (Donate d)) = absences_still year s
absences_step plan year s on (act.Asset (Dispose d)) =
    stays _ _ _ (absences_still year s)
    (dispose_none (to_absences year) (λ x. refl) plan s.closed on d s.assets)
absences_step plan year s on (act.PayDue p) = stays _ _ _ (absences_still year s) (dues_none (to_absences year) (λ x. refl) plan on p.fund (filter (λ b. b.number == p.bond) s.bonds))
absences_step plan year s on (act.Leave (Earn l)) = sum_append (λ (c : LeaveChange). through year c.year c.by) s.leave (leave_by plan on (act.Leave (Earn l)))
absences_step plan year s on (act.Leave (Use l)) = sum_append (λ (c : LeaveChange). through year c.year c.by) s.leave (leave_by plan on (act.Leave (Use l)))
absences_step plan year s on (act.Leave (Mature l)) = sum_append (λ (c : LeaveChange). through year c.year c.by) s.leave (leave_by plan on (act.Leave (Mature l)))
absences_step plan year s on (act.Interfund m) = stays _ _ _ (absences_still year s) (between_none (to_absences year) (λ x. refl) (λ x. refl) (λ x. refl) m.what _)
absences_step plan year s on (act.Close (period.Month m)) = stays _ _ _ (absences_still year s) (close_none (to_absences year) plan s (λ x. refl) (λ x. refl))
absences_step plan year s on (act.Close (period.Year y)) = absences_still year s
absences_step plan year s on _ = absences_still year s

-- ---- unavailable revenue

abbrev pub AllowsDeferred : Plan → Registers → Day → Drawn → Act → Type 0
AllowsDeferred plan s on drawn (act.Bill l) = drawn.number ≡ length s.receivables.bills + 1
AllowsDeferred plan s on drawn (act.Collect c) = FindsBill s.receivables.bills c.bill (collected_year plan on)
AllowsDeferred plan s on drawn (act.WriteOff w) = FindsBill s.receivables.bills w.bill (λ b. year_of_day plan on)
AllowsDeferred plan s on drawn _ = Unit {0}

abbrev deferred_after : Plan → ℕ → Registers → Day → Drawn → Act → ℤ
deferred_after plan year s on drawn a =
    int_sum (left_through year (s.receivables.settlements ++ settlements_by plan s.receivables.bills on a)) (s.receivables.bills ++ bills_by drawn.number a)

pub deferred_step : (plan : Plan) (year : ℕ) (s : Registers) (on : Day) (drawn : Drawn) → IsSound plan s → (a : Act) → AllowsDeferred plan s on drawn a →
    deferred_after plan year s on drawn a ≡ deferred_now year s +ℤ int_sum (to_deferred year) (deeds_of plan s on a)
deferred_step plan year s on drawn sound (act.Voucher v) ok = stays _ _ _ (still_deferred year s) (voucher_none (to_deferred year) (λ x. refl) plan (document_year plan on (act.Voucher v)) v.items)
deferred_step plan year s on drawn sound (act.VoidVoucher n) ok = stays _ _ _ (still_deferred year s) (void_none (to_deferred year) (λ x. refl) plan (spent_by n s.documents.expenditures))
deferred_step plan year s on drawn sound (act.Pay p) ok = stays _ _ _ (still_deferred year s) (pay_none (to_deferred year) (λ x. refl) (year_of_day plan on) s.documents.expenditures p.vouchers)
deferred_step plan year s on drawn sound (act.Bill l) ok =
    let b : Bill = record { number = drawn.number; source = l.source; levy_year = l.levy_year; amount = l.amount } in
    ap (λ (settlements : List Settlement). int_sum (left_through year settlements) (s.receivables.bills ++ b ∷ [])) (append-nil s.receivables.settlements)
    ∙ billed_one year s.receivables.settlements s.receivables.bills b
    (all_so (λ (x : Settlement). x.bill ≤ length s.receivables.bills) (λ (x : Settlement). x.bill < drawn.number) (λ x h. omega (arith, h, ok)) s.receivables.settlements sound.settled)
    ∙ ap (λ z. deferred_now year s +ℤ z) (sym (none_last (through year l.levy_year (pos l.amount))))
deferred_step plan year s on drawn sound (act.Collect c) ok =
    let b = ok.bill in
    let x : Settlement = record { bill = c.bill; year = collected_year plan on b; amount = c.amount } in
    ap (λ (o : Option Bill). int_sum (left_through year (s.receivables.settlements ++ collected_of c.bill c.amount (option_map (collected_year plan on) o))) (s.receivables.bills ++ [])) ok.found
    ∙ ap (int_sum (left_through year (s.receivables.settlements ++ x ∷ []))) (append-nil s.receivables.bills)
    ∙ settled_one year s.receivables.settlements s.receivables.bills x b ok.found (one_bill c.bill (length s.receivables.bills) s.receivables.bills b ok.found (sound.numbers c.bill)) ok.levied
    ∙ ap (λ z. deferred_now year s +ℤ z)
    (sym (ap (λ (o : Option Bill). int_sum (to_deferred year) (collect_deeds plan on c o)) ok.found ∙ none_last (through year (collected_year plan on b) (pos 0 -ℤ pos c.amount))))
deferred_step plan year s on drawn sound (act.WriteOff w) ok =
    let b = ok.bill in
    let x : Settlement = record { bill = w.bill; year = year_of_day plan on; amount = w.amount } in
    ap (int_sum (left_through year (s.receivables.settlements ++ x ∷ []))) (append-nil s.receivables.bills)
    ∙ settled_one year s.receivables.settlements s.receivables.bills x b ok.found (one_bill w.bill (length s.receivables.bills) s.receivables.bills b ok.found (sound.numbers w.bill)) ok.levied
    ∙ ap (λ z. deferred_now year s +ℤ z)
    (sym (ap (λ (o : Option Bill). int_sum (to_deferred year) (write_off_deeds plan on w o)) ok.found ∙ none_last (through year (year_of_day plan on) (pos 0 -ℤ pos w.amount))))
deferred_step plan year s on drawn sound (act.Asset (Donate d)) ok = still_deferred year s
deferred_step plan year s on drawn sound (act.Asset (Dispose d)) ok =
    stays _ _ _ (still_deferred year s)
    (dispose_none (to_deferred year) (λ x. refl) plan s.closed on d s.assets)
deferred_step plan year s on drawn sound (act.PayDue p) ok = stays _ _ _ (still_deferred year s) (dues_none (to_deferred year) (λ x. refl) plan on p.fund (filter (λ b. b.number == p.bond) s.bonds))
deferred_step plan year s on drawn sound (act.Leave (Earn l)) ok = still_deferred year s
deferred_step plan year s on drawn sound (act.Leave (Use l)) ok = still_deferred year s
deferred_step plan year s on drawn sound (act.Leave (Mature l)) ok = still_deferred year s
deferred_step plan year s on drawn sound (act.Interfund m) ok = stays _ _ _ (still_deferred year s) (between_none (to_deferred year) (λ x. refl) (λ x. refl) (λ x. refl) m.what _)
deferred_step plan year s on drawn sound (act.Close (period.Month m)) ok = stays _ _ _ (still_deferred year s) (close_none (to_deferred year) plan s (λ x. refl) (λ x. refl))
deferred_step plan year s on drawn sound (act.Close (period.Year y)) ok = still_deferred year s
deferred_step plan year s on drawn sound _ ok = still_deferred year s
