-- After each legal history each item of the summary reconciliation is what its own accounts have.
use Rattle.std.proofs.Common.{◌≡◌, ◌⊎◌, inl, inr, ℕ, suc, ◌<◌, ◌≤◌, Bool, true, false, not, if◌then◌else◌, ◌==◌, ◌||◌, nat_lt, List, [], ◌∷◌, ◌++◌, Option, Some, None, is_some, ℤ, pos, ◌+ℤ◌, ◌-ℤ◌, refl, sym, ap, subst, ◌∙◌, arith}
use Rattle.cf_base.proofs.Common.{leb_tells, ints, parts}
use Rattle.cf_base.specs.Common.{is_day, is_in_window, year_end}
use Rattle.cf_model.specs.Common.{Day, Act, Donate, Dispose, Drawn, Entry, Gov as GovBasis, Refusal, Asset, asset_step, assets_by, is_leased, net, Bond, bond_step, bonds_by, owed_through, is_before, year_of_day, deeds_of, absences, accrued, deferred, fund_balances, items, net_position, right_to_use, posts_in, bill_at, collected_year, window_if, year_in, asset_refusal, disposed_asset, later_levy, levy_refusal, not_held, register_name_refusal, Registers, closed_after, no_registers, registers_of, registers_step, draws, period_refusal, refuse_if, Adds, IsLegal, int_sum}
use Rattle.cf_calls.specs.declared.acts.Act.TheVariants as act
use Rattle.cf_calls.specs.declared.names.NameKind.TheVariants as kind
use Rattle.cf_calls.specs.declared.read.Basis.TheVariants.{Fund as FundBasis}
use Rattle.cf_calls.specs.declared.refusal.AssetFault.TheVariants as fault
use Rattle.cf_calls.specs.declared.refusal.Refusal.TheVariants as refusal
use Rattle.cf_chart.specs.Common.{Plan, source_at}
use Rattle.cf_ledger.specs.Posts.{sum_where, total}
use Rattle.cf_ledger.specs.declared.post.Post.{Post}
use Rattle.cf_model.specs.Items as item
use Rattle.cf_model.specs.Receivables.{Bill}
use Rattle.cf_model.proofs.Common.{accepted, deeds_law, to_absences, to_accrued, to_deferred, to_items, by_bill, or_else_none, refuse_none, deferred_now, IsLawful, IsWhole, passed, legal_induction, legal_push, is_lawful, reconciles_always, early, registers_push, all_so, sum_negated, sum_plus, sum_same}
use Rattle.cf_post.specs.declared.deed.Deed.{Deed}
use Rattle.cf_post.specs.Table.{fund_rows}
use Rattle.cf_model_articulation.specs.ItemAccounts.{ItemsAreAccounts, city_account, funds_account}
use Rattle.cf_model_articulation.specs.OwnAccounts.{HasOwnAccounts}
use Rattle.cf_model_articulation.proofs.DeedSums.{deeds_in, deeds_push, posted, posts_in_are}
use Rattle.cf_model_articulation.proofs.FundPosts.{IsFundPost, fund_posts}
use Rattle.cf_model_articulation.proofs.ItemDeeds.{absences_on, accrued_on, at, issues_on, items_sum, leased_on, leases_on, on as posts_on, owned_on, to_issues, to_leased, to_leases, to_owned, unavailable_at, unavailable_on}
use Rattle.cf_model_articulation.proofs.ItemSteps.{AllowsAccrued, AllowsDeferred, AllowsLeased, IsOwned, absences_step, accrued_step, deferred_step, issues_step, kind_same, leased_same, leased_step, leases_step, stepped_filter}
use Rattle.cf_model_articulation.proofs.RowSums.{funds_sum}

-- ---- what the rules give of an entry

-- an asset that is disposed of isn't leased
owned_asset : (n : ℕ) (on : Day) (a : Asset) → ((a.number == n) ≡ true → disposed_asset on a ≡ None) → IsOwned n a
owned_asset n on a rule is =
    let both = or_else_none (not_held a.number a.stage) _ (rule is) in
    let rest : (refuse_if (is_leased a.origin) (refusal.AssetState a.number fault.Leased) ≡ None) × (refuse_if (is_before on a.on) (refusal.AssetState a.number fault.Later) ≡ None) =
    or_else_none _ _ both.1 in
    refuse_none (is_leased a.origin) (refusal.AssetState a.number fault.Leased) rest.0

allows_leased : (plan : Plan) (h : List Entry) (on : Day) → IsLawful plan h → is_day on ≡ true → period_refusal plan h on ≡ None → (a : Act) → asset_refusal (registers_of plan h) on a ≡ None →
    AllowsLeased plan (registers_of plan h) on a
allows_leased plan h on is day period (act.Lease l) assets = early plan h on is.closed day period
allows_leased plan h on is day period (act.Asset (Dispose d)) assets =
    all_so (λ a. (a.number == d.asset) ≡ true → disposed_asset on a ≡ None) (IsOwned d.asset) (owned_asset d.asset on) (registers_of plan h).assets
    (passed (disposed_asset on) (λ a. a.number == d.asset) (registers_of plan h).assets assets)
allows_leased plan h on is day period (act.Asset (Donate d)) assets = tt
allows_leased plan h on is day period _ assets = tt

allows_accrued : (plan : Plan) (h : List Entry) (on : Day) → IsLawful plan h → is_day on ≡ true → period_refusal plan h on ≡ None → (a : Act) → AllowsAccrued plan (registers_of plan h) on a
allows_accrued plan h on is day period (act.Issue i) = (early plan h on is.closed day period, (parts on day).first_day)
allows_accrued plan h on is day period (act.Lease l) = (early plan h on is.closed day period, (parts on day).first_day)
allows_accrued plan h on is day period _ = tt

-- the bill that an act names, and that it is of no later year
some_if : {A : Type 0} (o : Option A) (r : Refusal) → refuse_if (not (is_some o)) r ≡ None → (x : A) × (o ≡ Some x)
some_if None r e = cc
some_if (Some x) r e = (x, refl)

levied_by : (year : ℕ) (b : Bill) → later_levy year (Some b) ≡ None → b.levy_year ≤ year
levied_by year b e = by (nat_lt year b.levy_year) (leb_tells (suc year) b.levy_year) (refuse_none _ (refusal.YearNotOpen b.levy_year) e)
  where
    by : (t : Bool) → ((t ≡ true) × (suc year ≤ b.levy_year)) ⊎ ((t ≡ false) × (b.levy_year < suc year)) → t ≡ false → b.levy_year ≤ year
    by t (inl k) e = cc
    by t (inr k) e = omega (arith, k.1)

-- a collection is revenue of the levy year or of a later one
collected_from : (plan : Plan) (on : Day) (b : Bill) → b.levy_year ≤ year_of_day plan on → b.levy_year ≤ collected_year plan on b
collected_from plan on b l = by ((year_in plan.first_month on == b.levy_year) || is_in_window (year_end plan.first_month b.levy_year) (window_if (source_at plan b.source)) on)
  where
    by : (t : Bool) → b.levy_year ≤ (if t then b.levy_year else year_in plan.first_month on)
    by true = omega arith
    by false = l

pub allows_deferred : (plan : Plan) (s : Registers) (on : Day) (drawn : Drawn) → (a : Act) → drawn ≡ draws s a → register_name_refusal plan s on a ≡ None → levy_refusal plan s on a ≡ None →
    AllowsDeferred plan s on drawn a
allows_deferred plan s on drawn (act.Bill l) next names levy = ap (λ (d : Drawn). d.number) next
allows_deferred plan s on drawn (act.Collect c) next names levy =
    let b = some_if (bill_at c.bill s.receivables.bills) (refusal.UnknownName kind.Bill c.bill) names in
    record { bill = b.0; found = b.1; levied = collected_from plan on b.0 (levied_by (year_of_day plan on) b.0 (subst (λ o. later_levy (year_of_day plan on) o ≡ None) b.1 levy)) }
allows_deferred plan s on drawn (act.WriteOff w) next names levy =
    let b = some_if (bill_at w.bill s.receivables.bills) (refusal.UnknownName kind.Bill w.bill) names in
    record { bill = b.0; found = b.1; levied = levied_by (year_of_day plan on) b.0 (subst (λ o. later_levy (year_of_day plan on) o ≡ None) b.1 levy) }
allows_deferred plan s on drawn _ next names levy = tt

-- ---- legal histories

-- what the deeds of a history add to an item is the item
record AreKept (plan : Plan) (h : List Entry) : Type 0 where
  legal : IsLegal plan h
  leased : (year : ℕ) → int_sum (to_leased year) (deeds_in plan h) ≡ right_to_use plan year (registers_of plan h)
  issues : (year : ℕ) → int_sum (to_issues year) (deeds_in plan h) ≡ item.bonds plan year (registers_of plan h)
  leases : (year : ℕ) → int_sum (to_leases year) (deeds_in plan h) ≡ item.leases plan year (registers_of plan h)
  accrued : (year : ℕ) → int_sum (to_accrued year) (deeds_in plan h) ≡ accrued plan year (registers_of plan h)
  absences : (year : ℕ) → int_sum (to_absences year) (deeds_in plan h) ≡ absences year (registers_of plan h)
  deferred : (year : ℕ) → int_sum (to_deferred year) (deeds_in plan h) ≡ deferred_now year (registers_of plan h)

pushed : (f : Deed → ℤ) (plan : Plan) (h : List Entry) (e : Entry) (of : Registers → ℤ) → int_sum f (deeds_in plan h) ≡ of (registers_of plan h) →
    of (registers_step plan (registers_of plan h) e) ≡ of (registers_of plan h) +ℤ int_sum f (deeds_of plan (registers_of plan h) e.change.on e.change.act) →
    int_sum f (deeds_in plan (h ++ e ∷ [])) ≡ of (registers_of plan (h ++ e ∷ []))
pushed f plan h e of here step =
    deeds_push f plan h e
    ∙ ap (λ z. z +ℤ int_sum f (deeds_of plan (registers_of plan h) e.change.on e.change.act)) here
    ∙ sym (ap of (registers_push plan no_registers h e) ∙ step)

kept_push : (plan : Plan) → IsWhole plan → (h : List Entry) (e : Entry) → AreKept plan h → Adds plan h e → AreKept plan (h ++ e ∷ [])
kept_push plan whole h e has adds =
    let a = accepted plan h e adds in
    let s = registers_of plan h in
    let is = is_lawful plan h whole has.legal in
    let on = e.change.on in
    record {
      legal = legal_push plan h e has.legal adds;
      leased = λ year.
          pushed (to_leased year) plan h e (right_to_use plan year) (has.leased year)
          (ap (int_sum (net plan (closed_after e.change.act s.closed) year))
          (stepped_filter (λ (x : Asset). is_leased x.origin) (asset_step plan s.closed on e.change.act) (leased_same plan s.closed on e.change.act) s.assets (assets_by plan on e.change.act e.drawn))
          ∙ leased_step plan year s on e.drawn is.reconciled.sound e.change.act (allows_leased plan h on is adds.form.on a.period e.change.act a.assets));
      issues = λ year.
          pushed (to_issues year) plan h e (item.bonds plan year) (has.issues year)
          (ap (int_sum (owed_through plan year))
          (stepped_filter (λ (b : Bond). not b.is_lease) (bond_step e.change.act) (λ b. ap not (kind_same e.change.act b)) s.bonds (bonds_by plan on e.change.act e.drawn))
          ∙ issues_step plan year s on e.drawn e.change.act);
      leases = λ year.
          pushed (to_leases year) plan h e (item.leases plan year) (has.leases year)
          (ap (int_sum (owed_through plan year)) (stepped_filter (λ (b : Bond). b.is_lease) (bond_step e.change.act) (kind_same e.change.act) s.bonds (bonds_by plan on e.change.act e.drawn))
          ∙ leases_step plan year s on e.drawn e.change.act);
      accrued = λ year.
          pushed (to_accrued year) plan h e (accrued plan year) (has.accrued year)
          (accrued_step plan year s on e.drawn e.change.act (allows_accrued plan h on is adds.form.on a.period e.change.act));
      absences = λ year. pushed (to_absences year) plan h e (absences year) (has.absences year) (absences_step plan year s on e.change.act);
      deferred = λ year.
          pushed (to_deferred year) plan h e (deferred_now year) (has.deferred year)
          (deferred_step plan year s on e.drawn is.reconciled.sound e.change.act
          (allows_deferred plan s on e.drawn e.change.act (ap (λ (x : Entry). x.drawn) a.entry) a.register_names a.levied));
    }

are_kept : (plan : Plan) (h : List Entry) → IsWhole plan → IsLegal plan h → AreKept plan h
are_kept plan h whole legal =
    legal_induction plan (AreKept plan)
    (record { legal = tt; leased = λ year. refl; issues = λ year. refl; leases = λ year. refl; accrued = λ year. refl; absences = λ year. refl; deferred = λ year. refl })
    (kept_push plan whole) h legal

-- ---- what the city owns: by the sum of all items, which joins the two bases

all_items : (plan : Plan) (h : List Entry) (year : ℕ) → IsWhole plan → IsLegal plan h → int_sum (to_items year) (deeds_in plan h) ≡ items plan year (registers_of plan h)
all_items plan h year whole legal =
    same (net_position plan year h) (fund_balances plan year h) (items plan year (registers_of plan h)) (int_sum (to_items year) (deeds_in plan h))
    (reconciles_always plan h whole legal year)
    (ap (λ posts. total posts year) (posts_in_are GovBasis plan h) ∙ deeds_law year (deeds_in plan h)
    ∙ ap (λ posts. total posts year +ℤ int_sum (to_items year) (deeds_in plan h)) (sym (posts_in_are FundBasis plan h)))
  where
    same : (n f i t : ℤ) → n ≡ f +ℤ i → n ≡ f +ℤ t → t ≡ i
    same n f i t a b = omega (arith, ints, a, b)

owned_is : (plan : Plan) (h : List Entry) (year : ℕ) → IsWhole plan → IsLegal plan h → int_sum (to_owned year) (deeds_in plan h) ≡ item.capital plan year (registers_of plan h)
owned_is plan h year whole legal =
    let is = are_kept plan h whole legal in
    let s = registers_of plan h in
    let deeds = deeds_in plan h in
    left (int_sum (to_owned year) deeds) (int_sum (to_leased year) deeds) (int_sum (to_deferred year) deeds) (int_sum (to_issues year) deeds) (int_sum (to_leases year) deeds) (int_sum (to_accrued year) deeds)
    (int_sum (to_absences year) deeds) (int_sum (to_items year) deeds) (item.capital plan year s) (right_to_use plan year s) (deferred year s) (item.bonds plan year s) (item.leases plan year s) (accrued plan year s) (absences year s)
    (items_sum year deeds) (all_items plan h year whole legal) (is.leased year) (is.deferred year ∙ sym (by_bill year s.receivables.settlements s.receivables.bills)) (is.issues year) (is.leases year) (is.accrued year) (is.absences year)
  where
    left : (c u f b l a w t k u2 f2 b2 l2 a2 w2 : ℤ) → t ≡ (((c +ℤ u) +ℤ f) -ℤ ((b +ℤ l) +ℤ a)) -ℤ w → t ≡ (((k +ℤ u2) +ℤ f2) -ℤ ((b2 +ℤ l2) +ℤ a2)) -ℤ w2 →
        u ≡ u2 → f ≡ f2 → b ≡ b2 → l ≡ l2 → a ≡ a2 → w ≡ w2 → c ≡ k
    left c u f b l a w t k u2 f2 b2 l2 a2 w2 e g h1 h2 h3 h4 h5 h6 = omega (arith, ints, e, g, h1, h2, h3, h4, h5, h6)

-- ---- the accounts

-- an account, and two accounts, of the city
city_is : (plan : Plan) (h : List Entry) (year n : ℕ) (f : Deed → ℤ) → ((d : Deed) → posts_on year n d ≡ pos 0 -ℤ f d) → city_account plan h year n ≡ pos 0 -ℤ int_sum f (deeds_in plan h)
city_is plan h year n f is =
    posted GovBasis (at year n) plan h ∙ sum_same (posts_on year n) (λ d. pos 0 -ℤ f d) is (deeds_in plan h) ∙ sum_negated f (deeds_in plan h)

two_are : (plan : Plan) (h : List Entry) (year m n : ℕ) (f : Deed → ℤ) → ((d : Deed) → posts_on year m d +ℤ posts_on year n d ≡ f d) →
    city_account plan h year m +ℤ city_account plan h year n ≡ int_sum f (deeds_in plan h)
two_are plan h year m n f is =
    (λ i. posted GovBasis (at year m) plan h i +ℤ posted GovBasis (at year n) plan h i)
    ∙ sym (sum_plus (posts_on year m) (posts_on year n) (deeds_in plan h))
    ∙ sum_same (λ d. posts_on year m d +ℤ posts_on year n d) f is (deeds_in plan h)

funds_are : (plan : Plan) (h : List Entry) (year : ℕ) → HasOwnAccounts plan → IsLegal plan h → funds_account plan h year 290000 ≡ pos 0 -ℤ int_sum (to_deferred year) (deeds_in plan h)
funds_are plan h year own legal =
    funds_sum plan.funds (λ (p : Post). p.account == 290000) year (posts_in FundBasis plan h)
    (all_so (IsFundPost plan) _ (λ p is. is.of_chart) (posts_in FundBasis plan h) (fund_posts plan h own legal))
    ∙ posted FundBasis (unavailable_at year) plan h
    ∙ sum_same (λ d. sum_where (unavailable_at year) (fund_rows d)) (λ d. pos 0 -ℤ to_deferred year d) (unavailable_on year) (deeds_in plan h)
    ∙ sum_negated (to_deferred year) (deeds_in plan h)

turned : (x y z : ℤ) → x ≡ pos 0 -ℤ y → y ≡ z → z ≡ pos 0 -ℤ x
turned x y z a b = omega (arith, ints, a, b)

pub items_are : (plan : Plan) (h : List Entry) (year : ℕ) → IsWhole plan → HasOwnAccounts plan → IsLegal plan h → ItemsAreAccounts plan h year
items_are plan h year whole own legal =
    let is = are_kept plan h whole legal in
    let s = registers_of plan h in
    record {
      capital_assets = sym (two_are plan h year 150000 159000 (to_owned year) (owned_on year) ∙ owned_is plan h year whole legal);
      right_to_use = sym (two_are plan h year 151000 159100 (to_leased year) (leased_on year) ∙ is.leased year);
      unavailable =
          turned (funds_account plan h year 290000) (int_sum (to_deferred year) (deeds_in plan h)) (deferred year s) (funds_are plan h year own legal)
          (is.deferred year ∙ sym (by_bill year s.receivables.settlements s.receivables.bills));
      bonds = sym (city_is plan h year 250000 (to_issues year) (issues_on year) ∙ ap (λ z. pos 0 -ℤ z) (is.issues year));
      leases = sym (city_is plan h year 251000 (to_leases year) (leases_on year) ∙ ap (λ z. pos 0 -ℤ z) (is.leases year));
      accrued_interest = sym (city_is plan h year 260000 (to_accrued year) (accrued_on year) ∙ ap (λ z. pos 0 -ℤ z) (is.accrued year));
      leave = sym (city_is plan h year 270000 (to_absences year) (absences_on year) ∙ ap (λ z. pos 0 -ℤ z) (is.absences year));
    }
