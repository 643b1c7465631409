-- Each deed of an act is of fiscal years that the books have.
use Rattle.std.proofs.Common.{◌≡◌, ◌⊎◌, ℕ, zero, suc, ◌+◌, ◌-◌, ◌*◌, ◌/◌, ◌≤◌, Bool, true, false, if◌then◌else◌, ◌==◌, ◌||◌, List, [], ◌∷◌, map, length, Option, Some, None, slice_get, refl, subst, arith, filter}
use Rattle.cf_base.proofs.Common.{AllByRecursion, eqb_tells}
use Rattle.cf_base.specs.declared.calendar.Day.{Day}
use Rattle.cf_calls.specs.declared.acts.Act.{Act}
use Rattle.cf_calls.specs.declared.acts.Act.TheVariants as act
use Rattle.cf_calls.specs.declared.acts.AssetAct.TheVariants.{Donate, Dispose}
use Rattle.cf_calls.specs.declared.acts.FundMoveKind.{FundMoveKind}
use Rattle.cf_calls.specs.declared.acts.FundMoveKind.TheVariants as move
use Rattle.cf_calls.specs.declared.acts.LeaveAct.TheVariants.{Earn, Use, Mature}
use Rattle.cf_calls.specs.declared.acts.Period.TheVariants as period
use Rattle.cf_calls.specs.declared.entry.Drawn.{Drawn}
use Rattle.cf_calls.specs.Common.{IsActInForm, month_number}
use Rattle.cf_chart.specs.declared.rows.Function.{Function}
use Rattle.cf_chart.specs.Common.{Plan, source_at}
use Rattle.cf_model.specs.Common.{year_of_day, document_year, Expenditure, spent_by, bonds_deeds, collect_deeds, deeds_of, dispose_deed, due_deeds, function_charge, fund_deed, pay_deed, pay_items, spent_item, write_off_deeds, leased, owned, Bond, Due, dues, dues_from, next_due, bond_step, bonds_by, start_month, number_of_day, year_at, bill_at, window_if, year_in, Registers}
use Rattle.cf_model.proofs.Posted.{IsBookYear, AreBookYears, all_filter}
use Rattle.cf_model.proofs.Tidy.{all_append, all_map, all_new}
use Rattle.cf_post.specs.declared.deed.Deed.TheVariants as deed
use Rattle.cf_post.specs.declared.deed.FundsAmount.{FundsAmount}
use Rattle.cf_model.specs.Receivables.{Bill}
use Rattle.cf_base.specs.Common.{is_in_window, year_end}
use Rattle.cf_model.proofs.MonthNumbers.{HasCalendar}

-- a month up to December 2199 is of a fiscal year up to 2200
pub year_at_most : (plan : Plan) (n : ℕ) → HasCalendar plan → start_month plan + n ≤ 26400 → year_at plan n ≤ 2200
year_at_most plan n c l = by_test (plan.first_month == 1) (eqb_tells plan.first_month 1) l
  where
    by_test : (b : Bool) → ((b ≡ true) × (plan.first_month ≡ 1)) ⊎ ((b ≡ false) × (plan.first_month ≡ 1 → ⊥)) →
        (12 * (if b then plan.first_year else plan.first_year - 1) + plan.first_month) + n ≤ 26400 → plan.first_year + n / 12 ≤ 2200
    by_test true h l = omega (arith, l, c.year)
    by_test false h l = omega (arith, l, c.year, c.first)

-- ---- payments of bonds and leases are due in such years

abbrev pub IsTimely : Plan → Bond → Type 0
IsTimely plan b = AllByRecursion (λ (p : Due). year_at plan p.month ≤ 2200) (dues b)

timely_from : (plan : Plan) (every from owed : ℕ) (principals : List ℕ) → HasCalendar plan → start_month plan + (from + every * length principals) ≤ 26400 →
    AllByRecursion (λ (p : Due). year_at plan p.month ≤ 2200) (dues_from every from owed principals)
timely_from plan every from owed [] c l = tt
timely_from plan every from owed (p ∷ principals) c l =
    (year_at_most plan (from + every) c (omega (arith, l)), timely_from plan every (from + every) (owed - p) principals c (omega (arith, l)))

pub timely_step : (act : Act) (plan : Plan) (b : Bond) → IsTimely plan b → IsTimely plan (bond_step act b)
timely_step (act.PayDue p) plan b timely = by_test (b.number == p.bond)
  where
    by_test : (t : Bool) → IsTimely plan (if t then record b { paid = b.paid + 1 } else b)
    by_test true = timely
    by_test false = timely
timely_step _ plan b timely = timely

pub timely_new : (plan : Plan) (on : Day) (a : Act) (drawn : Drawn) → HasCalendar plan → start_month plan ≤ month_number on.year on.month → IsActInForm on a → AllByRecursion (IsTimely plan) (bonds_by plan on a drawn)
timely_new plan on (act.Issue i) drawn c from form = (timely_from plan i.terms.every (number_of_day plan on) i.amount i.terms.principals c (omega (arith, from, form.last_due)), tt)
timely_new plan on (act.Lease l) drawn c from form =
    (timely_from plan l.terms.every (number_of_day plan on) l.account.amount l.terms.principals c (omega (arith, from, form.terms.last_due)), tt)
timely_new plan on _ drawn c from form = tt

-- ---- the years of each act

-- what the rules and the registers give: the day's year is one of the books, and so is each other
-- that the act posts in
abbrev pub HasYears : Plan → Registers → Day → Act → Type 0
HasYears plan s on (act.Voucher v) = IsBookYear (document_year plan on (act.Voucher v))
HasYears plan s on (act.VoidVoucher n) = AllByRecursion (λ (x : Expenditure). IsBookYear x.year) s.documents.expenditures
HasYears plan s on (act.Bill l) = IsBookYear l.levy_year
HasYears plan s on (act.Collect c) = AllByRecursion (λ (b : Bill). IsBookYear b.levy_year) s.receivables.bills
HasYears plan s on (act.PayDue p) = (1971 ≤ plan.first_year) × AllByRecursion (IsTimely plan) s.bonds
HasYears plan s on (act.Close (period.Month m)) = (1971 ≤ plan.first_year) × (year_at plan s.closed ≤ 2200)
HasYears plan s on _ = Unit {0}

pays : (year : ℕ) (xs : List Expenditure) (vouchers : List ℕ) → IsBookYear year → AllByRecursion AreBookYears (pay_items year xs vouchers)
pays year xs [] y = tt
pays year xs (n ∷ vouchers) y =
    all_append AreBookYears (map (pay_deed year) (spent_by n xs)) (pay_items year xs vouchers) (all_new AreBookYears (pay_deed year) (λ x. (y, tt)) (spent_by n xs)) (pays year xs vouchers y)

between : (what : FundMoveKind) (a : FundsAmount) → IsBookYear a.year → AreBookYears (fund_deed what a)
between move.Transfer a y = (y, tt)
between move.Loan a y = (y, tt)
between move.Repay a y = (y, tt)

found_year : (n : ℕ) (bills : List Bill) (b : Bill) → bill_at n bills ≡ Some b → AllByRecursion (λ (b : Bill). IsBookYear b.levy_year) bills → IsBookYear b.levy_year
found_year n [] b e years = cc
found_year n (x ∷ bills) b e years = by_test (x.number == n) e (λ h. found_year n bills b h years.1)
  where
    same : Some x ≡ Some b → x ≡ b
    same e = cc

    by_test : (t : Bool) → (if t then Some x else bill_at n bills) ≡ Some b → (bill_at n bills ≡ Some b → IsBookYear b.levy_year) → IsBookYear b.levy_year
    by_test true e more = subst (λ (y : Bill). IsBookYear y.levy_year) (same e) years.0
    by_test false e more = more e

due_years : (plan : Plan) (on : Day) (fund : ℕ) (b : Bond) → IsBookYear (year_of_day plan on) → 1971 ≤ plan.first_year → IsTimely plan b → AllByRecursion AreBookYears (due_deeds plan on fund b (next_due b))
due_years plan on fund b y first timely = by_next (dues b) b.paid timely
  where
    by_next : (ps : List Due) (k : ℕ) → AllByRecursion (λ (p : Due). year_at plan p.month ≤ 2200) ps → AllByRecursion AreBookYears (due_deeds plan on fund b (slice_get ps k))
    by_next [] k timely = tt
    by_next (p ∷ ps) zero timely = ((record { first = omega (arith, first); last = timely.0 }, (y, tt)), tt)
    by_next (p ∷ ps) (suc k) timely = by_next ps k timely.1

bonds_years : (plan : Plan) (on : Day) (fund : ℕ) (bonds : List Bond) → IsBookYear (year_of_day plan on) → 1971 ≤ plan.first_year → AllByRecursion (IsTimely plan) bonds → AllByRecursion AreBookYears (bonds_deeds plan on fund bonds)
bonds_years plan on fund [] y first timely = tt
bonds_years plan on fund (b ∷ bonds) y first timely =
    all_append AreBookYears (due_deeds plan on fund b (next_due b)) (bonds_deeds plan on fund bonds) (due_years plan on fund b y first timely.0) (bonds_years plan on fund bonds y first timely.1)

pub deeds_years : (plan : Plan) (s : Registers) (on : Day) (a : Act) → IsBookYear (year_of_day plan on) → HasYears plan s on a → AllByRecursion AreBookYears (deeds_of plan s on a)
deeds_years plan s on (act.Voucher v) y more = all_new AreBookYears (λ i. deed.Voucher (spent_item plan (document_year plan on (act.Voucher v)) i.account)) (λ i. (more, tt)) v.items
deeds_years plan s on (act.VoidVoucher n) y more =
    all_map (λ (x : Expenditure). IsBookYear x.year) AreBookYears (λ x. deed.VoidVoucher (spent_item plan x.year x.account)) (λ x h. (h, tt)) (spent_by n s.documents.expenditures)
    (all_filter (λ (x : Expenditure). IsBookYear x.year) _ s.documents.expenditures more)
deeds_years plan s on (act.Pay p) y more = pays (year_of_day plan on) s.documents.expenditures p.vouchers y
deeds_years plan s on (act.Bill l) y more = ((more, tt), tt)
deeds_years plan s on (act.Collect c) y more = by_bill (bill_at c.bill s.receivables.bills) refl
  where
    recognised : (b : Bill) (t : Bool) → IsBookYear b.levy_year → IsBookYear (if t then b.levy_year else year_in plan.first_month on)
    recognised b true h = h
    recognised b false h = y

    by_bill : (o : Option Bill) → bill_at c.bill s.receivables.bills ≡ o → AllByRecursion AreBookYears (collect_deeds plan on c o)
    by_bill None found = tt
    by_bill (Some b) found =
        ((y, (recognised b ((year_in plan.first_month on == b.levy_year) || is_in_window (year_end plan.first_month b.levy_year) (window_if (source_at plan b.source)) on) (found_year c.bill s.receivables.bills b found more), tt)), tt)
deeds_years plan s on (act.Receive r) y more = ((y, tt), tt)
deeds_years plan s on (act.WriteOff w) y more = by_bill (bill_at w.bill s.receivables.bills)
  where
    by_bill : (o : Option Bill) → AllByRecursion AreBookYears (write_off_deeds plan on w o)
    by_bill None = tt
    by_bill (Some b) = ((y, tt), tt)
deeds_years plan s on (act.Asset (Donate d)) y more = ((y, tt), tt)
deeds_years plan s on (act.Asset (Dispose d)) y more = all_new AreBookYears (dispose_deed plan s.closed on d) (λ a. (y, tt)) (filter (λ a. a.number == d.asset) s.assets)
deeds_years plan s on (act.Issue i) y more = ((y, tt), tt)
deeds_years plan s on (act.PayDue p) y more = bonds_years plan on p.fund (filter (λ b. b.number == p.bond) s.bonds) y more.0 (all_filter (IsTimely plan) _ s.bonds more.1)
deeds_years plan s on (act.Leave (Earn l)) y more = ((y, tt), tt)
deeds_years plan s on (act.Leave (Use l)) y more = ((y, tt), tt)
deeds_years plan s on (act.Leave (Mature l)) y more = ((y, tt), tt)
deeds_years plan s on (act.Interfund m) y more = (between m.what _ y, tt)
deeds_years plan s on (act.Close (period.Month m)) y more =
    let at : IsBookYear (year_at plan s.closed) = record { first = omega (arith, more.0); last = more.1 } in
    let depreciate = λ (f : Function). deed.Depreciate (record { year = year_at plan s.closed; function = f.id; amount = function_charge s.closed (owned s.assets) f.id }) in
    let amortize = λ (f : Function). deed.Amortize (record { year = year_at plan s.closed; function = f.id; amount = function_charge s.closed (leased s.assets) f.id }) in
    all_append AreBookYears (map depreciate plan.functions) _ (all_new AreBookYears depreciate (λ f. (at, tt)) plan.functions)
    (all_append AreBookYears (map amortize plan.functions) _ (all_new AreBookYears amortize (λ f. (at, tt)) plan.functions) ((at, tt), tt))
deeds_years plan s on (act.Lease l) y more = ((y, tt), tt)
deeds_years plan s on _ y more = tt
