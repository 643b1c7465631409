-- No post of an entry is of a closed fiscal year.
use Rattle.std.proofs.Common.{◌≡◌, ◌⊎◌, inl, inr, ℕ, suc, ◌<◌, ◌≤◌, Bool, true, false, if◌then◌else◌, ◌==◌, nat_lt, List, [], ◌∷◌, map, All, Option, Some, None, IfSome, sym, ap, subst, ◌∙◌, arith, filter}
use Rattle.cf_base.proofs.Common.{AllByRecursion, leb_tells, eqb_tells, All-from_recursion}
use Rattle.cf_model.specs.Common.{Day, Act, Donate, Dispose, FundMoveKind, Earn, Use, Mature, Entry, Basis, Gov as GovBasis, Function, leased, owned, Bond, Due, next_due, document_year, open_year, year_of_day, bonds_deeds, collect_deeds, deeds_of, dispose_deed, due_deeds, function_charge, fund_deed, pay_deed, pay_items, spent_item, write_off_deeds, Documents, Expenditure, voucher_at, year_at, spent_by, act_posts, rows_of, bill_at, collected_year, Registers, registers_of, closed_refusal, closed_year, first_refusal, voucher_years, Adds, IsLegal}
use Rattle.cf_calls.specs.declared.acts.Act.TheVariants as act
use Rattle.cf_calls.specs.declared.acts.FundMoveKind.TheVariants as move
use Rattle.cf_calls.specs.declared.acts.Period.TheVariants as period
use Rattle.cf_calls.specs.declared.read.Basis.TheVariants.{Fund as FundBasis}
use Rattle.cf_calls.specs.declared.refusal.Refusal.TheVariants as refusal
use Rattle.cf_chart.specs.Common.{Plan}
use Rattle.cf_ledger.specs.declared.post.Post.{Post}
use Rattle.cf_model.specs.Receivables.{Bill}
use Rattle.cf_model.proofs.Common.{accepted, or_else_none, refuse_none, HasCalendar, all_filter, all_posts, years_of, documents_are, all_append, all_map, all_new}
use Rattle.cf_post.specs.declared.deed.Deed.{Deed}
use Rattle.cf_post.specs.declared.deed.Deed.TheVariants as deed
use Rattle.cf_post.specs.declared.deed.FundsAmount.{FundsAmount}
use Rattle.cf_model_closed.proofs.Dues.{IsUnpaidLater, next_later, unpaid_later}
use Rattle.cf_model_closed.proofs.Over.{in_time, month_from}
use Rattle.cf_model_closed.proofs.Recognised.{IsLeviedFrom, collected_open, levied_from}
use Rattle.cf_model_closed.proofs.VoucherYears.{HasVoucherYears, of_found, voucher_years_are}

-- ---- the years of what a deed posts

-- a deed's years are at least this one
abbrev pub IsFrom : ℕ → Deed → Type 0
IsFrom u d = AllByRecursion (λ y. u ≤ y) (years_of d)

abbrev pub IsPostedFrom : ℕ → Post → Type 0
IsPostedFrom u p = u ≤ p.year

rows_from : (u : ℕ) (basis : Basis) (d : Deed) → IsFrom u d → AllByRecursion (IsPostedFrom u) (rows_of basis d)
rows_from u FundBasis (deed.Collect c) l = (l.0, (l.0, (l.1.0, (l.1.0, tt))))
rows_from u FundBasis (deed.Donate a) l = tt
rows_from u FundBasis (deed.PayDue p) l = (l.0, (l.0, (l.0, (l.1.0, (l.1.0, tt)))))
rows_from u FundBasis (deed.EarnLeave a) l = tt
rows_from u FundBasis (deed.UseLeave a) l = tt
rows_from u FundBasis (deed.Transfer t) l = (l.0, (l.0, (l.0, (l.0, tt))))
rows_from u FundBasis (deed.Loan t) l = (l.0, (l.0, (l.0, (l.0, tt))))
rows_from u FundBasis (deed.Repay t) l = (l.0, (l.0, (l.0, (l.0, tt))))
rows_from u FundBasis (deed.Depreciate a) l = tt
rows_from u FundBasis (deed.AccrueInterest a) l = tt
rows_from u FundBasis (deed.Amortize a) l = tt
rows_from u FundBasis _ l = (l.0, (l.0, tt))
rows_from u GovBasis (deed.Dispose d) l = (l.0, (l.0, (l.0, (l.0, (l.0, tt)))))
rows_from u GovBasis (deed.PayDue p) l = (l.0, (l.0, (l.0, (l.1.0, (l.1.0, tt)))))
rows_from u GovBasis (deed.Transfer t) l = tt
rows_from u GovBasis (deed.Loan t) l = tt
rows_from u GovBasis (deed.Repay t) l = tt
rows_from u GovBasis _ l = (l.0, (l.0, tt))

-- ---- the years of an act

not_before : (u year : ℕ) → closed_year u year ≡ None → u ≤ year
not_before u year none = by_test (nat_lt year u) (leb_tells (suc year) u) (refuse_none (nat_lt year u) (refusal.YearClosed year) none)
  where
    by_test : (b : Bool) → ((b ≡ true) × (suc year ≤ u)) ⊎ ((b ≡ false) × (u < suc year)) → b ≡ false → u ≤ year
    by_test b (inl t) e = absurd (cc)
    by_test b (inr t) e = omega (arith, t.1)

-- the first of the years that an act posts to
pub first_open : (u year : ℕ) (years : List ℕ) → first_refusal (closed_year u) (year ∷ years) ≡ None → u ≤ year
first_open u year years none = not_before u year (or_else_none (closed_year u year) (first_refusal (closed_year u) years) none).0

-- the items of a voucher that may be voided
pub voided_from : (u n : ℕ) (year : ℕ → ℕ) (xs : List Expenditure) → AllByRecursion (λ x. x.year ≡ year x.voucher) xs → first_refusal (closed_year u) (voucher_years (voucher_at n xs)) ≡ None →
    AllByRecursion (λ x. (u ≤ x.year) × (u ≤ year n)) (spent_by n xs)
voided_from u n year [] are none = tt
voided_from u n year (x ∷ xs) are none = by_test (x.voucher == n) (eqb_tells x.voucher n) none (λ more. voided_from u n year xs are.1 more)
  where
    rest_from : u ≤ year n → (ys : List Expenditure) → AllByRecursion (λ x. x.year ≡ year x.voucher) ys → AllByRecursion (λ x. (u ≤ x.year) × (u ≤ year n)) (spent_by n ys)
    rest_from l [] are = tt
    rest_from l (y ∷ ys) are = by_number (y.voucher == n) (eqb_tells y.voucher n) (rest_from l ys are.1)
      where
        by_number : (b : Bool) → ((b ≡ true) × (y.voucher ≡ n)) ⊎ ((b ≡ false) × (y.voucher ≡ n → ⊥)) → AllByRecursion (λ x. (u ≤ x.year) × (u ≤ year n)) (spent_by n ys) →
            AllByRecursion (λ x. (u ≤ x.year) × (u ≤ year n)) (if b then y ∷ spent_by n ys else spent_by n ys)
        by_number true (inl t) rest = ((omega (arith, l, are.0 ∙ ap year t.1), l), rest)
        by_number true (inr t) rest = cc
        by_number false t rest = rest

    by_test : (b : Bool) → ((b ≡ true) × (x.voucher ≡ n)) ⊎ ((b ≡ false) × (x.voucher ≡ n → ⊥)) → first_refusal (closed_year u) (voucher_years (if b then Some x else voucher_at n xs)) ≡ None →
        (first_refusal (closed_year u) (voucher_years (voucher_at n xs)) ≡ None → AllByRecursion (λ x. (u ≤ x.year) × (u ≤ year n)) (spent_by n xs)) →
        AllByRecursion (λ x. (u ≤ x.year) × (u ≤ year n)) (if b then x ∷ spent_by n xs else spent_by n xs)
    by_test true (inl t) none more =
        let here = first_open u x.year [] none in
        let year_from : u ≤ year n = omega (arith, here, are.0 ∙ ap year t.1) in
        ((here, year_from), rest_from year_from xs are.1)
    by_test true (inr t) none more = cc
    by_test false t none more = more none

-- what is known where an act is added: the open year, which the year of the day isn't before, nor
-- that of the first month that isn't closed
pub record IsOpenTo (plan : Plan) (s : Registers) (u : ℕ) (on : Day) : Type 0 where
  pub day : u ≤ year_of_day plan on
  pub months : (n : ℕ) → s.closed ≤ n → u ≤ year_at plan n
  pub collected : (b : Bill) → IsLeviedFrom plan b → u ≤ collected_year plan on b
  pub levied : AllByRecursion (IsLeviedFrom plan) s.receivables.bills
  pub unpaid : AllByRecursion (IsUnpaidLater s.closed) s.bonds
  pub vouchers : HasVoucherYears s.documents

-- ---- the deeds of an act

pays : (u year : ℕ) (xs : List Expenditure) (vouchers : List ℕ) → u ≤ year → AllByRecursion (IsFrom u) (pay_items year xs vouchers)
pays u year xs [] l = tt
pays u year xs (n ∷ vouchers) l =
    all_append (IsFrom u) (map (pay_deed year) (spent_by n xs)) (pay_items year xs vouchers) (all_new (IsFrom u) (pay_deed year) (λ x. (l, tt)) (spent_by n xs)) (pays u year xs vouchers l)

between : (u : ℕ) (what : FundMoveKind) (a : FundsAmount) → u ≤ a.year → IsFrom u (fund_deed what a)
between u move.Transfer a l = (l, tt)
between u move.Loan a l = (l, tt)
between u move.Repay a l = (l, tt)

due_from : (plan : Plan) (s : Registers) (u : ℕ) (on : Day) (fund : ℕ) (b : Bond) → IsOpenTo plan s u on → IsUnpaidLater s.closed b → AllByRecursion (IsFrom u) (due_deeds plan on fund b (next_due b))
due_from plan s u on fund b is later = by_next (next_due b) (next_later s.closed b later)
  where
    by_next : (o : Option Due) → IfSome o (λ p. s.closed ≤ p.month) → AllByRecursion (IsFrom u) (due_deeds plan on fund b o)
    by_next None l = tt
    by_next (Some p) l = ((is.months p.month l, (is.day, tt)), tt)

bonds_from : (plan : Plan) (s : Registers) (u : ℕ) (on : Day) (fund : ℕ) (bonds : List Bond) → IsOpenTo plan s u on → AllByRecursion (IsUnpaidLater s.closed) bonds → AllByRecursion (IsFrom u) (bonds_deeds plan on fund bonds)
bonds_from plan s u on fund [] is later = tt
bonds_from plan s u on fund (b ∷ bonds) is later =
    all_append (IsFrom u) (due_deeds plan on fund b (next_due b)) (bonds_deeds plan on fund bonds) (due_from plan s u on fund b is later.0) (bonds_from plan s u on fund bonds is later.1)

pub deeds_from : (plan : Plan) (h : List Entry) (on : Day) (a : Act) → IsOpenTo plan (registers_of plan h) (open_year plan h) on → closed_refusal plan h on a ≡ None →
    AllByRecursion (IsFrom (open_year plan h)) (deeds_of plan (registers_of plan h) on a)
deeds_from plan h on (act.Voucher v) is closed =
    let l = first_open (open_year plan h) (document_year plan on (act.Voucher v)) [] closed in
    all_new (IsFrom (open_year plan h)) (λ i. deed.Voucher (spent_item plan (document_year plan on (act.Voucher v)) i.account)) (λ i. (l, tt)) v.items
deeds_from plan h on (act.VoidVoucher n) is closed =
    let xs = (registers_of plan h).documents.expenditures in
    all_map (λ x. (open_year plan h ≤ x.year) × (open_year plan h ≤ is.vouchers.0 n)) (IsFrom (open_year plan h)) (λ x. deed.VoidVoucher (spent_item plan x.year x.account)) (λ x l. (l.0, tt)) (spent_by n xs)
    (voided_from (open_year plan h) n is.vouchers.0 xs is.vouchers.1.spent
    (subst (λ (d : Documents). first_refusal (closed_year (open_year plan h)) (voucher_years (voucher_at n d.expenditures)) ≡ None) (sym (documents_are plan h)) closed))
deeds_from plan h on (act.Pay p) is closed = pays (open_year plan h) (year_of_day plan on) (registers_of plan h).documents.expenditures p.vouchers is.day
deeds_from plan h on (act.Bill l) is closed = ((first_open (open_year plan h) l.levy_year [] closed, tt), tt)
deeds_from plan h on (act.Collect c) is closed = by_bill (bill_at c.bill (registers_of plan h).receivables.bills) (of_found (IsLeviedFrom plan) _ (registers_of plan h).receivables.bills is.levied)
  where
    by_bill : (o : Option Bill) → IfSome o (IsLeviedFrom plan) → AllByRecursion (IsFrom (open_year plan h)) (collect_deeds plan on c o)
    by_bill None levied = tt
    by_bill (Some b) levied = ((is.day, (is.collected b levied, tt)), tt)
deeds_from plan h on (act.Receive r) is closed = ((is.day, tt), tt)
deeds_from plan h on (act.WriteOff w) is closed = by_bill (bill_at w.bill (registers_of plan h).receivables.bills)
  where
    by_bill : (o : Option Bill) → AllByRecursion (IsFrom (open_year plan h)) (write_off_deeds plan on w o)
    by_bill None = tt
    by_bill (Some b) = ((is.day, tt), tt)
deeds_from plan h on (act.Asset (Donate d)) is closed = ((is.day, tt), tt)
deeds_from plan h on (act.Asset (Dispose d)) is closed =
    all_new (IsFrom (open_year plan h)) (dispose_deed plan (registers_of plan h).closed on d) (λ a. (is.day, tt)) (filter (λ a. a.number == d.asset) (registers_of plan h).assets)
deeds_from plan h on (act.Issue i) is closed = ((is.day, tt), tt)
deeds_from plan h on (act.PayDue p) is closed =
    bonds_from plan (registers_of plan h) (open_year plan h) on p.fund (filter (λ b. b.number == p.bond) (registers_of plan h).bonds) is
    (all_filter (IsUnpaidLater (registers_of plan h).closed) _ (registers_of plan h).bonds is.unpaid)
deeds_from plan h on (act.Leave (Earn l)) is closed = ((is.day, tt), tt)
deeds_from plan h on (act.Leave (Use l)) is closed = ((is.day, tt), tt)
deeds_from plan h on (act.Leave (Mature l)) is closed = ((is.day, tt), tt)
deeds_from plan h on (act.Interfund m) is closed = (between (open_year plan h) m.what _ is.day, tt)
deeds_from plan h on (act.Close (period.Month m)) is closed =
    let s = registers_of plan h in
    let now = is.months s.closed (omega arith) in
    let depreciate : Function → Deed = λ f. deed.Depreciate (record { year = year_at plan s.closed; function = f.id; amount = function_charge s.closed (owned s.assets) f.id }) in
    let amortize : Function → Deed = λ f. deed.Amortize (record { year = year_at plan s.closed; function = f.id; amount = function_charge s.closed (leased s.assets) f.id }) in
    all_append (IsFrom (open_year plan h)) (map depreciate plan.functions) _ (all_new (IsFrom (open_year plan h)) depreciate (λ f. (now, tt)) plan.functions)
    (all_append (IsFrom (open_year plan h)) (map amortize plan.functions) _ (all_new (IsFrom (open_year plan h)) amortize (λ f. (now, tt)) plan.functions) ((now, tt), tt))
deeds_from plan h on (act.Lease l) is closed = ((is.day, tt), tt)
deeds_from plan h on _ is closed = tt

-- ---- the law

pub open_to : (plan : Plan) (h : List Entry) (e : Entry) → HasCalendar plan → IsLegal plan h → Adds plan h e → IsOpenTo plan (registers_of plan h) (open_year plan h) e.change.on
open_to plan h e calendar legal adds =
    let time = in_time plan h e calendar legal adds in
    record {
      day = omega (arith, time.from, time.now);
      months = λ n l. month_from plan h n calendar legal l;
      collected = λ b levied. collected_open plan h e b calendar legal adds levied;
      levied = levied_from plan h legal;
      unpaid = unpaid_later plan h calendar legal;
      vouchers = subst HasVoucherYears (sym (documents_are plan h)) (voucher_years_are plan h legal);
    }

pub posts_open : (plan : Plan) (h : List Entry) (e : Entry) → HasCalendar plan → IsLegal plan h → Adds plan h e → (basis : Basis) →
    All (λ p. open_year plan h ≤ p.year) (act_posts basis plan (registers_of plan h) e.change.on e.change.act)
posts_open plan h e calendar legal adds basis =
    let s = registers_of plan h in
    All-from_recursion (IsPostedFrom (open_year plan h)) (act_posts basis plan s e.change.on e.change.act)
    (all_posts (IsPostedFrom (open_year plan h)) (IsFrom (open_year plan h)) basis (rows_from (open_year plan h) basis) (deeds_of plan s e.change.on e.change.act)
    (deeds_from plan h e.change.on e.change.act (open_to plan h e calendar legal adds) (accepted plan h e adds).closed))
