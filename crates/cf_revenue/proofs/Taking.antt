-- What an act asks of the register's parts, and what they make of the receivables.
use Rattle.std.proofs.Common.{◌≡◌, ◌≢◌, ◌⊎◌, inl, inr, ℕ, ◌+◌, ◌-◌, ◌<◌, ◌≤◌, Bool, true, false, if◌then◌else◌, ◌==◌, ◌||◌, not, nat_lt, List, [], ◌∷◌, length, get_or, Option, Some, None, is_some, option_map, IfSome, refl, sym, subst, ap, ◌∙◌, arith}
use Rattle.cf_base.proofs.Common.{common_steps, parts}
use Rattle.cf_model.specs.Common.{Day, BillAmount, first_of, or_else, unknown_if, year_of_day, year_in, revenue_year, Settlement, Receivables, bill_at, collected_year, left_of, window_if, receivable_refusal, over_bill, over_left}
use Rattle.cf_base.specs.Common.{is_day, is_in_window, year_end}
use Rattle.cf_calls.specs.declared.acts.Act.TheVariants as act
use Rattle.cf_calls.specs.declared.names.NameKind.TheVariants as kind
use Rattle.cf_chart.specs.Common.{Plan, source_at}
use Rattle.cf_revenue.specs.declared.rows.BillRow.{BillRow}
use Rattle.cf_revenue.specs.declared.rows.SettlementRow.{SettlementRow}
use Rattle.cf_model.specs.Receivables.{Bill}
use Rattle.cf_revenue.specs.Register.{IsBillLevied}
use Rattle.cf_revenue.specs.RegisterView.{AreRows}
use Rattle.cf_revenue.specs.Rows.{view_bill, view_bills, IsRow}
use Rattle.cf_revenue.specs.Steps.{CanSettle, ShowsBill}
use Rattle.cf_register_parts.proofs.Lists.{find_none, find_one, less_or_not}

differ : (a b : ℕ) → a ≢ b → (a == b) ≡ false
differ a b n = grind (arith, common_steps)

agree : (a b : ℕ) → a ≡ b → (a == b) ≡ true
agree a b e = grind (arith, common_steps)

-- ---- the row of a bill

pub bill_row : (settlements : List Settlement) (rows : List BillRow) (k n : ℕ) (d : BillRow) → AreRows settlements rows → k < length rows → n ≡ k + 1 →
    bill_at n (view_bills rows) ≡ Some (view_bill (get_or rows k d))
bill_row settlements rows k n d all l is =
    find_one (λ (b : Bill). b.number == n) view_bill rows k d l (agree (get_or rows k d).number n (omega (arith, is, (all k d l).number)))
    (λ j jl. differ (get_or rows j d).number n (λ e. omega (arith, is, e, jl, (all j d (omega (arith, jl, l))).number)))

-- no bill has the number 0, or one above their count
pub no_bill_zero : (settlements : List Settlement) (rows : List BillRow) (n : ℕ) → AreRows settlements rows → n ≡ 0 → bill_at n (view_bills rows) ≡ None
no_bill_zero settlements rows n all is = find_none (λ (b : Bill). b.number == n) view_bill rows (λ k d l. differ (get_or rows k d).number n (λ e. omega (arith, is, e, (all k d l).number)))

pub no_bill_past : (settlements : List Settlement) (rows : List BillRow) (n : ℕ) → AreRows settlements rows → length rows < n → bill_at n (view_bills rows) ≡ None
no_bill_past settlements rows n all past = find_none (λ (b : Bill). b.number == n) view_bill rows (λ k d l. differ (get_or rows k d).number n (λ e. omega (arith, past, e, l, (all k d l).number)))

pub shows_row : (s : Receivables) (rows : List BillRow) (k n : ℕ) (r : BillRow) → s.bills ≡ view_bills rows → AreRows s.settlements rows → k < length rows → n ≡ k + 1 → r ≡ get_or rows k r → ShowsBill n s r
shows_row s rows k n r bills all l is at =
    let w : IsRow s.settlements k r = subst (IsRow s.settlements k) (sym at) (all k r l) in
    record {
      is = ap (bill_at n) bills ∙ bill_row s.settlements rows k n r all l is ∙ ap (λ (q : BillRow). Some (view_bill q)) (sym at);
      left = omega (arith, w.left);
      levied = w.levy_year;
    }

abbrev pub no_row : BillRow
no_row = record { number = 0; source = 0; levy_year = 0; amount = 0; left = 0 }

-- what a settlement finds: the row of its bill, of which so much is left
pub record Settles (rows : List BillRow) (x : SettlementRow) : Type 0 where
  pub first : 1 ≤ x.bill
  pub within : x.bill ≤ length rows
  pub enough : (d : BillRow) → x.amount ≤ (get_or rows (x.bill - 1) d).left
  pub levied : (get_or rows (x.bill - 1) no_row).levy_year ≤ x.year
  pub from : 1971 ≤ x.year

some_apart : (b : Bill) → Some b ≡ None → ⊥
some_apart b e = cc

some_equal : (a b : Bill) → Some a ≡ Some b → a ≡ b
some_equal a b e = cc

pub settles : (s : Receivables) (rows : List BillRow) (x : SettlementRow) → s.bills ≡ view_bills rows → AreRows s.settlements rows → CanSettle s x → Settles rows x
settles s rows x bills all can = by_number (less_or_not x.bill 1) (less_or_not (length rows) x.bill)
  where
    found : bill_at x.bill (view_bills rows) ≡ Some can.bill
    found = ap (bill_at x.bill) (sym bills) ∙ can.is

    by_number : (x.bill < 1) ⊎ (1 ≤ x.bill) → (length rows < x.bill) ⊎ (x.bill ≤ length rows) → Settles rows x
    by_number (inl below) h = absurd (some_apart can.bill (sym found ∙ no_bill_zero s.settlements rows x.bill all (omega arith)))
    by_number (inr from) (inl past) = absurd (some_apart can.bill (sym found ∙ no_bill_past s.settlements rows x.bill all past))
    by_number (inr from) (inr to) =
        let l : x.bill - 1 < length rows = omega (arith, from, to) in
        let at : x.bill ≡ (x.bill - 1) + 1 = omega (arith, from) in
        let is : (d : BillRow) → view_bill (get_or rows (x.bill - 1) d) ≡ can.bill =
        λ d. some_equal _ _ (sym (bill_row s.settlements rows (x.bill - 1) x.bill d all l at) ∙ found) in
        let row : IsRow s.settlements (x.bill - 1) (get_or rows (x.bill - 1) no_row) = all (x.bill - 1) no_row l in
        let levy : (get_or rows (x.bill - 1) no_row).levy_year ≡ can.bill.levy_year = ap (λ (b : Bill). b.levy_year) (is no_row) in
        record {
          first = from;
          within = to;
          enough = λ d. omega (arith, can.within, ap (left_of s.settlements) (is d), (all (x.bill - 1) d l).left);
          levied = omega (arith, levy, can.levied);
          from = omega (arith, levy, can.levied, row.levy_year.from);
        }

-- ---- what a collection settles

-- a collection counts in the levy year or later, and not after the year of its day
collected_bounds : (window first levy : ℕ) (on : Day) → levy ≤ year_in first on → (levy ≤ revenue_year window first levy on) × (revenue_year window first levy on ≤ year_in first on)
collected_bounds window first levy on le = by_test ((year_in first on == levy) || is_in_window (year_end first levy) window on)
  where
    by_test : (b : Bool) → (levy ≤ (if b then levy else year_in first on)) × ((if b then levy else year_in first on) ≤ year_in first on)
    by_test true = (omega arith, le)
    by_test false = (le, omega arith)

year_most : (plan : Plan) (on : Day) → is_day on ≡ true → year_of_day plan on ≤ 2200
year_most plan on h = by_test ((plan.first_month == 1) || nat_lt on.month plan.first_month)
  where
    by_test : (b : Bool) → (if b then on.year else on.year + 1) ≤ 2200
    by_test true = omega (arith, (parts on h).to)
    by_test false = omega (arith, (parts on h).to)

not_over : (left amount : ℕ) → or_else (over_left amount left) None ≡ None → amount ≤ left
not_over left amount e = grind (arith, common_steps)

pub can_collect : (plan : Plan) (s : Receivables) (on : Day) (part : BillAmount) (year : ℕ) → is_day on ≡ true →
    Some year ≡ option_map (collected_year plan on) (bill_at part.bill s.bills) → receivable_refusal s (act.Collect part) ≡ None → IsBillLevied plan s.bills on part.bill →
    CanSettle s (record { bill = part.bill; year = year; amount = part.amount })
can_collect plan s on part year day collected allowed levied = by_bill (bill_at part.bill s.bills) refl collected allowed levied
  where
    number_is : (a b : ℕ) → Some a ≡ Some b → a ≡ b
    number_is a b e = cc

    none_apart : Some year ≡ None → ⊥
    none_apart e = cc

    by_bill : (o : Option Bill) → bill_at part.bill s.bills ≡ o → Some year ≡ option_map (collected_year plan on) o →
        first_of (unknown_if (not (is_some o)) kind.Bill part.bill ∷ over_bill s part.amount o ∷ []) ≡ None → IfSome o (λ b. b.levy_year ≤ year_of_day plan on) →
        CanSettle s (record { bill = part.bill; year = year; amount = part.amount })
    by_bill None at is ok le = absurd (none_apart is)
    by_bill (Some b) at is ok le =
        let year_is : year ≡ collected_year plan on b = number_is _ _ is in
        let bounds = collected_bounds (window_if (source_at plan b.source)) plan.first_month b.levy_year on le in
        record { bill = b; is = at; within = not_over (left_of s.settlements b) part.amount ok; levied = omega (arith, year_is, bounds.0); to = omega (arith, year_is, bounds.1, year_most plan on day) }
