-- What is left of bills is what their funds' receivables have.
use Rattle.std.proofs.Common.{◌≡◌, ◌⊎◌, inl, inr, ℕ, suc, ◌+◌, ◌-◌, ◌<◌, ◌≤◌, Bool, true, false, if◌then◌else◌, ◌==◌, ◌&&◌, nat_lt, List, [], ◌∷◌, ◌++◌, length, sum_by, Option, Some, None, option_map, ℤ, pos, ◌+ℤ◌, ◌-ℤ◌, refl, sym, ap, subst, ◌∙◌, arith, append-nil, filter}
use Rattle.cf_base.proofs.Common.{AllByRecursion, leb_tells, ints, sum_by-cons}
use Rattle.cf_model.specs.Common.{Day, Act, Donate, Dispose, Earn, Use, Mature, Drawn, Entry, document_year, year_of_day, fund_of, collect_deeds, deeds_of, write_off_deeds, spent_by, posts_in, bill_refusal, over_bill, over_refusal, Receivables, Settlement, bill_at, bills_by, collected_of, collected_year, left_of, settled_of, settlements_by, Registers, no_registers, registers_of, Adds, IsLegal, int_sum}
use Rattle.cf_calls.specs.declared.acts.Act.TheVariants as act
use Rattle.cf_calls.specs.declared.acts.Period.TheVariants as period
use Rattle.cf_calls.specs.declared.read.Basis.TheVariants.{Fund as FundBasis}
use Rattle.cf_calls.specs.declared.refusal.Refusal.TheVariants as refusal
use Rattle.cf_chart.specs.Common.{Plan}
use Rattle.cf_ledger.specs.declared.post.Post.{Post}
use Rattle.cf_ledger.specs.Posts.{is_of, sum_where}
use Rattle.cf_model.specs.Receivables.{Bill}
use Rattle.cf_model.proofs.Common.{accepted, first_of_none, refuse_none, one_bill, IsWhole, legal_induction, legal_push, is_lawful, registers_push, all_so, find_sum, none_last, passing, same_all, sum_append, sum_plus, sum_same}
use Rattle.cf_model.proofs.Allowed.{IsSound}
use Rattle.cf_post.specs.declared.deed.Deed.{Deed}
use Rattle.cf_post.specs.declared.deed.Deed.TheVariants as deed
use Rattle.cf_post.specs.declared.deed.Spent.{Spent}
use Rattle.cf_post.specs.declared.deed.Spent.TheVariants as spent
use Rattle.cf_post.specs.Table.{expenditure, fund_rows}
use Rattle.cf_model_articulation.specs.OpenBills.{BillsAreReceivable, left_part, left_sum}
use Rattle.cf_model_articulation.proofs.Closing.{same_sum}
use Rattle.cf_model_articulation.proofs.Counts.{number_is, other_numbers, same_numbers}
use Rattle.cf_model_articulation.proofs.DeedSums.{between_none, close_none, deeds_in, deeds_push, dispose_none, dues_none, pay_none, posted, void_none, voucher_none}
use Rattle.cf_model_articulation.proofs.ItemAccounts.{allows_deferred}
use Rattle.cf_model_articulation.proofs.ItemDeeds.{skip}
use Rattle.cf_model_articulation.proofs.ItemSteps.{AllowsDeferred}

-- ---- what a deed adds to what a fund is owed on bills, and posts there

abbrev of_fund : ℕ → ℕ → ℤ → ℤ
of_fund fund by amount = if by == fund then amount else pos 0

abbrev to_left : ℕ → Deed → ℤ
to_left fund (deed.Bill l) = of_fund fund l.fund (pos l.amount)
to_left fund (deed.Collect c) = of_fund fund c.fund (pos 0 -ℤ pos c.amount)
to_left fund (deed.WriteOff w) = of_fund fund w.fund (pos 0 -ℤ pos w.amount)
to_left fund _ = pos 0

abbrev receivable_at : ℕ → Post → Bool
receivable_at fund p = (p.account == 110000) && (p.fund == fund)

high : (a : ℕ) → 300000 ≤ a → a ≡ 110000 → ⊥
high a l e = omega (arith, l, e)

spends : (s : Spent) → 300000 ≤ expenditure s
spends (spent.Current function) = omega arith
spends spent.Capital = omega arith

second : (z : ℤ) → pos 0 +ℤ (z +ℤ pos 0) ≡ z
second z = omega (arith, ints)

left_on : (fund : ℕ) (d : Deed) → sum_where (receivable_at fund) (fund_rows d) ≡ to_left fund d
left_on fund (deed.Voucher i) = skip (expenditure i.spent) 110000 (i.fund == fund) (pos i.amount) _ (high (expenditure i.spent) (spends i.spent))
left_on fund (deed.VoidVoucher i) = skip (expenditure i.spent) 110000 (i.fund == fund) (pos 0 -ℤ pos i.amount) _ (high (expenditure i.spent) (spends i.spent))
left_on fund (deed.Bill l) = none_last _
left_on fund (deed.Collect c) =
    ap (λ z. pos 0 +ℤ (of_fund fund c.fund (pos 0 -ℤ pos c.amount) +ℤ (pos 0 +ℤ z))) (skip (400000 + c.source) 110000 (c.fund == fund) (pos 0 -ℤ pos c.amount) (pos 0) (high (400000 + c.source) (omega arith)))
    ∙ second _
left_on fund (deed.Receive s) = ap (λ z. pos 0 +ℤ z) (skip (400000 + s.source) 110000 (s.fund == fund) (pos 0 -ℤ pos s.amount) (pos 0) (high (400000 + s.source) (omega arith)))
left_on fund (deed.WriteOff w) = second _
left_on fund (deed.MatureLeave m) = skip (500000 + m.function) 110000 (m.fund == fund) (pos m.amount) (pos 0) (high (500000 + m.function) (omega arith))
left_on fund _ = refl

-- ---- a settlement more

-- of the bill of a number alone, and no more than is left of it
abbrev Fits : Receivables → Settlement → Bill → Type 0
Fits s x b = (b.number == x.bill) ≡ true → x.amount ≤ left_of s.settlements b

settled_more : (bill : ℕ) (settlements : List Settlement) (x : Settlement) → settled_of bill (settlements ++ x ∷ []) ≡ settled_of bill settlements + (if x.bill == bill then x.amount else 0)
settled_more bill [] x = by (x.bill == bill)
  where
    by : (t : Bool) → sum_by (λ (y : Settlement). y.amount) (if t then x ∷ [] else []) ≡ 0 + (if t then x.amount else 0)
    by true = omega arith
    by false = omega arith
settled_more bill (y ∷ settlements) x = by (y.bill == bill) (settled_more bill settlements x)
  where
    by : (t : Bool) → settled_of bill (settlements ++ x ∷ []) ≡ settled_of bill settlements + (if x.bill == bill then x.amount else 0) →
        sum_by (λ (z : Settlement). z.amount) (if t then y ∷ filter (λ z. z.bill == bill) (settlements ++ x ∷ []) else filter (λ z. z.bill == bill) (settlements ++ x ∷ []))
        ≡ sum_by (λ (z : Settlement). z.amount) (if t then y ∷ filter (λ z. z.bill == bill) settlements else filter (λ z. z.bill == bill) settlements) + (if x.bill == bill then x.amount else 0)
    by true more =
        sum_by-cons (λ (z : Settlement). z.amount) y (filter (λ z. z.bill == bill) (settlements ++ x ∷ []))
        ∙ ap (λ n. y.amount + n) more
        ∙ grouped y.amount (settled_of bill settlements) (if x.bill == bill then x.amount else 0)
        ∙ ap (λ n. n + (if x.bill == bill then x.amount else 0)) (sym (sum_by-cons (λ (z : Settlement). z.amount) y (filter (λ z. z.bill == bill) settlements)))
      where
        grouped : (a b c : ℕ) → a + (b + c) ≡ (a + b) + c
        grouped a b c = omega arith
    by false more = more

abbrev taken : Plan → ℕ → ℕ → Bill → ℤ
taken plan fund amount b = of_fund fund (fund_of plan b.source) (pos 0 -ℤ pos amount)

same_number : (m n : ℕ) → (m == n) ≡ (n == m)
same_number m n = by (m == n) (n == m) refl refl
  where
    by : (p q : Bool) → (m == n) ≡ p → (n == m) ≡ q → p ≡ q
    by true true a b = refl
    by false false a b = refl
    by true false a b = absurd (differ (sym b ∙ same_numbers n m (sym (number_is m n a))))
      where
        differ : false ≡ true → ⊥
        differ e = cc
    by false true a b = absurd (differ (sym a ∙ same_numbers m n (sym (number_is n m b))))
      where
        differ : false ≡ true → ⊥
        differ e = cc

less_left : (plan : Plan) (fund : ℕ) (s : Receivables) (x : Settlement) (b : Bill) → Fits s x b →
    left_part plan fund (record s { settlements = s.settlements ++ x ∷ [] }) b ≡ left_part plan fund s b +ℤ (if b.number == x.bill then taken plan fund x.amount b else pos 0)
less_left plan fund s x b fits =
    ap (λ n. if fund_of plan b.source == fund then pos (b.amount - n) else pos 0) (settled_more b.number s.settlements x ∙ ap (λ t. settled_of b.number s.settlements + (if t then x.amount else 0)) (same_number x.bill b.number))
    ∙ by (fund_of plan b.source == fund) (b.number == x.bill) fits
  where
    less : (a n k : ℕ) → k ≤ a - n → pos (a - (n + k)) ≡ pos (a - n) +ℤ (pos 0 -ℤ pos k)
    less a n k l = omega (arith, ints, l)

    by : (f t : Bool) → (t ≡ true → x.amount ≤ b.amount - settled_of b.number s.settlements) →
        (if f then pos (b.amount - (settled_of b.number s.settlements + (if t then x.amount else 0))) else pos 0)
        ≡ (if f then pos (b.amount - settled_of b.number s.settlements) else pos 0) +ℤ (if t then (if f then pos 0 -ℤ pos x.amount else pos 0) else pos 0)
    by true true l = less b.amount (settled_of b.number s.settlements) x.amount (l refl)
    by true false l = ap (λ n. pos (b.amount - n)) (plus_none (settled_of b.number s.settlements)) ∙ sym (none_last _)
      where
        plus_none : (n : ℕ) → n + 0 ≡ n
        plus_none n = omega arith
    by false true l = refl
    by false false l = refl

-- one bill has a number
one_found : (n : ℕ) (b : Bill) (bills : List Bill) → bill_at n bills ≡ Some b → passing (λ (y : Bill). y.number == n) bills ≡ 1 → AllByRecursion (λ (y : Bill). (y.number == n) ≡ true → y ≡ b) bills
one_found n b [] found one = cc
one_found n b (y ∷ bills) found one = by (y.number == n) refl found (sym (sum_by-cons (λ (z : Bill). if z.number == n then 1 else 0) y bills) ∙ one) (one_found n b bills)
  where
    same : Some y ≡ Some b → y ≡ b
    same e = cc

    none : (bills : List Bill) → passing (λ (z : Bill). z.number == n) bills ≡ 0 → AllByRecursion (λ (z : Bill). (z.number == n) ≡ true → z ≡ b) bills
    none [] e = tt
    none (z ∷ bills) e = by_test (z.number == n) refl (sym (sum_by-cons (λ (z : Bill). if z.number == n then 1 else 0) z bills) ∙ e) (none bills)
      where
        by_test : (t : Bool) → (z.number == n) ≡ t → (if t then 1 else 0) + passing (λ (z : Bill). z.number == n) bills ≡ 0
            → (passing (λ (z : Bill). z.number == n) bills ≡ 0 → AllByRecursion (λ (z : Bill). (z.number == n) ≡ true → z ≡ b) bills)
            → AllByRecursion (λ (z : Bill). (z.number == n) ≡ true → z ≡ b) (z ∷ bills)
        by_test true at e more = absurd (omega (arith, e))
        by_test false at e more = ((λ k. absurd (differ (sym at ∙ k))), more (omega (arith, e)))
          where
            differ : false ≡ true → ⊥
            differ e = cc

    by : (t : Bool) → (y.number == n) ≡ t → (if t then Some y else bill_at n bills) ≡ Some b → (if t then 1 else 0) + passing (λ (z : Bill). z.number == n) bills ≡ 1
        → (bill_at n bills ≡ Some b → passing (λ (z : Bill). z.number == n) bills ≡ 1 → AllByRecursion (λ (z : Bill). (z.number == n) ≡ true → z ≡ b) bills)
        → AllByRecursion (λ (z : Bill). (z.number == n) ≡ true → z ≡ b) (y ∷ bills)
    by true at found one more = ((λ k. same found), none bills (omega (arith, one)))
    by false at found one more = ((λ k. absurd (differ (sym at ∙ k))), more found (omega (arith, one)))
      where
        differ : false ≡ true → ⊥
        differ e = cc

-- what is settled of the bill of a number
settled_one : (plan : Plan) (fund : ℕ) (s : Receivables) (x : Settlement) (b : Bill) → bill_at x.bill s.bills ≡ Some b → passing (λ (y : Bill). y.number == x.bill) s.bills ≡ 1 → x.amount ≤ left_of s.settlements b →
    int_sum (left_part plan fund (record s { settlements = s.settlements ++ x ∷ [] })) s.bills ≡ int_sum (left_part plan fund s) s.bills +ℤ taken plan fund x.amount b
settled_one plan fund s x b found one l =
    same_all (left_part plan fund (record s { settlements = s.settlements ++ x ∷ [] })) (λ y. left_part plan fund s y +ℤ (if y.number == x.bill then taken plan fund x.amount y else pos 0)) s.bills
    (all_so (λ (y : Bill). (y.number == x.bill) ≡ true → y ≡ b) (λ y. left_part plan fund (record s { settlements = s.settlements ++ x ∷ [] }) y ≡ left_part plan fund s y +ℤ (if y.number == x.bill then taken plan fund x.amount y else pos 0))
    (λ y is. less_left plan fund s x y (λ k. subst (λ z. x.amount ≤ left_of s.settlements z) (sym (is k)) l)) s.bills (one_found x.bill b s.bills found one))
    ∙ sum_plus (left_part plan fund s) (λ y. if y.number == x.bill then taken plan fund x.amount y else pos 0) s.bills
    ∙ ap (λ z. int_sum (left_part plan fund s) s.bills +ℤ z) (find_sum (λ (y : Bill). y.number == x.bill) (taken plan fund x.amount) b s.bills found one)

-- ---- a bill more

not_settled : (number : ℕ) (settlements : List Settlement) → AllByRecursion (λ (x : Settlement). x.bill < number) settlements → settled_of number settlements ≡ 0
not_settled number [] all = refl
not_settled number (x ∷ settlements) all =
    ap (λ t. sum_by (λ (y : Settlement). y.amount) (if t then x ∷ filter (λ y. y.bill == number) settlements else filter (λ y. y.bill == number) settlements))
    (other_numbers x.bill number (λ e. omega (arith, e, all.0)))
    ∙ not_settled number settlements all.1

billed_one : (plan : Plan) (fund : ℕ) (s : Receivables) (b : Bill) → AllByRecursion (λ (x : Settlement). x.bill < b.number) s.settlements →
    int_sum (left_part plan fund s) (s.bills ++ b ∷ []) ≡ int_sum (left_part plan fund s) s.bills +ℤ (of_fund fund (fund_of plan b.source) (pos b.amount) +ℤ pos 0)
billed_one plan fund s b new =
    sum_append (left_part plan fund s) s.bills (b ∷ [])
    ∙ ap (λ n. int_sum (left_part plan fund s) s.bills +ℤ ((if fund_of plan b.source == fund then pos (b.amount - n) else pos 0) +ℤ pos 0)) (not_settled b.number s.settlements new)
    ∙ ap (λ n. int_sum (left_part plan fund s) s.bills +ℤ ((if fund_of plan b.source == fund then pos n else pos 0) +ℤ pos 0)) (whole b.amount)
  where
    whole : (n : ℕ) → n - 0 ≡ n
    whole n = omega arith

-- ---- each act

abbrev Settles : Receivables → Act → Type 0
Settles s (act.Collect c) = over_bill s c.amount (bill_at c.bill s.bills) ≡ None
Settles s (act.WriteOff w) = over_bill s w.amount (bill_at w.bill s.bills) ≡ None
Settles s _ = Unit {0}

enough : (s : Receivables) (amount : ℕ) (b : Bill) → over_bill s amount (Some b) ≡ None → amount ≤ left_of s.settlements b
enough s amount b e = by (nat_lt (left_of s.settlements b) amount) (leb_tells (suc (left_of s.settlements b)) amount) (refuse_none _ (refusal.OverReceivable (left_of s.settlements b)) e)
  where
    by : (t : Bool) → ((t ≡ true) × (suc (left_of s.settlements b) ≤ amount)) ⊎ ((t ≡ false) × (amount < suc (left_of s.settlements b))) → t ≡ false → amount ≤ left_of s.settlements b
    by t (inl k) e = cc
    by t (inr k) e = omega (arith, k.1)

abbrev after : Plan → Registers → Day → Drawn → Act → Receivables
after plan s on drawn a =
    record s.receivables { bills = s.receivables.bills ++ bills_by drawn.number a; settlements = s.receivables.settlements ++ settlements_by plan s.receivables.bills on a }

-- no bill changes, and deeds come to nothing
kept : (plan : Plan) (fund : ℕ) (s : Registers) (t : ℤ) → t ≡ pos 0 →
    left_sum plan fund (record s.receivables { bills = s.receivables.bills ++ []; settlements = s.receivables.settlements ++ [] }) ≡ left_sum plan fund s.receivables +ℤ t
kept plan fund s t e =
    (λ i. left_sum plan fund (record s.receivables { bills = append-nil s.receivables.bills i; settlements = append-nil s.receivables.settlements i }))
    ∙ sym (none_last (left_sum plan fund s.receivables)) ∙ ap (λ z. left_sum plan fund s.receivables +ℤ z) (sym e)

left_step : (plan : Plan) (fund : ℕ) (s : Registers) (on : Day) (drawn : Drawn) → IsSound plan s → (a : Act) → AllowsDeferred plan s on drawn a → Settles s.receivables a →
    left_sum plan fund (after plan s on drawn a) ≡ left_sum plan fund s.receivables +ℤ int_sum (to_left fund) (deeds_of plan s on a)
left_step plan fund s on drawn sound (act.Voucher v) ok rule = kept plan fund s _ (voucher_none (to_left fund) (λ x. refl) plan (document_year plan on (act.Voucher v)) v.items)
left_step plan fund s on drawn sound (act.VoidVoucher n) ok rule = kept plan fund s _ (void_none (to_left fund) (λ x. refl) plan (spent_by n s.documents.expenditures))
left_step plan fund s on drawn sound (act.Pay p) ok rule = kept plan fund s _ (pay_none (to_left fund) (λ x. refl) (year_of_day plan on) s.documents.expenditures p.vouchers)
left_step plan fund s on drawn sound (act.Bill l) ok rule =
    let r = s.receivables in
    let b : Bill = record { number = drawn.number; source = l.source; levy_year = l.levy_year; amount = l.amount } in
    ap (λ (settlements : List Settlement). int_sum (left_part plan fund (record r { settlements = settlements })) (r.bills ++ b ∷ [])) (append-nil r.settlements)
    ∙ billed_one plan fund r b (all_so (λ (x : Settlement). x.bill ≤ length r.bills) (λ (x : Settlement). x.bill < drawn.number) (λ x h. omega (arith, h, ok)) r.settlements sound.settled)
left_step plan fund s on drawn sound (act.Collect c) ok rule =
    let r = s.receivables in
    let b = ok.bill in
    let x : Settlement = record { bill = c.bill; year = collected_year plan on b; amount = c.amount } in
    ap (λ (o : Option Bill). left_sum plan fund (record r { bills = r.bills ++ []; settlements = r.settlements ++ collected_of c.bill c.amount (option_map (collected_year plan on) o) })) ok.found
    ∙ ap (λ (bills : List Bill). int_sum (left_part plan fund (record r { settlements = r.settlements ++ x ∷ [] })) bills) (append-nil r.bills)
    ∙ settled_one plan fund r x b ok.found (one_bill c.bill (length r.bills) r.bills b ok.found (sound.numbers c.bill)) (enough r c.amount b (subst (λ o. over_bill r c.amount o ≡ None) ok.found rule))
    ∙ ap (λ z. left_sum plan fund r +ℤ z) (sym (ap (λ (o : Option Bill). int_sum (to_left fund) (collect_deeds plan on c o)) ok.found ∙ none_last (taken plan fund c.amount b)))
left_step plan fund s on drawn sound (act.WriteOff w) ok rule =
    let r = s.receivables in
    let b = ok.bill in
    let x : Settlement = record { bill = w.bill; year = year_of_day plan on; amount = w.amount } in
    ap (λ (bills : List Bill). int_sum (left_part plan fund (record r { settlements = r.settlements ++ x ∷ [] })) bills) (append-nil r.bills)
    ∙ settled_one plan fund r x b ok.found (one_bill w.bill (length r.bills) r.bills b ok.found (sound.numbers w.bill)) (enough r w.amount b (subst (λ o. over_bill r w.amount o ≡ None) ok.found rule))
    ∙ ap (λ z. left_sum plan fund r +ℤ z) (sym (ap (λ (o : Option Bill). int_sum (to_left fund) (write_off_deeds plan on w o)) ok.found ∙ none_last (taken plan fund w.amount b)))
left_step plan fund s on drawn sound (act.Asset (Donate d)) ok rule = kept plan fund s (pos 0) refl
left_step plan fund s on drawn sound (act.Asset (Dispose d)) ok rule = kept plan fund s _ (dispose_none (to_left fund) (λ x. refl) plan s.closed on d s.assets)
left_step plan fund s on drawn sound (act.PayDue p) ok rule = kept plan fund s _ (dues_none (to_left fund) (λ x. refl) plan on p.fund (filter (λ b. b.number == p.bond) s.bonds))
left_step plan fund s on drawn sound (act.Leave (Earn l)) ok rule = kept plan fund s (pos 0) refl
left_step plan fund s on drawn sound (act.Leave (Use l)) ok rule = kept plan fund s (pos 0) refl
left_step plan fund s on drawn sound (act.Leave (Mature l)) ok rule = kept plan fund s (pos 0) refl
left_step plan fund s on drawn sound (act.Interfund m) ok rule = kept plan fund s _ (between_none (to_left fund) (λ x. refl) (λ x. refl) (λ x. refl) m.what _)
left_step plan fund s on drawn sound (act.Close (period.Month m)) ok rule = kept plan fund s _ (close_none (to_left fund) plan s (λ x. refl) (λ x. refl))
left_step plan fund s on drawn sound (act.Close (period.Year y)) ok rule = kept plan fund s (pos 0) refl
left_step plan fund s on drawn sound _ ok rule = kept plan fund s (pos 0) refl

-- ---- legal histories

record AreLeft (plan : Plan) (h : List Entry) : Type 0 where
  legal : IsLegal plan h
  left : (fund : ℕ) → int_sum (to_left fund) (deeds_in plan h) ≡ left_sum plan fund (registers_of plan h).receivables

settles : (s : Receivables) (a : Act) → over_refusal s a ≡ None → Settles s a
settles s (act.Collect c) rule = rule
settles s (act.WriteOff w) rule = rule
settles s _ rule = tt

left_push : (plan : Plan) → IsWhole plan → (h : List Entry) (e : Entry) → AreLeft plan h → Adds plan h e → AreLeft plan (h ++ e ∷ [])
left_push plan whole h e is adds =
    let a = accepted plan h e adds in
    let s = registers_of plan h in
    let act = e.change.act in
    let on = e.change.on in
    let rules = first_of_none (bill_refusal s.receivables act ∷ over_refusal s.receivables act ∷ []) a.receivables in
    let ok = allows_deferred plan s on e.drawn act (ap (λ (x : Entry). x.drawn) a.entry) a.register_names a.levied in
    record {
      legal = legal_push plan h e is.legal adds;
      left = λ fund.
          deeds_push (to_left fund) plan h e
          ∙ ap (λ z. z +ℤ int_sum (to_left fund) (deeds_of plan s on act)) (is.left fund)
          ∙ sym (left_step plan fund s on e.drawn (is_lawful plan h whole is.legal).reconciled.sound act ok (settles s.receivables act rules.1.0))
          ∙ ap (λ (r : Registers). left_sum plan fund r.receivables) (sym (registers_push plan no_registers h e));
    }

pub bills_are : (plan : Plan) (h : List Entry) → IsWhole plan → IsLegal plan h → BillsAreReceivable plan h
bills_are plan h whole legal fund =
    let is = legal_induction plan (AreLeft plan) (record { legal = tt; left = λ fund. refl }) (left_push plan whole) h legal in
    same_sum (λ p. is_of fund 110000 p) (receivable_at fund) (λ p. swapped (p.fund == fund) (p.account == 110000)) (posts_in FundBasis plan h)
    ∙ posted FundBasis (receivable_at fund) plan h
    ∙ sum_same (λ d. sum_where (receivable_at fund) (fund_rows d)) (to_left fund) (left_on fund) (deeds_in plan h)
    ∙ is.left fund
  where
    swapped : (a b : Bool) → (a && b) ≡ (b && a)
    swapped true true = refl
    swapped true false = refl
    swapped false true = refl
    swapped false false = refl
