-- What stands in the lists of an entry, and the lists, are exact.
use Rattle.std.proofs.Common.{◌≡◌, ℕ, zero, suc, ◌+◌, ◌<◌, ◌≤◌, ◌*◌, Bool, true, false, List, [], ◌∷◌, length, refl, sym, ap, subst, ◌∙◌, arith, ◌&&◌, sum}
use Rattle.std.specs.Prelude.{⊤}
use Rattle.cf_base.proofs.Common.{AllByRecursion, list_all, leb-true, le-leb, lt-ltb, and_parts, and_from, eqb-true, eq-eqb}
use Rattle.cf_base.specs.declared.calendar.Day.{Day}
use Rattle.cf_base.specs.Common.{is_amount}
use Rattle.cf_calls.specs.declared.items.VoucherItem.{VoucherItem}
use Rattle.cf_calls.specs.declared.items.Charge.{Charge}
use Rattle.cf_calls.specs.declared.items.Charge.TheVariants.{Direct, OnOrder}
use Rattle.cf_calls.specs.declared.items.Liquidation.{Liquidation}
use Rattle.cf_calls.specs.declared.items.Liquidation.TheVariants.{Lesser, Recorded, Final}
use Rattle.cf_calls.specs.Common.{IsCount, IsVoucherForm, is_distinct, is_most, is_liquidation_form, is_charge_form, same_line, same_source, same_number, same_order_item, month_number}
use Rattle.cf_codec_fields.specs.Formats.{Format, kept, list, is_between}
use Rattle.cf_codec_fields.specs.Fields.{half, word, one_of, flag, amount, most_amount}
use Rattle.cf_codec.specs.Acts.{line_amount, source_amount, account_item, liquidation_kind, recorded_of, liquidation_by, liquidation, is_on_order, order_of, order_item_of, how_of, charge_by, charge, voucher_item, line_amounts, source_amounts, account_items, voucher_items, voucher_numbers, is_repayment, principals}
use Rattle.cf_codec_fields.proofs.Exact.{IsExact, IsWhole, Any, step, last, same, kept-exact, list-exact}
use Rattle.cf_codec_fields.proofs.FieldsExact.{half-exact, word-exact, one_of-exact, flag-exact, amount-exact, most_amount-exact}

pub line_amount-exact : IsWhole line_amount (λ i. is_amount i.amount ≡ true)
line_amount-exact =
    same line_amount Any _ _
    (step (λ r. r.line) half _ Any Any _ half-exact (λ line fits form.
    step (λ r. r.amount) amount _ (λ n. is_amount n ≡ true) _ _ amount-exact (λ amount fits form.
    last (record { line = line; amount = amount }) _ ((tt, refl), refl) (λ r known. λ i. record { line = known.0.1 i; amount = known.1 i }))))
    (λ r known fits form. (tt, (form, tt)))
    (λ r known fits form. form.1.0)

pub source_amount-exact : IsWhole source_amount (λ i. is_amount i.amount ≡ true)
source_amount-exact =
    same source_amount Any _ _
    (step (λ r. r.source) half _ Any Any _ half-exact (λ source fits form.
    step (λ r. r.amount) amount _ (λ n. is_amount n ≡ true) _ _ amount-exact (λ amount fits form.
    last (record { source = source; amount = amount }) _ ((tt, refl), refl) (λ r known. λ i. record { source = known.0.1 i; amount = known.1 i }))))
    (λ r known fits form. (tt, (form, tt)))
    (λ r known fits form. form.1.0)

pub account_item-exact : IsWhole account_item (λ i. is_amount i.amount ≡ true)
account_item-exact =
    same account_item Any _ _
    (step (λ r. r.fund) half _ Any Any _ half-exact (λ fund fits form.
    step (λ r. r.dept) half _ Any _ _ half-exact (λ dept fits form.
    step (λ r. r.object) half _ Any _ _ half-exact (λ object fits form.
    step (λ r. r.amount) amount _ (λ n. is_amount n ≡ true) _ _ amount-exact (λ amount fits form.
    last (record { fund = fund; dept = dept; object = object; amount = amount }) _ ((((tt, refl), refl), refl), refl) (λ r known. λ i. record { fund = known.0.0.0.1 i; dept = known.0.0.1 i; object = known.0.1 i; amount = known.1 i }))))))
    (λ r known fits form. (tt, (tt, (tt, (form, tt)))))
    (λ r known fits form. form.1.1.1.0)

-- ---- what a voucher item is charged against

lesser_is : (h : Liquidation) → 0 ≡ liquidation_kind h → Lesser ≡ h
lesser_is Lesser e = refl
lesser_is (Recorded r) e = absurd cc
lesser_is Final e = absurd cc

recorded_is : (r : ℕ) (h : Liquidation) → 1 ≡ liquidation_kind h → r ≡ recorded_of h → Recorded r ≡ h
recorded_is r Lesser e f = absurd cc
recorded_is r (Recorded s) e f = ap Recorded f
recorded_is r Final e f = absurd cc

final_is : (h : Liquidation) → 2 ≡ liquidation_kind h → Final ≡ h
final_is Lesser e = absurd cc
final_is (Recorded r) e = absurd cc
final_is Final e = refl

abbrev KindIs : ℕ → Liquidation → Type 0
KindIs n h = ⊤ × (n ≡ liquidation_kind h)

abbrev InForm : Liquidation → Type 0
InForm h = is_liquidation_form h ≡ true

liquidation_by-exact : (n : ℕ) → n < 3 → IsExact (liquidation_by n) (KindIs n) InForm
liquidation_by-exact zero lt =
    same (liquidation_by 0) (KindIs 0) Any InForm (last Lesser (KindIs 0) (tt, refl) (λ h known. lesser_is h known.1))
    (λ h known fits form. tt) (λ h known fits form. subst InForm (lesser_is h known.1) refl)
liquidation_by-exact (suc zero) lt =
    same (liquidation_by 1) (KindIs 1) _ InForm
    (step recorded_of amount _ (λ n. is_amount n ≡ true) (KindIs 1) _ amount-exact (λ r fits form.
    last (Recorded r) _ ((tt, refl), refl) (λ h known. recorded_is r h known.0.1 known.1)))
    (λ h known fits form. let e = recorded_is (recorded_of h) h known.1 refl in (subst InForm (sym e) form, tt))
    (λ h known fits form. subst InForm (recorded_is (recorded_of h) h known.1 refl) form.0)
liquidation_by-exact (suc (suc n)) lt =
    let two : suc (suc n) ≡ 2 = omega arith in
    same (liquidation_by (suc (suc n))) (KindIs (suc (suc n))) Any InForm (last Final (KindIs (suc (suc n))) (tt, two) (λ h known. final_is h (sym two ∙ known.1)))
    (λ h known fits form. tt) (λ h known fits form. subst InForm (final_is h (sym two ∙ known.1)) refl)

liquidation-exact : IsWhole liquidation InForm
liquidation-exact =
    same liquidation Any _ _
    (step liquidation_kind (one_of 3) liquidation_by (λ n. n < 3) Any (λ n. InForm) (one_of-exact 3) (λ n fits form. liquidation_by-exact n form))
    (λ h known fits form. (kind_below h, form)) (λ h known fits form. form.1)
  where
    kind_below : (h : Liquidation) → liquidation_kind h < 3
    kind_below Lesser = omega arith
    kind_below (Recorded r) = omega arith
    kind_below Final = omega arith

direct_is : (c : Charge) → false ≡ is_on_order c → Direct ≡ c
direct_is Direct e = refl
direct_is (OnOrder i o h) e = absurd cc

on_order_is : (o i : ℕ) (h : Liquidation) (c : Charge) → true ≡ is_on_order c → o ≡ order_of c → i ≡ order_item_of c → h ≡ how_of c → OnOrder i o h ≡ c
on_order_is o i h Direct e p q r = absurd cc
on_order_is o i h (OnOrder v u w) e p q r = cc

abbrev OnOrderIs : Bool → Charge → Type 0
OnOrderIs b c = ⊤ × (b ≡ is_on_order c)

abbrev ChargeInForm : Charge → Type 0
ChargeInForm c = is_charge_form c ≡ true

how_form : (c : Charge) → true ≡ is_on_order c → is_charge_form c ≡ is_liquidation_form (how_of c)
how_form Direct e = absurd cc
how_form (OnOrder i o h) e = refl

charge_by-exact : (b : Bool) → IsExact (charge_by b) (OnOrderIs b) ChargeInForm
charge_by-exact false =
    same (charge_by false) (OnOrderIs false) Any ChargeInForm (last Direct (OnOrderIs false) (tt, refl) (λ c known. direct_is c known.1))
    (λ c known fits form. tt) (λ c known fits form. subst ChargeInForm (direct_is c known.1) refl)
charge_by-exact true =
    same (charge_by true) (OnOrderIs true) _ ChargeInForm
    (step order_of word _ Any (OnOrderIs true) _ word-exact (λ o fits form.
    step order_item_of half _ Any _ _ half-exact (λ i fits form.
    step how_of liquidation _ InForm _ _ liquidation-exact (λ h fits form.
    last (OnOrder i o h) _ ((((tt, refl), refl), refl), refl) (λ c known. on_order_is o i h c known.0.0.0.1 known.0.0.1 known.0.1 known.1)))))
    (λ c known fits form. (tt, (tt, (sym (how_form c known.1) ∙ form, tt))))
    (λ c known fits form. how_form c known.1 ∙ form.1.1.0)

charge-exact : IsWhole charge ChargeInForm
charge-exact =
    same charge Any _ _
    (step is_on_order flag charge_by Any Any (λ b. ChargeInForm) flag-exact (λ b fits form. charge_by-exact b))
    (λ c known fits form. (tt, form)) (λ c known fits form. form.1)

abbrev ItemInForm : VoucherItem → Type 0
ItemInForm i = (is_amount i.account.amount ≡ true) × (is_charge_form i.charge ≡ true)

voucher_item-exact : IsWhole voucher_item ItemInForm
voucher_item-exact =
    same voucher_item Any _ _
    (step (λ r. r.account) account_item _ (λ i. is_amount i.amount ≡ true) Any _ account_item-exact (λ account fits form.
    step (λ r. r.charge) charge _ ChargeInForm _ _ charge-exact (λ charge fits form.
    last (record { account = account; charge = charge }) _ ((tt, refl), refl) (λ r known. λ i. record { account = known.0.1 i; charge = known.1 i }))))
    (λ r known fits form. (form.0, (form.1, tt)))
    (λ r known fits form. (form.0, form.1.0))

-- ---- the lists

each_from : {A : Type 0} (test : A → Bool) (xs : List A) → list_all test xs ≡ true → AllByRecursion (λ x. test x ≡ true) xs
each_from test [] e = tt
each_from test (x ∷ xs) e = let p = and_parts _ _ e in (p.0, each_from test xs p.1)

each_to : {A : Type 0} (test : A → Bool) (xs : List A) → AllByRecursion (λ x. test x ≡ true) xs → list_all test xs ≡ true
each_to test [] each = refl
each_to test (x ∷ xs) each = and_from _ _ each.0 (each_to test xs each.1)

count_from : (least most n : ℕ) → IsCount least most n → is_between least most n ≡ true
count_from least most n count = and_from _ _ (le-leb least n count.from) (le-leb n most count.to)

count_to : (least most n : ℕ) → is_between least most n ≡ true → IsCount least most n
count_to least most n e = let p = and_parts _ _ e in record { from = leb-true least n p.0; to = leb-true n most p.1 }

-- a list of so many elements that pass a test
abbrev pub IsListOf : {A : Type 0} → (A → Bool) → ℕ → ℕ → List A → Type 0
IsListOf test least most xs = IsCount least most (length xs) × (list_all test xs ≡ true)

tested : {A : Type 0} (test : A → Bool) (least most : ℕ) (f : Format A) → most < 65536 → IsWhole f (λ x. test x ≡ true) → IsWhole (list least most f) (IsListOf test least most)
tested test least most f few exact =
    same (list least most f) Any _ _ (list-exact least most f (λ x. test x ≡ true) few exact)
    (λ xs known fits form. (count_from least most (length xs) form.0, each_from test xs form.1))
    (λ xs known fits form. (count_to least most (length xs) form.0, each_to test xs form.1))

-- the same, of which no two clash
pub record IsDistinctList {A : Type 0} (clash : A → A → Bool) (test : A → Bool) (least most : ℕ) (xs : List A) : Type 0 where
  pub count : IsCount least most (length xs)
  pub apart : is_distinct clash xs ≡ true
  pub pass : list_all test xs ≡ true

apart : {A : Type 0} (clash : A → A → Bool) (test : A → Bool) (least most : ℕ) (f : Format A) → most < 65536 → IsWhole f (λ x. test x ≡ true)
    → IsWhole (kept (is_distinct clash) (list least most f)) (IsDistinctList clash test least most)
apart clash test least most f few exact =
    same (kept (is_distinct clash) (list least most f)) Any _ (IsDistinctList clash test least most) (kept-exact (is_distinct clash) (list least most f) (IsListOf test least most) (tested test least most f few exact))
    (λ xs known fits form. ((form.count, form.pass), form.apart))
    (λ xs known fits form. record { count = form.0.0; apart = form.1; pass = form.0.1 })

pub line_amounts-exact : IsWhole line_amounts (IsDistinctList same_line (λ x. is_amount x.amount) 0 4096)
line_amounts-exact = apart same_line (λ x. is_amount x.amount) 0 4096 line_amount (omega arith) line_amount-exact

pub source_amounts-exact : IsWhole source_amounts (IsDistinctList same_source (λ x. is_amount x.amount) 0 256)
source_amounts-exact = apart same_source (λ x. is_amount x.amount) 0 256 source_amount (omega arith) source_amount-exact

pub account_items-exact : IsWhole account_items (IsListOf (λ x. is_amount x.amount) 1 32)
account_items-exact = tested (λ x. is_amount x.amount) 1 32 account_item (omega arith) account_item-exact

abbrev item_passes : VoucherItem → Bool
item_passes i = is_amount i.account.amount && is_charge_form i.charge

items_pass : (xs : List VoucherItem) → list_all (λ i. is_charge_form i.charge) xs ≡ true → list_all (λ i. is_amount i.account.amount) xs ≡ true → list_all item_passes xs ≡ true
items_pass [] e f = refl
items_pass (x ∷ xs) e f = let p = and_parts _ _ e in let q = and_parts _ _ f in and_from _ _ (and_from _ _ q.0 p.0) (items_pass xs p.1 q.1)

charges_pass : (xs : List VoucherItem) → list_all item_passes xs ≡ true → list_all (λ i. is_charge_form i.charge) xs ≡ true
charges_pass [] e = refl
charges_pass (x ∷ xs) e = let p = and_parts _ _ e in and_from _ _ (and_parts _ _ p.0).1 (charges_pass xs p.1)

amounts_pass : (xs : List VoucherItem) → list_all item_passes xs ≡ true → list_all (λ i. is_amount i.account.amount) xs ≡ true
amounts_pass [] e = refl
amounts_pass (x ∷ xs) e = let p = and_parts _ _ e in and_from _ _ (and_parts _ _ p.0).0 (amounts_pass xs p.1)

pub voucher_items-exact : IsWhole voucher_items (λ xs. IsVoucherForm xs × (list_all (λ x. is_amount x.account.amount) xs ≡ true))
voucher_items-exact =
    let item : IsWhole voucher_item (λ i. item_passes i ≡ true) =
    same voucher_item Any ItemInForm (λ i. item_passes i ≡ true) voucher_item-exact (λ i known fits form. and_parts _ _ form) (λ i known fits form. and_from _ _ form.0 form.1) in
    same voucher_items Any _ _
    (apart same_order_item item_passes 1 32 voucher_item (omega arith) item)
    (λ xs known fits form. record { count = form.0.count; apart = form.0.apart; pass = items_pass xs form.0.charges form.1 })
    (λ xs known fits form. (record { count = form.count; charges = charges_pass xs form.pass; apart = form.apart }, amounts_pass xs form.pass))

all_pass : {A : Type 0} (xs : List A) → list_all (λ x. true) xs ≡ true
all_pass [] = refl
all_pass (x ∷ xs) = all_pass xs

pub voucher_numbers-exact : IsWhole voucher_numbers (λ xs. IsCount 1 64 (length xs) × (is_distinct same_number xs ≡ true))
voucher_numbers-exact =
    let number : IsWhole word (λ n. true ≡ true) = same word Any Any (λ n. true ≡ true) word-exact (λ n known fits form. tt) (λ n known fits form. refl) in
    same voucher_numbers Any _ _
    (apart same_number (λ n. true) 1 64 word (omega arith) number)
    (λ xs known fits form. record { count = form.0; apart = form.1; pass = all_pass xs })
    (λ xs known fits form. (form.count, form.apart))

-- the principals of a debt, whose term is above so many months
pub record IsRepaymentList (on : Day) (above amount every : ℕ) (xs : List ℕ) : Type 0 where
  pub count : IsCount 1 120 (length xs)
  pub most : list_all is_most xs ≡ true
  pub total : sum xs ≡ amount
  pub term : above < every * length xs
  pub last_due : month_number on.year on.month + every * length xs ≤ month_number 2199 12

pub principals-exact : (on : Day) (above amount every : ℕ) → IsWhole (principals on above amount every) (IsRepaymentList on above amount every)
principals-exact on above amount every =
    same (principals on above amount every) Any _ _
    (kept-exact (is_repayment on above amount every) (list 1 120 most_amount) (IsListOf is_most 1 120) (tested is_most 1 120 most_amount (omega arith) most_amount-exact))
    (λ xs known fits form. ((form.count, form.most), and_from _ _ (and_from _ _ (eq-eqb _ _ form.total) (lt-ltb _ _ form.term)) (le-leb _ _ form.last_due)))
    (λ xs known fits form. let p = and_parts _ _ form.1 in let q = and_parts _ _ p.0 in record { count = form.0.0; most = form.0.1; total = eqb-true _ _ q.0; term = leb-true _ _ q.1; last_due = leb-true _ _ p.1 })
