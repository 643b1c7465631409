-- The items of a call's lists are read back.
use Rattle.std.proofs.Common.{◌≡◌, ℕ, suc, ◌≤◌, ◌^◌, ℤ, pos, negsuc, Bool, true, false, List, [], ◌∷◌, length, map, Option, Some, refl, arith, lt-ltb, le-leb, FitsSigned, w64, All}
use Rattle.cf_base.proofs.Common.{list_all, list_any, and_parts}
use Rattle.serde_json.specs.Data.{Data}
use Rattle.serde_json.specs.View.{items_of}
use Rattle.cf_calls.specs.declared.items.LineAmount.{LineAmount}
use Rattle.cf_calls.specs.declared.items.SourceAmount.{SourceAmount}
use Rattle.cf_calls.specs.declared.items.AccountItem.{AccountItem}
use Rattle.cf_calls.specs.declared.items.VoucherItem.{VoucherItem}
use Rattle.cf_calls.specs.declared.items.Charge.{Charge}
use Rattle.cf_calls.specs.declared.items.Charge.TheVariants.{Direct, OnOrder}
use Rattle.cf_calls.specs.declared.items.Liquidation.TheVariants.{Lesser, Recorded, Final}
use Rattle.cf_calls.specs.Common.{is_by, is_distinct, is_charge_form, IsCount, IsVoucherForm, same_line, same_source, same_order_item, same_number}
use Rattle.cf_json.specs.Items.{never, as_line_amount, as_source_amount, as_account_item, as_voucher_item, as_line_amounts, as_source_amounts, as_account_items, as_voucher_items, as_vouchers, as_principals}
use Rattle.cf_json_members.specs.Lists.{each, as_list}
use Rattle.cf_json_members.specs.Kinds.{as_by, as_count, as_n32}
use Rattle.cf_json_members.specs.Objects.{count, list_of}
use Rattle.cf_json_calls.specs.Fits.{IsN32, IsN64, LineAmountFits, SourceAmountFits, AccountFits, ChargeFits, VoucherItemFits}
use Rattle.cf_json_calls.specs.Values.{signed, line_amount_data, source_amount_data, account_item_data, voucher_item_data}
use Rattle.cf_json_calls.proofs.Sorted.{sorted, items_sorted, can_read, items_can_read}

-- ---- a signed change

pub signed-short : (z : ℤ) → FitsSigned w64 z → can_read 0 (signed z) ≡ true
signed-short (pos n) fits = lt-ltb n (2 ^ 64) (omega (arith, fits.sfits))
signed-short (negsuc n) fits = lt-ltb n (2 ^ 63) (omega (arith, fits.sfits))

pub signed-back : (z : ℤ) → FitsSigned w64 z → is_by z ≡ true → as_by (sorted (signed z)) ≡ Some z
signed-back (pos n) fits by = rw (lt-ltb n (2 ^ 63) (omega (arith, fits.sfits)))
signed-back (negsuc n) fits by = rw by

-- ---- single items

pub line_amount-short : (i : LineAmount) → LineAmountFits i → can_read 1 (line_amount_data i) ≡ true
line_amount-short i fits = rw (lt-ltb i.line (2 ^ 64) (omega arith), lt-ltb i.amount (2 ^ 64) fits.1)

pub line_amount-back : (i : LineAmount) → LineAmountFits i → as_line_amount (sorted (line_amount_data i)) ≡ Some i
line_amount-back i fits = rw (lt-ltb i.line 65536 fits.0)

pub source_amount-short : (i : SourceAmount) → SourceAmountFits i → can_read 1 (source_amount_data i) ≡ true
source_amount-short i fits = rw (lt-ltb i.source (2 ^ 64) (omega arith), lt-ltb i.amount (2 ^ 64) fits.1)

pub source_amount-back : (i : SourceAmount) → SourceAmountFits i → as_source_amount (sorted (source_amount_data i)) ≡ Some i
source_amount-back i fits = rw (lt-ltb i.source 65536 fits.0)

pub account_item-short : (i : AccountItem) → AccountFits i → can_read 1 (account_item_data i) ≡ true
account_item-short i fits =
    rw (lt-ltb i.fund (2 ^ 64) (omega arith), lt-ltb i.dept (2 ^ 64) (omega arith), lt-ltb i.object (2 ^ 64) (omega arith), lt-ltb i.amount (2 ^ 64) fits.3)

pub account_item-back : (i : AccountItem) → AccountFits i → as_account_item (sorted (account_item_data i)) ≡ Some i
account_item-back i fits = rw (lt-ltb i.fund 65536 fits.0, lt-ltb i.dept 65536 fits.1, lt-ltb i.object 65536 fits.2)

pub number-short : (n : ℕ) → IsN64 n → can_read 1 (count n) ≡ true
number-short n fits = lt-ltb n (2 ^ 64) fits

pub word-short : (n : ℕ) → IsN32 n → can_read 1 (count n) ≡ true
word-short n fits = lt-ltb n (2 ^ 64) (omega arith)

pub word-back : (n : ℕ) → IsN32 n → as_n32 (sorted (count n)) ≡ Some n
word-back n fits = rw (lt-ltb n 4294967296 fits)

-- ---- items of a voucher

voucher_item-short_by : (a : AccountItem) (c : Charge) → AccountFits a → ChargeFits c → can_read 1 (voucher_item_data (record { account = a; charge = c })) ≡ true
voucher_item-short_by a Direct fits h =
    rw (lt-ltb a.fund (2 ^ 64) (omega arith), lt-ltb a.dept (2 ^ 64) (omega arith), lt-ltb a.object (2 ^ 64) (omega arith), lt-ltb a.amount (2 ^ 64) fits.3)
voucher_item-short_by a (OnOrder i o Lesser) fits h =
    rw (lt-ltb a.fund (2 ^ 64) (omega arith), lt-ltb a.dept (2 ^ 64) (omega arith), lt-ltb a.object (2 ^ 64) (omega arith), lt-ltb a.amount (2 ^ 64) fits.3, lt-ltb o (2 ^ 64) (omega arith), lt-ltb i (2 ^ 64) (omega arith))
voucher_item-short_by a (OnOrder i o (Recorded r)) fits h =
    rw (lt-ltb a.fund (2 ^ 64) (omega arith), lt-ltb a.dept (2 ^ 64) (omega arith), lt-ltb a.object (2 ^ 64) (omega arith), lt-ltb a.amount (2 ^ 64) fits.3, lt-ltb o (2 ^ 64) (omega arith), lt-ltb i (2 ^ 64) (omega arith), lt-ltb r (2 ^ 64) h.2)
voucher_item-short_by a (OnOrder i o Final) fits h =
    rw (lt-ltb a.fund (2 ^ 64) (omega arith), lt-ltb a.dept (2 ^ 64) (omega arith), lt-ltb a.object (2 ^ 64) (omega arith), lt-ltb a.amount (2 ^ 64) fits.3, lt-ltb o (2 ^ 64) (omega arith), lt-ltb i (2 ^ 64) (omega arith))

pub voucher_item-short : (i : VoucherItem) → VoucherItemFits i → can_read 1 (voucher_item_data i) ≡ true
voucher_item-short i fits = voucher_item-short_by i.account i.charge fits.0 fits.1

voucher_item-back_by : (a : AccountItem) (c : Charge) → AccountFits a → ChargeFits c → is_charge_form c ≡ true
    → as_voucher_item (sorted (voucher_item_data (record { account = a; charge = c }))) ≡ Some (record { account = a; charge = c })
voucher_item-back_by a Direct fits h form = rw (lt-ltb a.fund 65536 fits.0, lt-ltb a.dept 65536 fits.1, lt-ltb a.object 65536 fits.2)
voucher_item-back_by a (OnOrder i o Lesser) fits h form =
    rw (lt-ltb a.fund 65536 fits.0, lt-ltb a.dept 65536 fits.1, lt-ltb a.object 65536 fits.2, lt-ltb o 4294967296 h.1, lt-ltb i 65536 h.0)
voucher_item-back_by a (OnOrder i o (Recorded r)) fits h form =
    rw (lt-ltb a.fund 65536 fits.0, lt-ltb a.dept 65536 fits.1, lt-ltb a.object 65536 fits.2, lt-ltb o 4294967296 h.1, lt-ltb i 65536 h.0, form)
voucher_item-back_by a (OnOrder i o Final) fits h form =
    rw (lt-ltb a.fund 65536 fits.0, lt-ltb a.dept 65536 fits.1, lt-ltb a.object 65536 fits.2, lt-ltb o 4294967296 h.1, lt-ltb i 65536 h.0)

pub voucher_item-back : (i : VoucherItem) → VoucherItemFits i → is_charge_form i.charge ≡ true → as_voucher_item (sorted (voucher_item_data i)) ≡ Some i
voucher_item-back i fits form = voucher_item-back_by i.account i.charge fits.0 fits.1 form

-- ---- lists

pub items-short : {A : Type 0} (f : A → Data) (Fits : A → Type 0) → ((x : A) → Fits x → can_read 1 (f x) ≡ true) → (xs : List A) → All Fits xs → items_can_read 1 (items_of (map f xs)) ≡ true
items-short f Fits short [] h = refl
items-short f Fits short (x ∷ xs) h = rw (short x (h 0 x (omega arith))) (items-short f Fits short xs (λ k d below. h (suc k) d (omega arith)))

pub items-back : {A : Type 0} (kind : Data → Option A) (f : A → Data) (Fits : A → Type 0) → ((x : A) → Fits x → kind (sorted (f x)) ≡ Some x)
    → (xs : List A) → All Fits xs → each kind (items_sorted (items_of (map f xs))) ≡ Some xs
items-back kind f Fits back [] h = refl
items-back kind f Fits back (x ∷ xs) h =
    rw (back x (h 0 x (omega arith)), items-back kind f Fits back xs (λ k d below. h (suc k) d (omega arith)))

-- the same of items with a test
pub tested_items-back : {A : Type 0} (kind : Data → Option A) (f : A → Data) (Fits : A → Type 0) (test : A → Bool) → ((x : A) → Fits x → test x ≡ true → kind (sorted (f x)) ≡ Some x)
    → (xs : List A) → All Fits xs → list_all test xs ≡ true → each kind (items_sorted (items_of (map f xs))) ≡ Some xs
tested_items-back kind f Fits test back [] h tests = refl
tested_items-back kind f Fits test back (x ∷ xs) h tests =
    let p = and_parts (test x) (list_all test xs) tests in
    rw (back x (h 0 x (omega arith)) p.0, tested_items-back kind f Fits test back xs (λ k d below. h (suc k) d (omega arith)) p.1)

-- a list is read back
pub list-back : {A : Type 0} (kind : Data → Option A) (f : A → Data) (clash : A → A → Bool) (least most : ℕ) (xs : List A)
    → each kind (items_sorted (items_of (map f xs))) ≡ Some xs → IsCount least most (length xs) → is_distinct clash xs ≡ true
    → as_list kind clash least most (sorted (list_of f xs)) ≡ Some xs
list-back kind f clash least most xs back count apart = rw back (rw (le-leb _ _ count.from, le-leb _ _ count.to, apart))

never_any : {A : Type 0} (x : A) (xs : List A) → list_any (never x) xs ≡ false
never_any x [] = refl
never_any x (y ∷ ys) = never_any x ys

-- any two may stand in one list
pub never_distinct : {A : Type 0} (xs : List A) → is_distinct never xs ≡ true
never_distinct [] = refl
never_distinct (x ∷ xs) = rw (never_any x xs) (never_distinct xs)

pub line_amounts-back : (xs : List LineAmount) → All LineAmountFits xs → length xs ≤ 4096 → is_distinct same_line xs ≡ true → as_line_amounts (sorted (list_of line_amount_data xs)) ≡ Some xs
line_amounts-back xs fits few apart =
    list-back as_line_amount line_amount_data same_line 0 4096 xs (items-back as_line_amount line_amount_data LineAmountFits line_amount-back xs fits) (record { from = omega arith; to = few }) apart

pub source_amounts-back : (xs : List SourceAmount) → All SourceAmountFits xs → length xs ≤ 256 → is_distinct same_source xs ≡ true → as_source_amounts (sorted (list_of source_amount_data xs)) ≡ Some xs
source_amounts-back xs fits few apart =
    list-back as_source_amount source_amount_data same_source 0 256 xs (items-back as_source_amount source_amount_data SourceAmountFits source_amount-back xs fits) (record { from = omega arith; to = few }) apart

pub account_items-back : (xs : List AccountItem) → All AccountFits xs → IsCount 1 32 (length xs) → as_account_items (sorted (list_of account_item_data xs)) ≡ Some xs
account_items-back xs fits count =
    list-back as_account_item account_item_data never 1 32 xs (items-back as_account_item account_item_data AccountFits account_item-back xs fits) count (never_distinct xs)

pub voucher_items-back : (xs : List VoucherItem) → All VoucherItemFits xs → IsVoucherForm xs → as_voucher_items (sorted (list_of voucher_item_data xs)) ≡ Some xs
voucher_items-back xs fits form =
    list-back as_voucher_item voucher_item_data same_order_item 1 32 xs
    (tested_items-back as_voucher_item voucher_item_data VoucherItemFits (λ i. is_charge_form i.charge) voucher_item-back xs fits form.charges) form.count form.apart

pub vouchers-back : (xs : List ℕ) → All IsN32 xs → IsCount 1 64 (length xs) → is_distinct same_number xs ≡ true → as_vouchers (sorted (list_of count xs)) ≡ Some xs
vouchers-back xs fits few apart = list-back as_n32 count same_number 1 64 xs (items-back as_n32 count IsN32 word-back xs fits) few apart

pub principals-back : (xs : List ℕ) → All IsN64 xs → IsCount 1 120 (length xs) → as_principals (sorted (list_of count xs)) ≡ Some xs
principals-back xs fits few = list-back as_count count never 1 120 xs (items-back as_count count IsN64 (λ n h. refl) xs fits) few (never_distinct xs)
