-- The line of a change can be read: its numbers are short and its texts ASCII.
use Rattle.std.proofs.Common.{◌≡◌, ℕ, ◌^◌, ◌&&◌, Bool, true, false, nat_lt, nat_le, List, [], ◌∷◌, ◌++◌, length, Option, Some, None, refl, arith, lt-ltb, leb-true, codes, All}
use Rattle.cf_base.proofs.Common.{list_all, and_parts}
use Rattle.serde_json.specs.Data.{Data}
use Rattle.cf_calls.specs.declared.acts.Act.{Act}
use Rattle.cf_calls.specs.declared.acts.Act.TheVariants.{Adopt, Amend, Transfer, Requisition, Withdraw, Order, ChangeOrder, CancelOrder, Voucher, VoidVoucher, Pay, Bill, Collect, Receive, WriteOff, Asset, Issue, PayDue, Leave, Interfund, Close, Lease}
use Rattle.cf_calls.specs.declared.items.AccountItem.{AccountItem}
use Rattle.cf_calls.specs.declared.items.VoucherItem.{VoucherItem}
use Rattle.cf_base.specs.declared.calendar.Day.{Day}
use Rattle.cf_json_members.specs.Objects.{count}
use Rattle.cf_calls.specs.declared.acts.AssetAct.TheVariants.{Donate, Dispose}
use Rattle.cf_calls.specs.declared.acts.LeaveAct.TheVariants.{Earn, Use, Mature}
use Rattle.cf_calls.specs.declared.acts.FundMoveKind.{FundMoveKind}
use Rattle.cf_calls.specs.declared.acts.FundMoveKind.TheVariants as move
use Rattle.cf_calls.specs.declared.acts.Period.TheVariants as period
use Rattle.cf_calls.specs.declared.call.Change.{Change}
use Rattle.cf_calls.specs.Common.{IsActInForm, IsChangeInForm, is_key, is_key_byte}
use Rattle.cf_json_calls.specs.CallText.{call_data}
use Rattle.cf_json_calls.specs.Fits.{IsN16, IsN32, IsN64, HasFit, ActFits, ChangeFits, LineAmountFits, SourceAmountFits, AccountFits, VoucherItemFits}
use Rattle.cf_json_calls.specs.Values.{line_amount_data, source_amount_data, account_item_data, voucher_item_data}
use Rattle.cf_json_calls.proofs.Days.{day_ascii, month_ascii}
use Rattle.cf_json_calls.proofs.ListsBack as items
use Rattle.json.proofs.Printed.Utf8.{are_ascii}
use Rattle.cf_json_members.specs.Objects.{members}
use Rattle.cf_json_calls.specs.CallText.{call_word, own_fields, first_fields, optional_field}
use Rattle.cf_json_calls.proofs.Sorted.{can_read, members_can_read}

abbrev IsShort : List (List ℕ × Data) → Type 0
IsShort fs = members_can_read 2 (members fs) ≡ true

order-short : (v : ℕ) (r : Option ℕ) (xs : List AccountItem) → IsN32 v → HasFit IsN32 r → All AccountFits xs → IsShort (own_fields (Order (record { vendor = v; requisition = r; items = xs })))
order-short v None xs h k l = rw (lt-ltb v (2 ^ 64) (omega arith), items.items-short account_item_data AccountFits items.account_item-short xs l)
order-short v (Some r) xs h k l = rw (lt-ltb v (2 ^ 64) (omega arith), lt-ltb r (2 ^ 64) (omega arith), items.items-short account_item_data AccountFits items.account_item-short xs l)

voucher-short : (v : ℕ) (b : Bool) (xs : List VoucherItem) → IsN32 v → All VoucherItemFits xs → IsShort (own_fields (Voucher (record { vendor = v; back = b; items = xs })))
voucher-short v false xs h l = rw (lt-ltb v (2 ^ 64) (omega arith), items.items-short voucher_item_data VoucherItemFits items.voucher_item-short xs l)
voucher-short v true xs h l = rw (lt-ltb v (2 ^ 64) (omega arith), items.items-short voucher_item_data VoucherItemFits items.voucher_item-short xs l)

interfund-short : (k : FundMoveKind) (x y a : ℕ) → IsN16 x → IsN16 y → IsN64 a → IsShort (own_fields (Interfund (record { what = k; from = x; to = y; amount = a })))
interfund-short move.Transfer x y a h i j = rw (lt-ltb x (2 ^ 64) (omega arith), lt-ltb y (2 ^ 64) (omega arith), lt-ltb a (2 ^ 64) j)
interfund-short move.Loan x y a h i j = rw (lt-ltb x (2 ^ 64) (omega arith), lt-ltb y (2 ^ 64) (omega arith), lt-ltb a (2 ^ 64) j)
interfund-short move.Repay x y a h i j = rw (lt-ltb x (2 ^ 64) (omega arith), lt-ltb y (2 ^ 64) (omega arith), lt-ltb a (2 ^ 64) j)

own-short : (on : Day) (a : Act) → IsActInForm on a → ActFits a → IsShort (own_fields a)
own-short on (Adopt a) form fits = rw (lt-ltb a.fund (2 ^ 64) (omega arith), lt-ltb a.year (2 ^ 64) (omega (arith, form.year.to)), items.items-short line_amount_data LineAmountFits items.line_amount-short a.lines fits.1, items.items-short source_amount_data SourceAmountFits items.source_amount-short a.estimates fits.2)
own-short on (Amend a) form fits = rw (lt-ltb a.fund (2 ^ 64) (omega arith), lt-ltb a.year (2 ^ 64) (omega (arith, form.0.to)), lt-ltb a.line (2 ^ 64) (omega arith), items.signed-short a.by fits.2)
own-short on (Transfer t) form fits = rw (lt-ltb t.fund (2 ^ 64) (omega arith), lt-ltb t.year (2 ^ 64) (omega (arith, form.0.to)), lt-ltb t.from (2 ^ 64) (omega arith), lt-ltb t.to (2 ^ 64) (omega arith), lt-ltb t.amount (2 ^ 64) fits.3)
own-short on (Requisition r) form fits = rw (items.items-short account_item_data AccountFits items.account_item-short r.items fits)
own-short on (Withdraw m) form fits = rw (lt-ltb m (2 ^ 64) (omega arith))
own-short on (Order o) form fits = order-short o.vendor o.requisition o.items fits.0 fits.1 fits.2
own-short on (ChangeOrder o) form fits = rw (lt-ltb o.order (2 ^ 64) (omega arith), lt-ltb o.item (2 ^ 64) (omega arith), lt-ltb o.fund (2 ^ 64) (omega arith), lt-ltb o.dept (2 ^ 64) (omega arith), lt-ltb o.object (2 ^ 64) (omega arith), items.signed-short o.by fits.5)
own-short on (CancelOrder m) form fits = rw (lt-ltb m (2 ^ 64) (omega arith))
own-short on (Voucher v) form fits = voucher-short v.vendor v.back v.items fits.0 fits.1
own-short on (VoidVoucher m) form fits = rw (lt-ltb m (2 ^ 64) (omega arith))
own-short on (Pay p) form fits = rw (items.items-short count IsN32 items.word-short p.vouchers fits)
own-short on (Bill b) form fits = rw (lt-ltb b.source (2 ^ 64) (omega arith), lt-ltb b.levy_year (2 ^ 64) (omega (arith, form.to)), lt-ltb b.payer (2 ^ 64) (omega arith), lt-ltb b.amount (2 ^ 64) fits.2)
own-short on (Collect a) form fits = rw (lt-ltb a.bill (2 ^ 64) (omega arith), lt-ltb a.amount (2 ^ 64) fits.1)
own-short on (Receive r) form fits = rw (lt-ltb r.source (2 ^ 64) (omega arith), lt-ltb r.amount (2 ^ 64) fits.1)
own-short on (WriteOff a) form fits = rw (lt-ltb a.bill (2 ^ 64) (omega arith), lt-ltb a.amount (2 ^ 64) fits.1)
own-short on (Asset (Donate d)) form fits = rw (lt-ltb d.dept (2 ^ 64) (omega arith), lt-ltb d.object (2 ^ 64) (omega arith), lt-ltb d.amount (2 ^ 64) fits.2)
own-short on (Asset (Dispose d)) form fits = rw (lt-ltb d.asset (2 ^ 64) (omega arith), lt-ltb d.fund (2 ^ 64) (omega arith), lt-ltb d.proceeds (2 ^ 64) fits.2)
own-short on (Issue i) form fits = rw (lt-ltb i.fund (2 ^ 64) (omega arith), lt-ltb i.amount (2 ^ 64) fits.1, lt-ltb i.terms.rate_bp (2 ^ 64) (omega arith), lt-ltb i.terms.every (2 ^ 64) (omega arith), items.items-short count IsN64 items.number-short i.terms.principals fits.2.2)
own-short on (PayDue p) form fits = rw (lt-ltb p.bond (2 ^ 64) (omega arith), lt-ltb p.fund (2 ^ 64) (omega arith), lt-ltb p.dept (2 ^ 64) (omega arith), lt-ltb p.principal (2 ^ 64) (omega arith), lt-ltb p.interest (2 ^ 64) (omega arith))
own-short on (Leave (Earn a)) form fits = rw (lt-ltb a.fund (2 ^ 64) (omega arith), lt-ltb a.dept (2 ^ 64) (omega arith), lt-ltb a.amount (2 ^ 64) fits.2)
own-short on (Leave (Use a)) form fits = rw (lt-ltb a.fund (2 ^ 64) (omega arith), lt-ltb a.dept (2 ^ 64) (omega arith), lt-ltb a.amount (2 ^ 64) fits.2)
own-short on (Leave (Mature m)) form fits = rw (lt-ltb m.fund (2 ^ 64) (omega arith), lt-ltb m.dept (2 ^ 64) (omega arith), lt-ltb m.object (2 ^ 64) (omega arith), lt-ltb m.amount (2 ^ 64) fits.3)
own-short on (Interfund m) form fits = interfund-short m.what m.from m.to m.amount fits.0 fits.1 fits.2
own-short on (Close (period.Month m)) form fits = rw (month_ascii m)
own-short on (Close (period.Year y)) form fits = rw (lt-ltb y (2 ^ 64) (omega (arith, form.to)))
own-short on (Lease l) form fits = rw (lt-ltb l.vendor (2 ^ 64) (omega arith), lt-ltb l.account.fund (2 ^ 64) (omega arith), lt-ltb l.account.dept (2 ^ 64) (omega arith), lt-ltb l.account.object (2 ^ 64) (omega arith), lt-ltb l.account.amount (2 ^ 64) fits.1.3, lt-ltb l.terms.rate_bp (2 ^ 64) (omega arith), lt-ltb l.terms.every (2 ^ 64) (omega arith), items.items-short count IsN64 items.number-short l.terms.principals fits.2.2)

key_byte-ascii : (b : ℕ) → is_key_byte b ≡ true → nat_lt b 128 ≡ true
key_byte-ascii b h = let p = and_parts (nat_le 33 b) (nat_le b 126) h in lt-ltb b 128 (omega (arith, leb-true b 126 p.1))

pub key_bytes-ascii : (bs : List ℕ) → list_all is_key_byte bs ≡ true → are_ascii bs ≡ true
key_bytes-ascii [] h = refl
key_bytes-ascii (b ∷ bs) h = let p = and_parts (is_key_byte b) (list_all is_key_byte bs) h in rw (key_byte-ascii b p.0) (key_bytes-ascii bs p.1)

word-ascii : (a : Act) → are_ascii (call_word a) ≡ true
word-ascii (Adopt x) = refl
word-ascii _ = refl

first-short : (c : Change) → IsN16 c.desk → is_key c.key ≡ true → IsShort (first_fields c)
first-short c desk key =
    let p = and_parts (nat_le 1 (length c.key) && nat_le (length c.key) 40) (list_all is_key_byte c.key) key in
    rw (lt-ltb c.desk (2 ^ 64) (omega arith), key_bytes-ascii c.key p.1, day_ascii c.on, word-ascii c.act)

after-short : (after : Option ℕ) → HasFit IsN64 after → IsShort (optional_field (codes "after") after)
after-short None h = refl
after-short (Some n) h = rw (lt-ltb n (2 ^ 64) h)

short-append : (fs gs : List (List ℕ × Data)) → IsShort fs → IsShort gs → IsShort (fs ++ gs)
short-append [] gs h k = k
short-append (x ∷ fs) gs h k =
    let p = and_parts (are_ascii x.0 && can_read 2 x.1) (members_can_read 2 (members fs)) h in
    rw p.0 (short-append fs gs p.1 k)

pub call_data-short : (c : Change) → IsChangeInForm c → ChangeFits c → can_read 3 (call_data c) ≡ true
call_data-short c form fits =
    short-append (first_fields c) (own_fields c.act ++ optional_field (codes "after") c.after) (first-short c fits.desk form.key)
    (short-append (own_fields c.act) (optional_field (codes "after") c.after) (own-short c.on c.act form.act fits.act) (after-short c.after fits.after))
