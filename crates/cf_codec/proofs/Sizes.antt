-- The size of a value is the length of its bytes.
use Rattle.std.proofs.Common.{◌≡◌, ℕ, ◌+◌, Bool, List, [], ◌∷◌, ◌++◌, length, Option, Some, None, refl, arith, w16}
use Rattle.cf_base.proofs.Common.{length-append}
use Rattle.cf_base.specs.declared.calendar.Day.{Day}
use Rattle.cf_calls.specs.declared.acts.Act.{Act}
use Rattle.cf_calls.specs.declared.acts.Act.TheVariants.{Adopt, Requisition, Order, Voucher, Pay, Issue, Asset, Leave, Close, Lease}
use Rattle.cf_calls.specs.declared.acts.AssetAct.TheVariants.{Donate, Dispose}
use Rattle.cf_calls.specs.declared.acts.LeaveAct.TheVariants.{Earn, Use, Mature}
use Rattle.cf_calls.specs.declared.acts.Period.TheVariants as period
use Rattle.cf_calls.specs.declared.items.Charge.{Charge}
use Rattle.cf_calls.specs.declared.items.Charge.TheVariants.{Direct, OnOrder}
use Rattle.cf_calls.specs.declared.items.Liquidation.TheVariants.{Lesser, Recorded, Final}
use Rattle.cf_calls.specs.declared.entry.Drawn.{Drawn}
use Rattle.cf_calls.specs.declared.entry.Entry.{Entry}
use Rattle.cf_calls.specs.declared.kind.ActKind.{ActKind}
use Rattle.cf_calls.specs.declared.kind.Draws.{Draws}
use Rattle.cf_calls.specs.declared.kind.Draws.TheVariants.{Nothing}
use Rattle.cf_codec_fields.specs.Formats.{Format, number_bytes, kept, each_bytes, each_size, list, field, ◌>>=◌, done}
use Rattle.cf_codec_fields.specs.Fields.{byte, half, word, flag, year, amount, most_amount}
use Rattle.cf_calls.specs.Common.{draws_of, kind_of}
use Rattle.cf_codec_fields.specs.Kinds.{kind, kind_in}
use Rattle.cf_codec_fields.specs.Fields.{key}
use Rattle.cf_codec.specs.Acts.{line_amount, source_amount, account_item, charge, voucher_item, line_amounts, source_amounts, account_items, voucher_items, voucher_numbers, principals, adoption, new_requisition, optional, new_order, new_voucher, payment, terms, issue, lease, act_bytes, act_size, act_for}
use Rattle.cf_codec.specs.Entries.{drawn_as, drawn_for, on_for, entry, payload}

record IsSized {A : Type 0} (f : Format A) : Type 0 where
  len : (a : A) → length (f.bytes a) ≡ f.size a

both_sized : (a b : List ℕ) (m n : ℕ) → length a ≡ m → length b ≡ n → length (a ++ b) ≡ m + n
both_sized a b m n e f = omega (arith, length-append a b)

step_sized : {R A : Type 0} (get : R → A) (f : Format A) (next : A → Format R) → IsSized f → ((a : A) → IsSized (next a)) → IsSized (field get f >>= next)
step_sized get f next first others = record { len = λ r. both_sized (f.bytes (get r)) ((next (get r)).bytes r) (f.size (get r)) ((next (get r)).size r) (first.len (get r)) ((others (get r)).len r) }

done_sized : {R : Type 0} (made : R) → IsSized (done made)
done_sized made = record { len = λ r. refl }

each_sized : {A : Type 0} (f : Format A) → IsSized f → (xs : List A) → length (each_bytes f xs) ≡ each_size f xs
unfolding each_bytes each_size
each_sized f sized [] = refl
each_sized f sized (x ∷ xs) = both_sized (f.bytes x) (each_bytes f xs) (f.size x) (each_size f xs) (sized.len x) (each_sized f sized xs)

half_sized : IsSized half
unfolding number_bytes
half_sized = record { len = λ n. refl }

kept_sized : {A : Type 0} (test : A → Bool) (f : Format A) → IsSized f → IsSized (kept test f)
kept_sized test f sized = record { len = sized.len }

list_sized : {A : Type 0} (least most : ℕ) (f : Format A) → IsSized f → IsSized (list least most f)
list_sized least most f sized = record { len = λ xs. both_sized (number_bytes w16 (length xs)) (each_bytes f xs) 2 (each_size f xs) (half_sized.len (length xs)) (each_sized f sized xs) }

word_sized : IsSized word
unfolding number_bytes
word_sized = record { len = λ n. refl }

flag_sized : IsSized flag
unfolding number_bytes
flag_sized = record { len = λ n. refl }

amount_sized : IsSized amount
unfolding number_bytes
amount_sized = record { len = λ n. refl }

most_amount_sized : IsSized most_amount
unfolding number_bytes
most_amount_sized = record { len = λ n. refl }

line_amount_sized : IsSized line_amount
unfolding number_bytes
line_amount_sized = record { len = λ i. refl }

source_amount_sized : IsSized source_amount
unfolding number_bytes
source_amount_sized = record { len = λ i. refl }

account_item_sized : IsSized account_item
unfolding number_bytes
account_item_sized = record { len = λ i. refl }

charge_len : (c : Charge) → length (charge.bytes c) ≡ charge.size c
unfolding number_bytes
charge_len Direct = refl
charge_len (OnOrder i o Lesser) = refl
charge_len (OnOrder i o (Recorded r)) = refl
charge_len (OnOrder i o Final) = refl

charge_sized : IsSized charge
charge_sized = record { len = charge_len }

voucher_item_sized : IsSized voucher_item
voucher_item_sized = step_sized (λ i. i.account) account_item _ account_item_sized (λ account. step_sized (λ i. i.charge) charge _ charge_sized (λ charge. done_sized _))

optional_len : (o : Option ℕ) → length (optional.bytes o) ≡ optional.size o
unfolding number_bytes
optional_len None = refl
optional_len (Some n) = refl

optional_sized : IsSized optional
optional_sized = record { len = optional_len }

adoption_sized : IsSized adoption
adoption_sized =
    step_sized (λ a. a.fund) half _ half_sized (λ fund. step_sized (λ a. a.year) year _ (kept_sized _ half half_sized) (λ year.
    step_sized (λ a. a.lines) line_amounts _ (kept_sized _ _ (list_sized 0 4096 line_amount line_amount_sized)) (λ lines.
    step_sized (λ a. a.estimates) source_amounts _ (kept_sized _ _ (list_sized 0 256 source_amount source_amount_sized)) (λ estimates. done_sized _))))

new_requisition_sized : IsSized new_requisition
new_requisition_sized = step_sized (λ r. r.items) account_items _ (list_sized 1 32 account_item account_item_sized) (λ items. done_sized _)

new_order_sized : IsSized new_order
new_order_sized =
    step_sized (λ p. p.vendor) word _ word_sized (λ vendor. step_sized (λ p. p.requisition) optional _ optional_sized (λ requisition.
    step_sized (λ p. p.items) account_items _ (list_sized 1 32 account_item account_item_sized) (λ items. done_sized _)))

new_voucher_sized : IsSized new_voucher
new_voucher_sized =
    step_sized (λ i. i.vendor) word _ word_sized (λ vendor. step_sized (λ i. i.back) flag _ flag_sized (λ back.
    step_sized (λ i. i.items) voucher_items _ (kept_sized _ _ (list_sized 1 32 voucher_item voucher_item_sized)) (λ items. done_sized _)))

payment_sized : IsSized payment
payment_sized = step_sized (λ p. p.vouchers) voucher_numbers _ (kept_sized _ _ (list_sized 1 64 word word_sized)) (λ vouchers. done_sized _)

byte_sized : IsSized byte
unfolding number_bytes
byte_sized = record { len = λ n. refl }

terms_sized : (on : Day) (above amount : ℕ) → IsSized (terms on above amount)
terms_sized on above amount =
    step_sized (λ t. t.rate_bp) _ _ (kept_sized _ half half_sized) (λ rate. step_sized (λ t. t.every) _ _ (kept_sized _ byte byte_sized) (λ every.
    step_sized (λ t. t.principals) (principals on above amount every) _ (kept_sized _ _ (list_sized 1 120 most_amount most_amount_sized)) (λ principals. done_sized _)))

issue_sized : (on : Day) → IsSized (issue on)
issue_sized on =
    step_sized (λ i. i.fund) half _ half_sized (λ fund. step_sized (λ i. i.amount) amount _ amount_sized (λ amount.
    step_sized (λ i. i.terms) (terms on 0 amount) _ (terms_sized on 0 amount) (λ terms. done_sized _)))

lease_sized : (on : Day) → IsSized (lease on)
lease_sized on =
    step_sized (λ l. l.vendor) word _ word_sized (λ vendor. step_sized (λ l. l.account) account_item _ account_item_sized (λ account.
    step_sized (λ l. l.terms) (terms on 12 account.amount) _ (terms_sized on 12 account.amount) (λ terms. done_sized _)))

act_sized : (on : Day) (a : Act) → length (act_bytes on a) ≡ act_size on a
unfolding number_bytes act_bytes act_size
act_sized on (Adopt a) = adoption_sized.len a
act_sized on (Requisition r) = new_requisition_sized.len r
act_sized on (Order p) = new_order_sized.len p
act_sized on (Voucher i) = new_voucher_sized.len i
act_sized on (Pay p) = payment_sized.len p
act_sized on (Issue i) = (issue_sized on).len i
act_sized on (Lease l) = (lease_sized on).len l
act_sized on (Asset (Donate d)) = refl
act_sized on (Asset (Dispose d)) = refl
act_sized on (Leave (Earn a)) = refl
act_sized on (Leave (Use a)) = refl
act_sized on (Leave (Mature m)) = refl
act_sized on (Close (period.Month m)) = refl
act_sized on (Close (period.Year y)) = refl
act_sized on _ = refl

drawn_len : (k : Draws) (d : Drawn) → length ((drawn_as k).bytes d) ≡ (drawn_as k).size d
unfolding number_bytes
drawn_len Nothing d = refl
drawn_len _ d = refl

on_sized : (k : ActKind) → IsSized (on_for k)
unfolding number_bytes
on_sized k = record { len = λ d. refl }

act_for_sized : (k : ActKind) (on : Day) → IsSized (act_for k on)
act_for_sized k on = record { len = act_sized on }

drawn_sized : (a : Act) → IsSized (drawn_for a)
drawn_sized a = record { len = drawn_len (draws_of a) }

kind_sized : IsSized kind
unfolding number_bytes
kind_sized = record { len = λ k. refl }

key_sized : IsSized key
key_sized = record { len = λ k. omega arith }

whole_sized : IsSized entry
whole_sized =
    step_sized (λ e. kind_of e.change.act) (kind_in 2) _ (kept_sized _ kind kind_sized) (λ k. step_sized (λ e. e.change.desk) half _ half_sized (λ desk.
    step_sized (λ e. e.change.key) key _ key_sized (λ key. step_sized (λ e. e.change.on) (on_for k) _ (on_sized k) (λ on.
    step_sized (λ e. e.change.act) (act_for k on) _ (act_for_sized k on) (λ act. step_sized (λ e. e.drawn) (drawn_for act) _ (drawn_sized act) (λ drawn. done_sized _))))))

pub entry_sized : (e : Entry) → length (payload e) ≡ entry.size e
unfolding payload
entry_sized = whole_sized.len
