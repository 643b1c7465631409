-- The payload of an entry in form has at most 43,576 bytes, which is the longest adoption.
use Rattle.std.proofs.Common.{◌≡◌, ℕ, ◌+◌, ◌*◌, ◌≤◌, true, List, [], ◌∷◌, length, Option, Some, None, refl, arith}
use Rattle.cf_base.proofs.Common.{nat_tests}
use Rattle.cf_base.specs.declared.calendar.Day.{Day}
use Rattle.cf_calls.specs.declared.acts.Act.{Act}
use Rattle.cf_calls.specs.declared.acts.Act.TheVariants.{Adopt, Amend, Transfer, Requisition, Withdraw, Order, ChangeOrder, CancelOrder, Voucher, VoidVoucher, Pay, Bill, Collect, Receive, WriteOff, Asset, Issue, PayDue, Leave, Interfund, Close, Lease}
use Rattle.cf_calls.specs.declared.acts.AssetAct.TheVariants.{Donate, Dispose}
use Rattle.cf_calls.specs.declared.acts.LeaveAct.TheVariants.{Earn, Use, Mature}
use Rattle.cf_calls.specs.declared.acts.Period.TheVariants as period
use Rattle.cf_calls.specs.declared.items.Charge.{Charge}
use Rattle.cf_calls.specs.declared.items.Charge.TheVariants.{Direct, OnOrder}
use Rattle.cf_calls.specs.declared.items.Liquidation.TheVariants.{Lesser, Recorded, Final}
use Rattle.cf_calls.specs.declared.entry.Drawn.{Drawn}
use Rattle.cf_calls.specs.declared.entry.Entry.{Entry}
use Rattle.cf_calls.specs.declared.kind.Draws.{Draws}
use Rattle.cf_calls.specs.declared.kind.Draws.TheVariants.{Nothing}
use Rattle.cf_calls.specs.Common.{is_key, IsActInForm, IsEntryInForm, draws_of}
use Rattle.cf_codec_fields.specs.Formats.{Format, each_size}
use Rattle.cf_codec_fields.specs.Fields.{word, most_amount}
use Rattle.cf_codec.specs.Acts.{line_amount, source_amount, account_item, charge, voucher_item, optional, act_size}
use Rattle.cf_codec.specs.Entries.{drawn_as, drawn_for, entry, payload}
use Rattle.cf_codec.proofs.Sizes.{entry_sized}
use Rattle.cf_journal.specs.Records.{HasRecord}
use Rattle.cf_journal_stream.specs.Streams.{HasFrame}

each_most : {A : Type 0} (f : Format A) (most : ℕ) → ((a : A) → f.size a ≤ most) → (xs : List A) → each_size f xs ≤ most * length xs
unfolding each_size
each_most f most within [] = omega arith
each_most f most within (x ∷ xs) = omega (arith, within x, each_most f most within xs)

charge_most : (c : Charge) → charge.size c ≤ 16
charge_most Direct = omega arith
charge_most (OnOrder i o Lesser) = omega arith
charge_most (OnOrder i o (Recorded r)) = omega arith
charge_most (OnOrder i o Final) = omega arith

optional_most : (o : Option ℕ) → optional.size o ≤ 5
optional_most None = omega arith
optional_most (Some n) = omega arith

act_most : (on : Day) (a : Act) → IsActInForm on a → act_size on a ≤ 43528
unfolding act_size
act_most on (Adopt a) form =
    omega (arith, form.few_lines, form.few_estimates, each_most line_amount 10 (λ i. omega arith) a.lines, each_most source_amount 10 (λ i. omega arith) a.estimates)
act_most on (Amend a) form = omega arith
act_most on (Transfer t) form = omega arith
act_most on (Requisition r) form = omega (arith, form.to, each_most account_item 14 (λ i. omega arith) r.items)
act_most on (Withdraw n) form = omega arith
act_most on (Order p) form = omega (arith, form.to, optional_most p.requisition, each_most account_item 14 (λ i. omega arith) p.items)
act_most on (ChangeOrder c) form = omega arith
act_most on (CancelOrder n) form = omega arith
act_most on (Voucher v) form = omega (arith, form.count.to, each_most voucher_item 30 (λ i. omega (arith, charge_most i.charge)) v.items)
act_most on (VoidVoucher n) form = omega arith
act_most on (Pay p) form = omega (arith, form.0.to, each_most word 4 (λ i. omega arith) p.vouchers)
act_most on (Bill l) form = omega arith
act_most on (Collect a) form = omega arith
act_most on (Receive a) form = omega arith
act_most on (WriteOff a) form = omega arith
act_most on (Asset (Donate d)) form = omega arith
act_most on (Asset (Dispose d)) form = omega arith
act_most on (Issue i) form = omega (arith, form.principals.to, each_most most_amount 8 (λ p. omega arith) i.terms.principals)
act_most on (PayDue p) form = omega arith
act_most on (Leave (Earn l)) form = omega arith
act_most on (Leave (Use l)) form = omega arith
act_most on (Leave (Mature m)) form = omega arith
act_most on (Interfund m) form = omega arith
act_most on (Close (period.Month m)) form = omega arith
act_most on (Close (period.Year y)) form = omega arith
act_most on (Lease l) form = omega (arith, form.terms.principals.to, each_most most_amount 8 (λ p. omega arith) l.terms.principals)

drawn_most : (k : Draws) (d : Drawn) → (drawn_as k).size d ≤ 8
drawn_most Nothing d = omega arith
drawn_most _ d = omega arith

key_most : (k : List ℕ) → is_key k ≡ true → length k ≤ 40
key_most k is = grind (arith, nat_tests)

-- an adoption draws nothing; this bound counts the longest act and the longest numbers apart
pub payload_most : (e : Entry) → IsEntryInForm e → length (payload e) ≤ 43584
payload_most e form =
    let size : entry.size e ≡ 1 + (2 + (1 + length e.change.key + (4 + (act_size e.change.on e.change.act + ((drawn_for e.change.act).size e.drawn + 0))))) = refl in
    omega (arith, entry_sized e, size, key_most e.change.key form.change.key, act_most e.change.on e.change.act form.change.act, drawn_most (draws_of e.change.act) e.drawn)

-- so an entry that a journal holds is one that a stream can hold
pub framed : (e : Entry) → HasRecord e → HasFrame e
framed e has = let few = payload_most e has.has.form in record { has = has; short = omega (arith, few) }
