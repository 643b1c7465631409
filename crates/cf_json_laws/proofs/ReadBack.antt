-- What is read of a receipt's or a bill's line is that call.
use Rattle.std.proofs.Common.{◌≡◌, ℕ, ◌^◌, ◌&&◌, true, cond, nat_le, length, List, Some, None, Ok, refl, ap, ◌∙◌, arith, lt-ltb}
use Rattle.cf_base.proofs.Common.{list_all, and_parts}
use Rattle.json.proofs.Printed.Utf8.{are_ascii}
use Rattle.serde_json.specs.Data.{Data}
use Rattle.serde_json.specs.Read.{read}
use Rattle.cf_calls.specs.declared.acts.Act.TheVariants.{Bill, Receive}
use Rattle.cf_calls.specs.declared.acts.NewBill.{NewBill}
use Rattle.cf_calls.specs.declared.call.Call.TheVariants as call
use Rattle.cf_calls.specs.declared.call.Change.{Change}
use Rattle.cf_calls.specs.declared.items.SourceAmount.{SourceAmount}
use Rattle.cf_calls.specs.Common.{IsChangeInForm, is_key, is_key_byte}
use Rattle.cf_json.specs.Calls.{call_in, call_of}
use Rattle.cf_json_members.specs.Objects.{text_of}
use Rattle.cf_json_calls.specs.CallText.{call_data}
use Rattle.cf_json_calls.specs.Fits.{ChangeFits}
use Rattle.cf_json_calls.proofs.Sorted.{sorted, can_read}
use Rattle.cf_json_calls.proofs.ReadBack.{read-compact_text, compact_text-utf8}
use Rattle.cf_json_calls.proofs.CallsBack.{object_call_of-call_data}
use Rattle.cf_json_calls.proofs.CallsShort.{key_bytes-ascii}
use Rattle.cf_json_calls.proofs.Days.{day_ascii}
use Rattle.cf_json_lines.specs.Lines.{Hand, change_of, receipt_data, bill_data}

-- data that sorts to a change's is read as that change
sorted-back : (c : Change) (d : Data) → IsChangeInForm c → ChangeFits c → can_read 3 d ≡ true → sorted d ≡ sorted (call_data c) → call_of (text_of d) ≡ Ok (call.Change c)
unfolding text_of
sorted-back c d form fits short same =
    ap (λ b. call_in (cond b (read (text_of d)) None)) (compact_text-utf8 3 d short)
    ∙ ap call_in (read-compact_text 3 d short (omega arith) ∙ ap (λ x. Some x) same)
    ∙ object_call_of-call_data c form fits

key-ascii : (key : List ℕ) → is_key key ≡ true → are_ascii key ≡ true
key-ascii key h = key_bytes-ascii key (and_parts (nat_le 1 (length key) && nat_le (length key) 40) (list_all is_key_byte key) h).1

receipt-short : (h : Hand) (r : SourceAmount) → IsChangeInForm (change_of h (Receive r)) → ChangeFits (change_of h (Receive r)) → can_read 3 (receipt_data h r) ≡ true
receipt-short h r form fits =
    rw (lt-ltb r.amount (2 ^ 64) fits.act.1, lt-ltb h.desk (2 ^ 64) (omega (arith, fits.desk)), key-ascii h.key form.key, day_ascii h.on, lt-ltb r.source (2 ^ 64) (omega (arith, fits.act.0))) refl

pub receipt-back : (h : Hand) (r : SourceAmount) → IsChangeInForm (change_of h (Receive r)) → ChangeFits (change_of h (Receive r))
    → call_of (text_of (receipt_data h r)) ≡ Ok (call.Change (change_of h (Receive r)))
receipt-back h r form fits = sorted-back (change_of h (Receive r)) (receipt_data h r) form fits (receipt-short h r form fits) refl

bill-short : (h : Hand) (b : NewBill) → IsChangeInForm (change_of h (Bill b)) → ChangeFits (change_of h (Bill b)) → can_read 3 (bill_data h b) ≡ true
bill-short h b form fits =
    rw (
      lt-ltb b.amount (2 ^ 64) fits.act.2,
      lt-ltb h.desk (2 ^ 64) (omega (arith, fits.desk)),
      key-ascii h.key form.key,
      lt-ltb b.levy_year (2 ^ 64) (omega (arith, form.act.to)),
      day_ascii h.on,
      lt-ltb b.payer (2 ^ 64) (omega (arith, fits.act.1)),
      lt-ltb b.source (2 ^ 64) (omega (arith, fits.act.0)),
    ) refl

pub bill-back : (h : Hand) (b : NewBill) → IsChangeInForm (change_of h (Bill b)) → ChangeFits (change_of h (Bill b))
    → call_of (text_of (bill_data h b)) ≡ Ok (call.Change (change_of h (Bill b)))
bill-back h b form fits = sorted-back (change_of h (Bill b)) (bill_data h b) form fits (bill-short h b form fits) refl
