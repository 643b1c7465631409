-- The fields of each act are exact, and with them those of any act.
use Rattle.std.proofs.Common.{◌≡◌, ◌≢◌, ℕ, zero, suc, ◌+◌, ◌*◌, ◌<◌, ◌≤◌, Bool, true, false, cond, leb, eqb, not, List, [], ◌∷◌, ◌++◌, length, Option, Some, None, option_map, Result, Ok, Err, ℤ, pos, negsuc, refl, sym, ap, subst, ◌∙◌, append_assoc, arith, nat_le, inl, inr, find, is_some, unwrap_or, unsigned_abs}
use Rattle.std.specs.Prelude.{⊤}
use Rattle.cf_base.proofs.Common.{AllByRecursion, list_all, common_steps, leb-true, le-leb, lt-ltb, and_parts, eqb-true, eqb-false, ne_eqb, not-true, length-append}
use Rattle.cf_base.specs.Common.{most_cents, is_amount}
use Rattle.cf_base.specs.declared.calendar.Day.{Day}
use Rattle.cf_calls.specs.declared.acts.Act.{Act}
use Rattle.cf_calls.specs.declared.acts.Act.TheVariants.{Adopt, Amend, Transfer, Requisition, Withdraw, Order, ChangeOrder, CancelOrder, Voucher, VoidVoucher, Pay, Bill, Collect, Receive, WriteOff, Asset, Issue, PayDue, Leave, Interfund, Close, Lease}
use Rattle.cf_calls.specs.declared.acts.FundMoveKind.{FundMoveKind}
use Rattle.cf_calls.specs.declared.acts.FundMoveKind.TheVariants as move
use Rattle.cf_calls.specs.declared.acts.AssetAct.{AssetAct}
use Rattle.cf_calls.specs.declared.acts.AssetAct.TheVariants.{Donate, Dispose}
use Rattle.cf_calls.specs.declared.acts.LeaveAct.{LeaveAct}
use Rattle.cf_calls.specs.declared.acts.LeaveAct.TheVariants.{Earn, Use, Mature}
use Rattle.cf_calls.specs.declared.acts.Period.{Period}
use Rattle.cf_calls.specs.declared.acts.Period.TheVariants as period
use Rattle.cf_calls.specs.declared.acts.Terms.{Terms}
use Rattle.cf_calls.specs.Common.{IsYear, IsCount, IsAdoptionForm, IsTermsForm, IsLeaseForm, IsVoucherForm, IsPeriodForm, IsActInForm, IsWithinLimits, is_by, is_distinct, is_most, is_period, same_line, same_source, same_number, kind_of, kind_value, kind_code}
use Rattle.cf_calls.specs.declared.kind.ActKind.{ActKind}
use Rattle.cf_calls.specs.declared.kind.ActKind.TheVariants as kind
use Rattle.cf_codec_fields.specs.Formats.{Format, and_then, kept}
use Rattle.cf_codec_fields.specs.Fields.{byte, half, word, one_of, flag, year, amount, most_amount, signed, month}
use Rattle.cf_calls.proofs.KindsFound.{by_code, code_is}
use Rattle.cf_codec_fields.specs.Kinds.{value_in, kind, moves, move_value, move_code, move_kind}
use Rattle.cf_codec.specs.Acts.{source_amount, account_item, line_amounts, source_amounts, account_items, voucher_items, voucher_numbers, principals, adoption, amendment, other_than, transfer, new_requisition, optional_by, optional, new_order, order_change, new_voucher, payment, new_bill, bill_amount, donation, disposal, terms, issue, lease, debt_payment, leave_amount, maturity, fund_move, made, asset_act_by, asset_act, leave_act_by, leave_act, period_by, closed_period, act_bytes, act_fits, act_at, act_for}
use Rattle.cf_codec_fields.proofs.Exact.{IsBytes, Takes, IsExact, IsWhole, Any, step, last, same, ok_is, then_ok, then_err, kept-exact, converted-exact}
use Rattle.cf_codec_fields.proofs.FieldsExact.{byte-exact, half-exact, word-exact, one_of-exact, flag-exact, year-exact, amount-exact, most_amount-exact, signed-exact, month-exact}
use Rattle.cf_codec.proofs.ItemsExact.{source_amount-exact, account_item-exact, IsDistinctList, line_amounts-exact, source_amounts-exact, account_items-exact, voucher_items-exact, voucher_numbers-exact, IsRepaymentList, principals-exact}

-- ---- numbers with names

move_to : (k : FundMoveKind) → move_value (move_code k) ≡ Some k
unfolding move_value
move_to move.Transfer = refl
move_to move.Loan = refl
move_to move.Repay = refl

value_by : {A : Type 0} (code : A → ℕ) (p : ℕ × A) (table : List (ℕ × A)) (n : ℕ) (a : A) (b : Bool) → code p.1 ≡ p.0 → (value_in table n ≡ Some a → code a ≡ n) → eqb n p.0 ≡ b
    → option_map (λ (q : ℕ × A). q.1) (cond b (Some p) (find (λ q. eqb n q.0) table)) ≡ Some a → code a ≡ n
value_by code p table n a true here later t e = let same : p.1 ≡ a = cc in rw (← same) (here ∙ sym (eqb-true n p.0 t))
value_by code p table n a false here later t e = later e

-- a table that lists each value at its number
value_from : {A : Type 0} (code : A → ℕ) (table : List (ℕ × A)) → AllByRecursion (λ p. code p.1 ≡ p.0) table → (n : ℕ) (a : A) → value_in table n ≡ Some a → code a ≡ n
value_from code [] listed n a e = absurd cc
value_from code (p ∷ table) listed n a e = value_by code p table n a (eqb n p.0) listed.0 (λ f. value_from code table listed.1 n a f) refl e

move_from : (n : ℕ) (k : FundMoveKind) → move_value n ≡ Some k → move_code k ≡ n
unfolding move_value
move_from = value_from move_code moves (refl, (refl, (refl, tt)))

move_kind-exact : IsWhole move_kind Any
move_kind-exact = converted-exact move_value move_code byte Any Any byte-exact (λ k fits form. (move_to k, tt)) (λ n k fits form e. (move_from n k e, tt))

pub kind-exact : IsWhole kind Any
kind-exact = converted-exact kind_value kind_code byte Any Any byte-exact (λ k fits form. (by_code k, tt)) (λ n k fits form e. (code_is n k e, tt))

-- ---- fields with a rule

by_is : (z : ℤ) → is_amount (unsigned_abs z) ≡ true → is_by z ≡ true
by_is (pos n) e = refl
by_is (negsuc n) e = let most : suc n ≤ most_cents = leb-true (suc n) most_cents (and_parts (leb 1 (suc n)) (leb (suc n) most_cents) e).1 in lt-ltb n 9223372036854775807 (omega arith)

other_than-exact : (n : ℕ) → IsWhole (other_than n) (λ m. n ≢ m)
other_than-exact n =
    same (other_than n) Any _ _ (kept-exact (λ m. not (eqb n m)) half Any half-exact)
    (λ m known fits form. (tt, ap not (ne_eqb n m form)))
    (λ m known fits form. eqb-false n m (not-true (eqb n m) form.1))

abbrev IsThere : Bool → Option ℕ → Type 0
IsThere b o = ⊤ × (b ≡ is_some o)

none_is : (o : Option ℕ) → false ≡ is_some o → None ≡ o
none_is None e = refl
none_is (Some n) e = absurd cc

some_is : (n : ℕ) (o : Option ℕ) → true ≡ is_some o → n ≡ unwrap_or o 0 → Some n ≡ o
some_is n None e f = absurd cc
some_is n (Some m) e f = ap Some f

optional_by-exact : (b : Bool) → IsExact (optional_by b) (IsThere b) Any
optional_by-exact false = last None (IsThere false) (tt, refl) (λ o known. none_is o known.1)
optional_by-exact true =
    same (optional_by true) (IsThere true) _ Any
    (step (λ o. unwrap_or o 0) word _ Any (IsThere true) _ word-exact (λ n fits form.
    last (Some n) _ ((tt, refl), refl) (λ o known. some_is n o known.0.1 known.1)))
    (λ o known fits form. (tt, tt)) (λ o known fits form. tt)

optional-exact : IsWhole optional Any
optional-exact =
    same optional Any _ _ (step is_some flag optional_by Any Any (λ b. Any) flag-exact (λ b fits form. optional_by-exact b))
    (λ o known fits form. (tt, tt)) (λ o known fits form. tt)

-- ---- the acts

pub adoption-exact : IsWhole adoption (λ a. IsAdoptionForm a × IsWithinLimits (Adopt a))
adoption-exact =
    same adoption Any _ _
    (step (λ r. r.fund) half _ Any Any _ half-exact (λ fund fits form.
    step (λ r. r.year) year _ IsYear _ _ year-exact (λ year fits form.
    step (λ r. r.lines) line_amounts _ (λ xs. IsDistinctList same_line (λ x. is_amount x.amount) 0 4096 xs) _ _ line_amounts-exact (λ lines fits form.
    step (λ r. r.estimates) source_amounts _ (λ xs. IsDistinctList same_source (λ x. is_amount x.amount) 0 256 xs) _ _ source_amounts-exact (λ estimates fits form.
    last (record { fund = fund; year = year; lines = lines; estimates = estimates }) _ ((((tt, refl), refl), refl), refl) (λ r known. λ i. record { fund = known.0.0.0.1 i; year = known.0.0.1 i; lines = known.0.1 i; estimates = known.1 i }))))))
    (λ r known fits form. (tt, (form.0.year, (record { count = record { from = omega arith; to = form.0.few_lines }; apart = form.0.lines; pass = form.1.0 }, (record { count = record { from = omega arith; to = form.0.few_estimates }; apart = form.0.estimates; pass = form.1.1 }, tt)))))
    (λ r known fits form. let lines = form.1.1.0 in let estimates = form.1.1.1.0 in (record { year = form.1.0; few_lines = lines.count.to; lines = lines.apart; few_estimates = estimates.count.to; estimates = estimates.apart }, (lines.pass, estimates.pass)))

pub amendment-exact : IsWhole amendment (λ a. (IsYear a.year × (is_by a.by ≡ true)) × (is_amount (unsigned_abs a.by) ≡ true))
amendment-exact =
    same amendment Any _ _
    (step (λ r. r.fund) half _ Any Any _ half-exact (λ fund fits form.
    step (λ r. r.year) year _ IsYear _ _ year-exact (λ year fits form.
    step (λ r. r.line) half _ Any _ _ half-exact (λ line fits form.
    step (λ r. r.by) signed _ (λ z. is_amount (unsigned_abs z) ≡ true) _ _ signed-exact (λ by fits form.
    last (record { fund = fund; year = year; line = line; by = by }) _ ((((tt, refl), refl), refl), refl) (λ r known. λ i. record { fund = known.0.0.0.1 i; year = known.0.0.1 i; line = known.0.1 i; by = known.1 i }))))))
    (λ r known fits form. (tt, (form.0.0, (tt, (form.1, tt)))))
    (λ r known fits form. ((form.1.0, by_is r.by form.1.1.1.0), form.1.1.1.0))

pub transfer-exact : IsWhole transfer (λ t. (IsYear t.year × (t.from ≢ t.to)) × (is_amount t.amount ≡ true))
transfer-exact =
    same transfer Any _ _
    (step (λ r. r.fund) half _ Any Any _ half-exact (λ fund fits form.
    step (λ r. r.year) year _ IsYear _ _ year-exact (λ year fits form.
    step (λ r. r.from) half _ Any _ _ half-exact (λ from fits form.
    step (λ r. r.to) (other_than from) _ (λ n. from ≢ n) _ _ (other_than-exact from) (λ to fits form.
    step (λ r. r.amount) amount _ (λ n. is_amount n ≡ true) _ _ amount-exact (λ amount fits form.
    last (record { fund = fund; year = year; from = from; to = to; amount = amount }) _ (((((tt, refl), refl), refl), refl), refl) (λ r known. λ i. record { fund = known.0.0.0.0.1 i; year = known.0.0.0.1 i; from = known.0.0.1 i; to = known.0.1 i; amount = known.1 i })))))))
    (λ r known fits form. (tt, (form.0.0, (tt, (form.0.1, (form.1, tt))))))
    (λ r known fits form. ((form.1.0, form.1.1.1.0), form.1.1.1.1.0))

pub new_requisition-exact : IsWhole new_requisition (λ r. IsCount 1 32 (length r.items) × (list_all (λ x. is_amount x.amount) r.items ≡ true))
new_requisition-exact =
    same new_requisition Any _ _
    (step (λ r. r.items) account_items _ (λ xs. IsCount 1 32 (length xs) × (list_all (λ x. is_amount x.amount) xs ≡ true)) Any _ account_items-exact (λ items fits form.
    last (record { items = items }) _ (tt, refl) (λ r known. λ i. record { items = known.1 i })))
    (λ r known fits form. (form, tt))
    (λ r known fits form. form.0)

pub new_order-exact : IsWhole new_order (λ p. IsCount 1 32 (length p.items) × (list_all (λ x. is_amount x.amount) p.items ≡ true))
new_order-exact =
    same new_order Any _ _
    (step (λ r. r.vendor) word _ Any Any _ word-exact (λ vendor fits form.
    step (λ r. r.requisition) optional _ Any _ _ optional-exact (λ requisition fits form.
    step (λ r. r.items) account_items _ (λ xs. IsCount 1 32 (length xs) × (list_all (λ x. is_amount x.amount) xs ≡ true)) _ _ account_items-exact (λ items fits form.
    last (record { vendor = vendor; requisition = requisition; items = items }) _ (((tt, refl), refl), refl) (λ r known. λ i. record { vendor = known.0.0.1 i; requisition = known.0.1 i; items = known.1 i })))))
    (λ r known fits form. (tt, (tt, (form, tt))))
    (λ r known fits form. form.1.1.0)

pub order_change-exact : IsWhole order_change (λ c. ((1 ≤ c.item) × (is_by c.by ≡ true)) × (is_amount (unsigned_abs c.by) ≡ true))
order_change-exact =
    same order_change Any _ _
    (step (λ r. r.order) word _ Any Any _ word-exact (λ order fits form.
    step (λ r. r.item) (kept (nat_le 1) half) _ (λ n. ⊤ × (nat_le 1 n ≡ true)) _ _ (kept-exact (nat_le 1) half Any half-exact) (λ place fits form.
    step (λ r. r.fund) half _ Any _ _ half-exact (λ fund fits form.
    step (λ r. r.dept) half _ Any _ _ half-exact (λ dept fits form.
    step (λ r. r.object) half _ Any _ _ half-exact (λ object fits form.
    step (λ r. r.by) signed _ (λ z. is_amount (unsigned_abs z) ≡ true) _ _ signed-exact (λ by fits form.
    last (record { order = order; item = place; fund = fund; dept = dept; object = object; by = by }) _ ((((((tt, refl), refl), refl), refl), refl), refl) (λ r known. λ i. record { order = known.0.0.0.0.0.1 i; item = known.0.0.0.0.1 i; fund = known.0.0.0.1 i; dept = known.0.0.1 i; object = known.0.1 i; by = known.1 i }))))))))
    (λ r known fits form. (tt, ((tt, le-leb 1 r.item form.0.0), (tt, (tt, (tt, (form.1, tt)))))))
    (λ r known fits form. ((leb-true 1 r.item form.1.0.1, by_is r.by form.1.1.1.1.1.0), form.1.1.1.1.1.0))

pub new_voucher-exact : IsWhole new_voucher (λ i. IsVoucherForm i.items × (list_all (λ x. is_amount x.account.amount) i.items ≡ true))
new_voucher-exact =
    same new_voucher Any _ _
    (step (λ r. r.vendor) word _ Any Any _ word-exact (λ vendor fits form.
    step (λ r. r.back) flag _ Any _ _ flag-exact (λ back fits form.
    step (λ r. r.items) voucher_items _ (λ xs. IsVoucherForm xs × (list_all (λ x. is_amount x.account.amount) xs ≡ true)) _ _ voucher_items-exact (λ items fits form.
    last (record { vendor = vendor; back = back; items = items }) _ (((tt, refl), refl), refl) (λ r known. λ i. record { vendor = known.0.0.1 i; back = known.0.1 i; items = known.1 i })))))
    (λ r known fits form. (tt, (tt, (form, tt))))
    (λ r known fits form. form.1.1.0)

pub payment-exact : IsWhole payment (λ p. IsCount 1 64 (length p.vouchers) × (is_distinct same_number p.vouchers ≡ true))
payment-exact =
    same payment Any _ _
    (step (λ r. r.vouchers) voucher_numbers _ (λ xs. IsCount 1 64 (length xs) × (is_distinct same_number xs ≡ true)) Any _ voucher_numbers-exact (λ vouchers fits form.
    last (record { vouchers = vouchers }) _ (tt, refl) (λ r known. λ i. record { vouchers = known.1 i })))
    (λ r known fits form. (form, tt))
    (λ r known fits form. form.0)

pub new_bill-exact : IsWhole new_bill (λ l. IsYear l.levy_year × (is_amount l.amount ≡ true))
new_bill-exact =
    same new_bill Any _ _
    (step (λ r. r.source) half _ Any Any _ half-exact (λ source fits form.
    step (λ r. r.levy_year) year _ IsYear _ _ year-exact (λ levy_year fits form.
    step (λ r. r.payer) word _ Any _ _ word-exact (λ payer fits form.
    step (λ r. r.amount) amount _ (λ n. is_amount n ≡ true) _ _ amount-exact (λ amount fits form.
    last (record { source = source; levy_year = levy_year; payer = payer; amount = amount }) _ ((((tt, refl), refl), refl), refl) (λ r known. λ i. record { source = known.0.0.0.1 i; levy_year = known.0.0.1 i; payer = known.0.1 i; amount = known.1 i }))))))
    (λ r known fits form. (tt, (form.0, (tt, (form.1, tt)))))
    (λ r known fits form. (form.1.0, form.1.1.1.0))

pub bill_amount-exact : IsWhole bill_amount (λ a. is_amount a.amount ≡ true)
bill_amount-exact =
    same bill_amount Any _ _
    (step (λ r. r.bill) word _ Any Any _ word-exact (λ bill fits form.
    step (λ r. r.amount) amount _ (λ n. is_amount n ≡ true) _ _ amount-exact (λ amount fits form.
    last (record { bill = bill; amount = amount }) _ ((tt, refl), refl) (λ r known. λ i. record { bill = known.0.1 i; amount = known.1 i }))))
    (λ r known fits form. (tt, (form, tt)))
    (λ r known fits form. form.1.0)

pub donation-exact : IsWhole donation (λ d. is_amount d.amount ≡ true)
donation-exact =
    same donation Any _ _
    (step (λ r. r.dept) half _ Any Any _ half-exact (λ dept fits form.
    step (λ r. r.object) half _ Any _ _ half-exact (λ object fits form.
    step (λ r. r.amount) amount _ (λ n. is_amount n ≡ true) _ _ amount-exact (λ amount fits form.
    last (record { dept = dept; object = object; amount = amount }) _ (((tt, refl), refl), refl) (λ r known. λ i. record { dept = known.0.0.1 i; object = known.0.1 i; amount = known.1 i })))))
    (λ r known fits form. (tt, (tt, (form, tt))))
    (λ r known fits form. form.1.1.0)

pub disposal-exact : IsWhole disposal (λ d. is_most d.proceeds ≡ true)
disposal-exact =
    same disposal Any _ _
    (step (λ r. r.asset) word _ Any Any _ word-exact (λ asset fits form.
    step (λ r. r.fund) half _ Any _ _ half-exact (λ fund fits form.
    step (λ r. r.proceeds) most_amount _ (λ n. is_most n ≡ true) _ _ most_amount-exact (λ proceeds fits form.
    last (record { asset = asset; fund = fund; proceeds = proceeds }) _ (((tt, refl), refl), refl) (λ r known. λ i. record { asset = known.0.0.1 i; fund = known.0.1 i; proceeds = known.1 i })))))
    (λ r known fits form. (tt, (tt, (form, tt))))
    (λ r known fits form. form.1.1.0)

pub debt_payment-exact : IsWhole debt_payment Any
debt_payment-exact =
    same debt_payment Any _ _
    (step (λ r. r.bond) word _ Any Any _ word-exact (λ bond fits form.
    step (λ r. r.fund) half _ Any _ _ half-exact (λ fund fits form.
    step (λ r. r.dept) half _ Any _ _ half-exact (λ dept fits form.
    step (λ r. r.principal) half _ Any _ _ half-exact (λ principal fits form.
    step (λ r. r.interest) half _ Any _ _ half-exact (λ interest fits form.
    last (record { bond = bond; fund = fund; dept = dept; principal = principal; interest = interest }) _ (((((tt, refl), refl), refl), refl), refl) (λ r known. λ i. record { bond = known.0.0.0.0.1 i; fund = known.0.0.0.1 i; dept = known.0.0.1 i; principal = known.0.1 i; interest = known.1 i })))))))
    (λ r known fits form. (tt, (tt, (tt, (tt, (tt, tt))))))
    (λ r known fits form. tt)

pub leave_amount-exact : IsWhole leave_amount (λ a. is_amount a.amount ≡ true)
leave_amount-exact =
    same leave_amount Any _ _
    (step (λ r. r.fund) half _ Any Any _ half-exact (λ fund fits form.
    step (λ r. r.dept) half _ Any _ _ half-exact (λ dept fits form.
    step (λ r. r.amount) amount _ (λ n. is_amount n ≡ true) _ _ amount-exact (λ amount fits form.
    last (record { fund = fund; dept = dept; amount = amount }) _ (((tt, refl), refl), refl) (λ r known. λ i. record { fund = known.0.0.1 i; dept = known.0.1 i; amount = known.1 i })))))
    (λ r known fits form. (tt, (tt, (form, tt))))
    (λ r known fits form. form.1.1.0)

pub maturity-exact : IsWhole maturity (λ m. is_amount m.amount ≡ true)
maturity-exact =
    same maturity Any _ _
    (step (λ r. r.fund) half _ Any Any _ half-exact (λ fund fits form.
    step (λ r. r.dept) half _ Any _ _ half-exact (λ dept fits form.
    step (λ r. r.object) half _ Any _ _ half-exact (λ object fits form.
    step (λ r. r.amount) amount _ (λ n. is_amount n ≡ true) _ _ amount-exact (λ amount fits form.
    last (record { fund = fund; dept = dept; object = object; amount = amount }) _ ((((tt, refl), refl), refl), refl) (λ r known. λ i. record { fund = known.0.0.0.1 i; dept = known.0.0.1 i; object = known.0.1 i; amount = known.1 i }))))))
    (λ r known fits form. (tt, (tt, (tt, (form, tt)))))
    (λ r known fits form. form.1.1.1.0)

pub fund_move-exact : IsWhole fund_move (λ m. (m.from ≢ m.to) × (is_amount m.amount ≡ true))
fund_move-exact =
    same fund_move Any _ _
    (step (λ r. r.what) move_kind _ Any Any _ move_kind-exact (λ what fits form.
    step (λ r. r.from) half _ Any _ _ half-exact (λ from fits form.
    step (λ r. r.to) (other_than from) _ (λ n. from ≢ n) _ _ (other_than-exact from) (λ to fits form.
    step (λ r. r.amount) amount _ (λ n. is_amount n ≡ true) _ _ amount-exact (λ amount fits form.
    last (record { what = what; from = from; to = to; amount = amount }) _ ((((tt, refl), refl), refl), refl) (λ r known. λ i. record { what = known.0.0.0.1 i; from = known.0.0.1 i; to = known.0.1 i; amount = known.1 i }))))))
    (λ r known fits form. (tt, (tt, (form.0, (form.1, tt)))))
    (λ r known fits form. (form.1.1.0, form.1.1.1.0))

-- the terms of a debt of this amount, whose term is above so many months
record AreTerms (on : Day) (above amount : ℕ) (t : Terms) : Type 0 where
  form : IsTermsForm on amount t
  most : list_all is_most t.principals ≡ true
  term : above < t.every * length t.principals

terms-exact : (on : Day) → on.day ≤ 28 → (above amount : ℕ) → IsWhole (terms on above amount) (AreTerms on above amount)
terms-exact on day above amount =
    same (terms on above amount) Any _ _
    (step (λ t. t.rate_bp) (kept (λ n. nat_le n 10000) half) _ (λ n. ⊤ × (nat_le n 10000 ≡ true)) Any _ (kept-exact (λ n. nat_le n 10000) half Any half-exact) (λ rate_bp fits form.
    step (λ t. t.every) (kept is_period byte) _ (λ n. ⊤ × (is_period n ≡ true)) _ _ (kept-exact is_period byte Any byte-exact) (λ every fits form.
    step (λ t. t.principals) (principals on above amount every) _ (λ xs. IsRepaymentList on above amount every xs) _ _ (principals-exact on above amount every) (λ principals fits form.
    last (record { rate_bp = rate_bp; every = every; principals = principals }) _ (((tt, refl), refl), refl) (λ t known. λ i. record { rate_bp = known.0.0.1 i; every = known.0.1 i; principals = known.1 i })))))
    (λ t known fits is. let f = is.form in ((tt, le-leb t.rate_bp 10000 f.rate), ((tt, f.every), (record { count = f.principals; most = is.most; total = f.total; term = is.term; last_due = f.last_due }, tt))))
    (λ t known fits form.
    let list = form.1.1.0 in
    record {
      form = record { day = day; rate = leb-true t.rate_bp 10000 form.0.1; every = form.1.0.1; principals = list.count; total = list.total; last_due = list.last_due };
      most = list.most;
      term = list.term;
    })

-- a payment at least comes at least a month on
some_term : (every count : ℕ) → is_period every ≡ true → 1 ≤ count → 0 < every * count
some_term every zero e l = elim l [ ]
some_term every (suc count) e l = grind (arith, common_steps)

pub issue-exact : (on : Day) → on.day ≤ 28 → IsWhole (issue on) (λ i. IsTermsForm on i.amount i.terms × ((is_amount i.amount ≡ true) × (list_all is_most i.terms.principals ≡ true)))
issue-exact on day =
    same (issue on) Any _ _
    (step (λ r. r.fund) half _ Any Any _ half-exact (λ fund fits form.
    step (λ r. r.amount) amount _ (λ n. is_amount n ≡ true) _ _ amount-exact (λ amount fits form.
    step (λ r. r.terms) (terms on 0 amount) _ (AreTerms on 0 amount) _ _ (terms-exact on day 0 amount) (λ terms fits form.
    last (record { fund = fund; amount = amount; terms = terms }) _ (((tt, refl), refl), refl) (λ r known. λ i. record { fund = known.0.0.1 i; amount = known.0.1 i; terms = known.1 i })))))
    (λ r known fits form. (tt, (form.1.0, (record { form = form.0; most = form.1.1; term = some_term r.terms.every (length r.terms.principals) form.0.every form.0.principals.from }, tt))))
    (λ r known fits form. let is = form.1.1.0 in (is.form, (form.1.0, is.most)))

pub lease-exact : (on : Day) → on.day ≤ 28 → IsWhole (lease on) (λ l. IsLeaseForm on l × ((is_amount l.account.amount ≡ true) × (list_all is_most l.terms.principals ≡ true)))
lease-exact on day =
    same (lease on) Any _ _
    (step (λ r. r.vendor) word _ Any Any _ word-exact (λ vendor fits form.
    step (λ r. r.account) account_item _ (λ i. is_amount i.amount ≡ true) _ _ account_item-exact (λ account fits form.
    step (λ r. r.terms) (terms on 12 account.amount) _ (AreTerms on 12 account.amount) _ _ (terms-exact on day 12 account.amount) (λ terms fits form.
    last (record { vendor = vendor; account = account; terms = terms }) _ (((tt, refl), refl), refl) (λ r known. λ i. record { vendor = known.0.0.1 i; account = known.0.1 i; terms = known.1 i })))))
    (λ r known fits form. (tt, (form.1.0, (record { form = form.0.terms; most = form.1.1; term = form.0.term }, tt))))
    (λ r known fits form. let is = form.1.1.0 in (record { terms = is.form; term = is.term }, (form.1.0, is.most)))

-- ---- acts of several kinds

variant_back : {A B : Type 0} (make : A → B) (f : Format A) (Form : A → Type 0) → IsWhole f Form → (a : A) (rest : List ℕ) → f.fits a → Form a → made make (f.read (f.bytes a ++ rest)) ≡ Ok (make a, rest)
variant_back make f Form exact a rest fits form = rw (exact.back a rest tt fits form) refl

variant_only : {A B : Type 0} (make : A → B) (f : Format A) (Form : A → Type 0) → IsWhole f Form → (bytes : List ℕ) (b : B) (rest : List ℕ) → IsBytes bytes → made make (f.read bytes) ≡ Ok (b, rest)
    → (P : B → Type 0) → ((a : A) → Takes bytes (f.bytes a) rest → f.fits a → Form a → P (make a)) → P b
variant_only {A} {B} make f Form exact bytes b rest are e P found =
    let s = then_ok (f.read bytes) (λ a rest. Ok (make a, rest)) (b, rest) e in
    let one = exact.only bytes s.0 s.1 are s.2 in
    let p = ok_is (make s.0, s.1) (b, rest) s.3 in
    subst P (ap (λ (x : B × List ℕ). x.0) p) (found s.0 (subst (λ (r : List ℕ). Takes bytes (f.bytes s.0) r) (ap (λ (x : B × List ℕ). x.1) p) one.0) one.2 one.3)

variant_left : {A B : Type 0} (make : A → B) (f : Format A) (Form : A → Type 0) → IsWhole f Form → (bytes : List ℕ) (n : ℕ) → IsBytes bytes → made make (f.read bytes) ≡ Err n → n ≤ length bytes
variant_left make f Form exact bytes n are e =
    elim (then_err (f.read bytes) (λ a rest. Ok (make a, rest)) n e) [
      | inl here ↦ exact.left bytes n are here
      | inr never ↦ absurd cc
    ]

-- the same bytes behind others
behind_tag : (tag : List ℕ) {bytes text rest : List ℕ} → Takes bytes text rest → Takes (tag ++ bytes) (tag ++ text) rest
behind_tag tag {bytes} {text} {rest} takes = record { parts = ap (λ (x : List ℕ). tag ++ x) takes.parts ∙ sym (append_assoc tag text rest); rest_fits = takes.rest_fits }

-- behind a field that says which
behind : {A B : Type 0} (which : Format A) (Form : A → Type 0) → IsWhole which Form → (next : A → List ℕ → Result (B × List ℕ) ℕ) (bytes : List ℕ) (n : ℕ) → IsBytes bytes
    → ((a : A) (rest : List ℕ) → IsBytes rest → next a rest ≡ Err n → n ≤ length rest) → and_then (which.read bytes) next ≡ Err n → n ≤ length bytes
behind which Form exact next bytes n are later e =
    elim (then_err (which.read bytes) next n e) [
      | inl here ↦ exact.left bytes n are here
      | inr there ↦
          let one = exact.only bytes there.0 there.1 are there.2 in
          let shorter : length bytes ≡ length (which.bytes there.0) + length there.1 = ap length one.0.parts ∙ length-append (which.bytes there.0) there.1 in
          let below = later there.0 there.1 one.0.rest_fits there.3 in
          omega arith
    ]

-- a kind in front, and then the act
tag_then : {A B : Type 0} (which : Format A) (Form : A → Type 0) → IsWhole which Form → (next : A → List ℕ → Result (B × List ℕ) ℕ) (a : A) (text rest : List ℕ) (b : B) → which.fits a → Form a
    → next a (text ++ rest) ≡ Ok (b, rest) → and_then (which.read ((which.bytes a ++ text) ++ rest)) next ≡ Ok (b, rest)
tag_then which Form exact next a text rest b fits form e =
    ap (λ (bytes : List ℕ). and_then (which.read bytes) next) (append_assoc (which.bytes a) text rest) ∙ rw (exact.back a (text ++ rest) tt fits form) e

abbrev AssetForm : AssetAct → Type 0
AssetForm a = IsWithinLimits (Asset a)

asset_back : (a : AssetAct) (rest : List ℕ) → asset_act.fits a → AssetForm a → asset_act.read (asset_act.bytes a ++ rest) ≡ Ok (a, rest)
asset_back (Donate d) rest fits form = tag_then flag Any flag-exact asset_act_by false (donation.bytes d) rest (Donate d) (omega arith) tt (variant_back Donate donation _ donation-exact d rest fits form)
asset_back (Dispose d) rest fits form = tag_then flag Any flag-exact asset_act_by true (disposal.bytes d) rest (Dispose d) (omega arith) tt (variant_back Dispose disposal _ disposal-exact d rest fits form)

abbrev AssetRead : Bool → List ℕ → List ℕ → AssetAct → Type 0
AssetRead b bytes rest a = Takes (flag.bytes b ++ bytes) (asset_act.bytes a) rest × asset_act.fits a × AssetForm a

asset_only : (b : Bool) (bytes : List ℕ) (a : AssetAct) (rest : List ℕ) → IsBytes bytes → asset_act_by b bytes ≡ Ok (a, rest) → AssetRead b bytes rest a
asset_only false bytes a rest are e = variant_only Donate donation _ donation-exact bytes a rest are e (AssetRead false bytes rest) (λ d takes fits form. (behind_tag (flag.bytes false) takes, fits, form))
asset_only true bytes a rest are e = variant_only Dispose disposal _ disposal-exact bytes a rest are e (AssetRead true bytes rest) (λ d takes fits form. (behind_tag (flag.bytes true) takes, fits, form))

-- what stands behind a kind that was read
taken : {A B : Type 0} (which : Format A) (Form : A → Type 0) → IsWhole which Form → (next : A → List ℕ → Result (B × List ℕ) ℕ) (bytes : List ℕ) (b : B) (rest : List ℕ) → IsBytes bytes
    → and_then (which.read bytes) next ≡ Ok (b, rest) → (P : List ℕ → Type 0) → ((a : A) (after : List ℕ) → IsBytes after → Form a → next a after ≡ Ok (b, rest) → P (which.bytes a ++ after)) → P bytes
taken which Form exact next bytes b rest are e P found =
    let s = then_ok (which.read bytes) next (b, rest) e in
    let one = exact.only bytes s.0 s.1 are s.2 in
    subst P (sym one.0.parts) (found s.0 s.1 one.0.rest_fits one.3 s.3)

asset_left : (b : Bool) (bytes : List ℕ) (n : ℕ) → IsBytes bytes → asset_act_by b bytes ≡ Err n → n ≤ length bytes
asset_left false bytes n are e = variant_left Donate donation _ donation-exact bytes n are e
asset_left true bytes n are e = variant_left Dispose disposal _ disposal-exact bytes n are e

asset_act-exact : IsWhole asset_act AssetForm
asset_act-exact = record {
  back = λ a rest known fits form. asset_back a rest fits form;
  only = λ bytes a rest are e.
      let p = taken flag Any flag-exact asset_act_by bytes a rest are e (λ x. Takes x (asset_act.bytes a) rest × asset_act.fits a × AssetForm a) (λ b after are' form e'. asset_only b after a rest are' e') in
      (p.0, tt, p.1, p.2);
  left = λ bytes n are e. behind flag Any flag-exact asset_act_by bytes n are (λ b rest are' e'. asset_left b rest n are' e') e;
}

abbrev LeaveForm : LeaveAct → Type 0
LeaveForm a = IsWithinLimits (Leave a)

leave_back : (a : LeaveAct) (rest : List ℕ) → leave_act.fits a → LeaveForm a → leave_act.read (leave_act.bytes a ++ rest) ≡ Ok (a, rest)
leave_back (Earn l) rest fits form = tag_then (one_of 3) (λ n. n < 3) (one_of-exact 3) leave_act_by 0 (leave_amount.bytes l) rest (Earn l) (omega arith) (omega arith) (variant_back Earn leave_amount _ leave_amount-exact l rest fits form)
leave_back (Use l) rest fits form = tag_then (one_of 3) (λ n. n < 3) (one_of-exact 3) leave_act_by 1 (leave_amount.bytes l) rest (Use l) (omega arith) (omega arith) (variant_back Use leave_amount _ leave_amount-exact l rest fits form)
leave_back (Mature m) rest fits form = tag_then (one_of 3) (λ n. n < 3) (one_of-exact 3) leave_act_by 2 (maturity.bytes m) rest (Mature m) (omega arith) (omega arith) (variant_back Mature maturity _ maturity-exact m rest fits form)

abbrev LeaveRead : ℕ → List ℕ → List ℕ → LeaveAct → Type 0
LeaveRead n bytes rest a = Takes (byte.bytes n ++ bytes) (leave_act.bytes a) rest × leave_act.fits a × LeaveForm a

leave_only : (n : ℕ) (bytes : List ℕ) (a : LeaveAct) (rest : List ℕ) → n < 3 → IsBytes bytes → leave_act_by n bytes ≡ Ok (a, rest) → LeaveRead n bytes rest a
leave_only zero bytes a rest lt are e = variant_only Earn leave_amount _ leave_amount-exact bytes a rest are e (LeaveRead 0 bytes rest) (λ l takes fits form. (behind_tag (byte.bytes 0) takes, fits, form))
leave_only (suc zero) bytes a rest lt are e = variant_only Use leave_amount _ leave_amount-exact bytes a rest are e (LeaveRead 1 bytes rest) (λ l takes fits form. (behind_tag (byte.bytes 1) takes, fits, form))
leave_only (suc (suc n)) bytes a rest lt are e =
    let two : suc (suc n) ≡ 2 = omega arith in
    subst (λ (k : ℕ). LeaveRead k bytes rest a) (sym two)
    (variant_only Mature maturity _ maturity-exact bytes a rest are e (LeaveRead 2 bytes rest) (λ m takes fits form. (behind_tag (byte.bytes 2) takes, fits, form)))

leave_left : (n : ℕ) (bytes : List ℕ) (m : ℕ) → IsBytes bytes → leave_act_by n bytes ≡ Err m → m ≤ length bytes
leave_left zero bytes m are e = variant_left Earn leave_amount _ leave_amount-exact bytes m are e
leave_left (suc zero) bytes m are e = variant_left Use leave_amount _ leave_amount-exact bytes m are e
leave_left (suc (suc n)) bytes m are e = variant_left Mature maturity _ maturity-exact bytes m are e

leave_act-exact : IsWhole leave_act LeaveForm
leave_act-exact = record {
  back = λ a rest known fits form. leave_back a rest fits form;
  only = λ bytes a rest are e.
      let p = taken (one_of 3) (λ n. n < 3) (one_of-exact 3) leave_act_by bytes a rest are e (λ x. Takes x (leave_act.bytes a) rest × leave_act.fits a × LeaveForm a) (λ n after are' form e'. leave_only n after a rest form are' e') in
      (p.0, tt, p.1, p.2);
  left = λ bytes m are e. behind (one_of 3) (λ n. n < 3) (one_of-exact 3) leave_act_by bytes m are (λ n rest are' e'. leave_left n rest m are' e') e;
}

period_back : (p : Period) (rest : List ℕ) → closed_period.fits p → IsPeriodForm p → closed_period.read (closed_period.bytes p ++ rest) ≡ Ok (p, rest)
period_back (period.Month m) rest fits form = tag_then flag Any flag-exact period_by false (month.bytes m) rest (period.Month m) (omega arith) tt (variant_back period.Month month _ month-exact m rest fits form)
period_back (period.Year y) rest fits form = tag_then flag Any flag-exact period_by true (year.bytes y) rest (period.Year y) (omega arith) tt (variant_back period.Year year _ year-exact y rest fits form)

abbrev PeriodRead : Bool → List ℕ → List ℕ → Period → Type 0
PeriodRead b bytes rest p = Takes (flag.bytes b ++ bytes) (closed_period.bytes p) rest × closed_period.fits p × IsPeriodForm p

period_only : (b : Bool) (bytes : List ℕ) (p : Period) (rest : List ℕ) → IsBytes bytes → period_by b bytes ≡ Ok (p, rest) → PeriodRead b bytes rest p
period_only false bytes p rest are e = variant_only period.Month month _ month-exact bytes p rest are e (PeriodRead false bytes rest) (λ m takes fits form. (behind_tag (flag.bytes false) takes, fits, form))
period_only true bytes p rest are e = variant_only period.Year year _ year-exact bytes p rest are e (PeriodRead true bytes rest) (λ y takes fits form. (behind_tag (flag.bytes true) takes, fits, form))

period_left : (b : Bool) (bytes : List ℕ) (n : ℕ) → IsBytes bytes → period_by b bytes ≡ Err n → n ≤ length bytes
period_left false bytes n are e = variant_left period.Month month _ month-exact bytes n are e
period_left true bytes n are e = variant_left period.Year year _ year-exact bytes n are e

closed_period-exact : IsWhole closed_period IsPeriodForm
closed_period-exact = record {
  back = λ p rest known fits form. period_back p rest fits form;
  only = λ bytes p rest are e.
      let q = taken flag Any flag-exact period_by bytes p rest are e (λ x. Takes x (closed_period.bytes p) rest × closed_period.fits p × IsPeriodForm p) (λ b after are' form e'. period_only b after p rest are' e') in
      (q.0, tt, q.1, q.2);
  left = λ bytes n are e. behind flag Any flag-exact period_by bytes n are (λ b rest are' e'. period_left b rest n are' e') e;
}

-- ---- any act

-- what holds of the acts of an entry in form
abbrev pub ActForm : Day → Act → Type 0
ActForm on a = IsActInForm on a × IsWithinLimits a

-- the day on which a bond is issued or a lease begins
abbrev pub IsEarly : ActKind → Day → Type 0
IsEarly k on = (k ≡ kind.Issue → on.day ≤ 28) × (k ≡ kind.Lease → on.day ≤ 28)

act_back : (on : Day) (a : Act) (rest : List ℕ) → IsEarly (kind_of a) on → act_fits on a → ActForm on a → act_at (kind_of a) on (act_bytes on a ++ rest) ≡ Ok (a, rest)
unfolding act_at act_bytes act_fits
act_back on (Adopt a) rest day fits form = variant_back Adopt adoption _ adoption-exact a rest fits form
act_back on (Amend a) rest day fits form = variant_back Amend amendment _ amendment-exact a rest fits form
act_back on (Transfer a) rest day fits form = variant_back Transfer transfer _ transfer-exact a rest fits form
act_back on (Requisition a) rest day fits form = variant_back Requisition new_requisition _ new_requisition-exact a rest fits form
act_back on (Withdraw a) rest day fits form = variant_back Withdraw word _ word-exact a rest fits tt
act_back on (Order a) rest day fits form = variant_back Order new_order _ new_order-exact a rest fits form
act_back on (ChangeOrder a) rest day fits form = variant_back ChangeOrder order_change _ order_change-exact a rest fits form
act_back on (CancelOrder a) rest day fits form = variant_back CancelOrder word _ word-exact a rest fits tt
act_back on (Voucher a) rest day fits form = variant_back Voucher new_voucher _ new_voucher-exact a rest fits form
act_back on (VoidVoucher a) rest day fits form = variant_back VoidVoucher word _ word-exact a rest fits tt
act_back on (Pay a) rest day fits form = variant_back Pay payment _ payment-exact a rest fits form.0
act_back on (Bill a) rest day fits form = variant_back Bill new_bill _ new_bill-exact a rest fits form
act_back on (Collect a) rest day fits form = variant_back Collect bill_amount _ bill_amount-exact a rest fits form.1
act_back on (Receive a) rest day fits form = variant_back Receive source_amount _ source_amount-exact a rest fits form.1
act_back on (WriteOff a) rest day fits form = variant_back WriteOff bill_amount _ bill_amount-exact a rest fits form.1
act_back on (Asset a) rest day fits form = variant_back Asset asset_act _ asset_act-exact a rest fits form.1
act_back on (Issue a) rest day fits form = variant_back Issue (issue on) _ (issue-exact on (day.0 refl)) a rest fits form
act_back on (PayDue a) rest day fits form = variant_back PayDue debt_payment _ debt_payment-exact a rest fits tt
act_back on (Leave a) rest day fits form = variant_back Leave leave_act _ leave_act-exact a rest fits form.1
act_back on (Interfund a) rest day fits form = variant_back Interfund fund_move _ fund_move-exact a rest fits form
act_back on (Close a) rest day fits form = variant_back Close closed_period _ closed_period-exact a rest fits form.0
act_back on (Lease a) rest day fits form = variant_back Lease (lease on) _ (lease-exact on (day.1 refl)) a rest fits form

abbrev ActRead : ActKind → Day → List ℕ → List ℕ → Act → Type 0
ActRead k on bytes rest a = Takes bytes (act_bytes on a) rest × (k ≡ kind_of a) × act_fits on a × ActForm on a

act_only : (k : ActKind) (on : Day) (bytes : List ℕ) (a : Act) (rest : List ℕ) → IsEarly k on → IsBytes bytes → act_at k on bytes ≡ Ok (a, rest) → ActRead k on bytes rest a
unfolding act_at act_bytes act_fits
act_only kind.Adopt on bytes a rest day are e = variant_only Adopt adoption _ adoption-exact bytes a rest are e (ActRead kind.Adopt on bytes rest) (λ x takes fits form. (takes, refl, fits, (form.0, form.1)))
act_only kind.Amend on bytes a rest day are e = variant_only Amend amendment _ amendment-exact bytes a rest are e (ActRead kind.Amend on bytes rest) (λ x takes fits form. (takes, refl, fits, form))
act_only kind.Transfer on bytes a rest day are e = variant_only Transfer transfer _ transfer-exact bytes a rest are e (ActRead kind.Transfer on bytes rest) (λ x takes fits form. (takes, refl, fits, form))
act_only kind.Requisition on bytes a rest day are e = variant_only Requisition new_requisition _ new_requisition-exact bytes a rest are e (ActRead kind.Requisition on bytes rest) (λ x takes fits form. (takes, refl, fits, form))
act_only kind.Withdraw on bytes a rest day are e = variant_only Withdraw word _ word-exact bytes a rest are e (ActRead kind.Withdraw on bytes rest) (λ x takes fits form. (takes, refl, fits, (tt, tt)))
act_only kind.Order on bytes a rest day are e = variant_only Order new_order _ new_order-exact bytes a rest are e (ActRead kind.Order on bytes rest) (λ x takes fits form. (takes, refl, fits, form))
act_only kind.ChangeOrder on bytes a rest day are e = variant_only ChangeOrder order_change _ order_change-exact bytes a rest are e (ActRead kind.ChangeOrder on bytes rest) (λ x takes fits form. (takes, refl, fits, form))
act_only kind.CancelOrder on bytes a rest day are e = variant_only CancelOrder word _ word-exact bytes a rest are e (ActRead kind.CancelOrder on bytes rest) (λ x takes fits form. (takes, refl, fits, (tt, tt)))
act_only kind.Voucher on bytes a rest day are e = variant_only Voucher new_voucher _ new_voucher-exact bytes a rest are e (ActRead kind.Voucher on bytes rest) (λ x takes fits form. (takes, refl, fits, form))
act_only kind.VoidVoucher on bytes a rest day are e = variant_only VoidVoucher word _ word-exact bytes a rest are e (ActRead kind.VoidVoucher on bytes rest) (λ x takes fits form. (takes, refl, fits, (tt, tt)))
act_only kind.Pay on bytes a rest day are e = variant_only Pay payment _ payment-exact bytes a rest are e (ActRead kind.Pay on bytes rest) (λ x takes fits form. (takes, refl, fits, (form, tt)))
act_only kind.Bill on bytes a rest day are e = variant_only Bill new_bill _ new_bill-exact bytes a rest are e (ActRead kind.Bill on bytes rest) (λ x takes fits form. (takes, refl, fits, form))
act_only kind.Collect on bytes a rest day are e = variant_only Collect bill_amount _ bill_amount-exact bytes a rest are e (ActRead kind.Collect on bytes rest) (λ x takes fits form. (takes, refl, fits, (tt, form)))
act_only kind.Receive on bytes a rest day are e = variant_only Receive source_amount _ source_amount-exact bytes a rest are e (ActRead kind.Receive on bytes rest) (λ x takes fits form. (takes, refl, fits, (tt, form)))
act_only kind.WriteOff on bytes a rest day are e = variant_only WriteOff bill_amount _ bill_amount-exact bytes a rest are e (ActRead kind.WriteOff on bytes rest) (λ x takes fits form. (takes, refl, fits, (tt, form)))
act_only kind.Asset on bytes a rest day are e = variant_only Asset asset_act _ asset_act-exact bytes a rest are e (ActRead kind.Asset on bytes rest) (λ x takes fits form. (takes, refl, fits, (tt, form)))
act_only kind.Issue on bytes a rest day are e = variant_only Issue (issue on) _ (issue-exact on (day.0 refl)) bytes a rest are e (ActRead kind.Issue on bytes rest) (λ x takes fits form. (takes, refl, fits, form))
act_only kind.PayDue on bytes a rest day are e = variant_only PayDue debt_payment _ debt_payment-exact bytes a rest are e (ActRead kind.PayDue on bytes rest) (λ x takes fits form. (takes, refl, fits, (tt, tt)))
act_only kind.Leave on bytes a rest day are e = variant_only Leave leave_act _ leave_act-exact bytes a rest are e (ActRead kind.Leave on bytes rest) (λ x takes fits form. (takes, refl, fits, (tt, form)))
act_only kind.Interfund on bytes a rest day are e = variant_only Interfund fund_move _ fund_move-exact bytes a rest are e (ActRead kind.Interfund on bytes rest) (λ x takes fits form. (takes, refl, fits, form))
act_only kind.Close on bytes a rest day are e = variant_only Close closed_period _ closed_period-exact bytes a rest are e (ActRead kind.Close on bytes rest) (λ x takes fits form. (takes, refl, fits, (form, tt)))
act_only kind.Lease on bytes a rest day are e = variant_only Lease (lease on) _ (lease-exact on (day.1 refl)) bytes a rest are e (ActRead kind.Lease on bytes rest) (λ x takes fits form. (takes, refl, fits, form))

act_left : (k : ActKind) (on : Day) (bytes : List ℕ) (n : ℕ) → IsEarly k on → IsBytes bytes → act_at k on bytes ≡ Err n → n ≤ length bytes
unfolding act_at
act_left kind.Adopt on bytes n day are e = variant_left Adopt adoption _ adoption-exact bytes n are e
act_left kind.Amend on bytes n day are e = variant_left Amend amendment _ amendment-exact bytes n are e
act_left kind.Transfer on bytes n day are e = variant_left Transfer transfer _ transfer-exact bytes n are e
act_left kind.Requisition on bytes n day are e = variant_left Requisition new_requisition _ new_requisition-exact bytes n are e
act_left kind.Withdraw on bytes n day are e = variant_left Withdraw word _ word-exact bytes n are e
act_left kind.Order on bytes n day are e = variant_left Order new_order _ new_order-exact bytes n are e
act_left kind.ChangeOrder on bytes n day are e = variant_left ChangeOrder order_change _ order_change-exact bytes n are e
act_left kind.CancelOrder on bytes n day are e = variant_left CancelOrder word _ word-exact bytes n are e
act_left kind.Voucher on bytes n day are e = variant_left Voucher new_voucher _ new_voucher-exact bytes n are e
act_left kind.VoidVoucher on bytes n day are e = variant_left VoidVoucher word _ word-exact bytes n are e
act_left kind.Pay on bytes n day are e = variant_left Pay payment _ payment-exact bytes n are e
act_left kind.Bill on bytes n day are e = variant_left Bill new_bill _ new_bill-exact bytes n are e
act_left kind.Collect on bytes n day are e = variant_left Collect bill_amount _ bill_amount-exact bytes n are e
act_left kind.Receive on bytes n day are e = variant_left Receive source_amount _ source_amount-exact bytes n are e
act_left kind.WriteOff on bytes n day are e = variant_left WriteOff bill_amount _ bill_amount-exact bytes n are e
act_left kind.Asset on bytes n day are e = variant_left Asset asset_act _ asset_act-exact bytes n are e
act_left kind.Issue on bytes n day are e = variant_left Issue (issue on) _ (issue-exact on (day.0 refl)) bytes n are e
act_left kind.PayDue on bytes n day are e = variant_left PayDue debt_payment _ debt_payment-exact bytes n are e
act_left kind.Leave on bytes n day are e = variant_left Leave leave_act _ leave_act-exact bytes n are e
act_left kind.Interfund on bytes n day are e = variant_left Interfund fund_move _ fund_move-exact bytes n are e
act_left kind.Close on bytes n day are e = variant_left Close closed_period _ closed_period-exact bytes n are e
act_left kind.Lease on bytes n day are e = variant_left Lease (lease on) _ (lease-exact on (day.1 refl)) bytes n are e

pub act-exact : (k : ActKind) (on : Day) → IsEarly k on → IsExact (act_for k on) (λ a. k ≡ kind_of a) (ActForm on)
act-exact k on day = record {
  back = λ a rest known fits form. subst (λ (j : ActKind). act_at j on (act_bytes on a ++ rest) ≡ Ok (a, rest)) (sym known) (act_back on a rest (λ e. day.0 (known ∙ e), λ e. day.1 (known ∙ e)) fits form);
  only = λ bytes a rest are e. let p = act_only k on bytes a rest day are e in (p.0, p.1, p.2, p.3);
  left = λ bytes n are e. act_left k on bytes n day are e;
}
