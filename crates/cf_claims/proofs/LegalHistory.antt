-- What holds of the entries of each legal history.
use Rattle.std.proofs.Common.{◌≡◌, ℕ, ◌+◌, ◌*◌, ◌<◌, ◌≤◌, ◌^◌, true, ◌&&◌, nat_lt, if◌then◌else◌, List, [], ◌∷◌, ◌++◌, length, map, None, sum_by, refl, subst, ap, ◌∙◌, arith, lt-ltb}
use Rattle.cf_base.proofs.Common.{AllByRecursion, sum_by-cons}
use Rattle.cf_base.specs.Common.{most_cents}
use Rattle.cf_calls.specs.Common.{voucher_items, IsActInForm}
use Rattle.cf_model.specs.Common.{Act, Voucher, Entry, VoucherItem, Day, documents_of, no_documents, draws_voucher, Registers, registers_of, draws, amount, amount_refusal, bad_amount, first_refusal, IsLegal, IsLegalAfter}
use Rattle.cf_chart.specs.Common.{Plan}
use Rattle.cf_claims.specs.Claims.{is_voucher}
use Rattle.cf_claims.specs.Kept.{IsReadable, numbers_rise}
use Rattle.cf_model.proofs.Common.{accepted, all_sound, small, or_else_none, documents_are, documents_push}
use Rattle.cf_model.proofs.Bounds.{IsSound}

-- ---- each entry is readable

-- amounts that aren't refused
items_small : (items : List VoucherItem) → first_refusal bad_amount (map (λ i. amount i.account.amount) items) ≡ None
    → sum_by (λ (i : VoucherItem). i.account.amount) items ≤ length items * most_cents
items_small [] none = omega arith
items_small (i ∷ items) none =
    let both = or_else_none (bad_amount (amount i.account.amount)) (first_refusal bad_amount (map (λ i. amount i.account.amount) items)) none in
    rw (sum_by-cons (λ (i : VoucherItem). i.account.amount) i items) (omega (arith, small i.account.amount both.0, items_small items both.1))

act_small : (on : Day) (act : Act) → IsActInForm on act → amount_refusal act ≡ None → sum_by (λ (i : VoucherItem). i.account.amount) (voucher_items act) < 2 ^ 64
act_small on (Voucher v) form none = omega (arith, items_small v.items none, form.count.to)
act_small on _ form none = omega arith

all_readable : (plan : Plan) (history : List Entry) → AllByRecursion (IsSound plan) history → AllByRecursion IsReadable history
all_readable plan [] all = tt
all_readable plan (e ∷ later) all =
    (record { on = all.0.form.on; amounts = act_small e.change.on e.change.act all.0.form.act all.0.amounts }, all_readable plan later all.1)

pub legal_readable : (plan : Plan) (history : List Entry) → IsLegal plan history → AllByRecursion IsReadable history
legal_readable plan history legal = all_readable plan history (all_sound plan history legal)

-- ---- the numbers of vouchers rise

voucher_number : (s : Registers) (act : Act) → is_voucher act ≡ true → (draws s act).number ≡ s.documents.vouchers + 1
voucher_number s (Voucher v) is = refl
voucher_number s _ is = cc

none_more : (v : ℕ) → v + 0 ≡ v
none_more v = omega arith

rise_more : (v number : ℕ) (act : Act) (later : List Entry) → (is_voucher act ≡ true → number ≡ v + 1) → numbers_rise (v + draws_voucher act) later ≡ true
    → (if is_voucher act then nat_lt v number && numbers_rise number later else numbers_rise v later) ≡ true
rise_more v number (Voucher x) later is rise = rw (is refl, lt-ltb v (v + 1) (omega arith)) rise
rise_more v number _ later is rise = subst (λ (n : ℕ). numbers_rise n later ≡ true) (none_more v) rise

rise_after : (plan : Plan) (seen later : List Entry) → IsLegalAfter plan seen later → numbers_rise (documents_of plan seen).vouchers later ≡ true
rise_after plan seen [] legal = refl
rise_after plan seen (e ∷ later) legal =
    let v = (documents_of plan seen).vouchers in
    let next : (documents_of plan (seen ++ e ∷ [])).vouchers ≡ v + draws_voucher e.change.act = ap (λ s. s.vouchers) (documents_push plan no_documents seen e) in
    let drawn : is_voucher e.change.act ≡ true → e.drawn.number ≡ v + 1 =
    λ is. ap (λ (x : Entry). x.drawn.number) (accepted plan seen e legal.0).entry ∙ voucher_number (registers_of plan seen) e.change.act is ∙ ap (λ s. s.vouchers + 1) (documents_are plan seen) in
    rise_more v e.drawn.number e.change.act later drawn (subst (λ n. numbers_rise n later ≡ true) next (rise_after plan (seen ++ e ∷ []) later legal.1))

pub legal_rising : (plan : Plan) (history : List Entry) → IsLegal plan history → numbers_rise 0 history ≡ true
legal_rising plan history legal = rise_after plan [] history legal
