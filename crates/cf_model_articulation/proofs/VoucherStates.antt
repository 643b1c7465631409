-- The items of a voucher have one state, so those of a voucher that may be voided are open.
use Rattle.std.proofs.Common.{◌≡◌, ℕ, ◌+◌, ◌≤◌, Bool, true, false, if◌then◌else◌, ◌==◌, List, [], ◌∷◌, ◌++◌, map, find, Option, Some, None, refl, sym, ap, ◌∙◌, arith}
use Rattle.cf_base.proofs.Common.{list_any, AllByRecursion}
use Rattle.cf_model.specs.Common.{Day, Act, VoucherState, not_open_voucher, voided_state, Expenditure, draws_voucher, expenditure_of, expenditure_step, paid_after, voucher_at}
use Rattle.cf_calls.specs.Common.{voucher_items}
use Rattle.cf_calls.specs.declared.acts.Act.TheVariants as act
use Rattle.cf_calls.specs.declared.shown.VoucherState.TheVariants as voucher
use Rattle.cf_model.proofs.Common.{all_append, all_map, all_new, all_so}
use Rattle.cf_model_articulation.proofs.Counts.{found_has, found_passes, number_is, other_numbers, same_numbers}

-- each item has the state of its voucher, which was drawn
abbrev pub HasState : (ℕ → VoucherState) → ℕ → Expenditure → Type 0
HasState of count x = (x.state ≡ of x.voucher) × (x.voucher ≤ count)

pub record AreStates (xs : List Expenditure) (count : ℕ) : Type 0 where
  pub of : ℕ → VoucherState
  pub each : AllByRecursion (HasState of count) xs

abbrev voided : ℕ → (ℕ → VoucherState) → ℕ → VoucherState
voided n of m = if m == n then voucher.Void else of m

abbrev paid : List ℕ → (ℕ → VoucherState) → ℕ → VoucherState
paid ns of m = if list_any (λ n. n == m) ns then paid_after (of m) else of m

abbrev opened : ℕ → (ℕ → VoucherState) → ℕ → VoucherState
opened n of m = if m == n then voucher.Open else of m

void_state : (n count : ℕ) (of : ℕ → VoucherState) (x : Expenditure) → HasState of count x → HasState (voided n of) (count + 0) (expenditure_step (act.VoidVoucher n) x)
void_state n count of x is = by (x.voucher == n) refl
  where
    by : (b : Bool) → (x.voucher == n) ≡ b → HasState (voided n of) (count + 0) (if b then record x { state = voucher.Void } else x)
    by true e = (ap (λ t. if t then voucher.Void else of x.voucher) (sym e), omega (arith, is.1))
    by false e = (is.0 ∙ ap (λ t. if t then voucher.Void else of x.voucher) (sym e), omega (arith, is.1))

pay_state : (ns : List ℕ) (count : ℕ) (of : ℕ → VoucherState) (x : Expenditure) → HasState of count x →
    HasState (paid ns of) (count + 0) (if list_any (λ n. n == x.voucher) ns then record x { state = paid_after x.state } else x)
pay_state ns count of x is = by (list_any (λ n. n == x.voucher) ns) refl
  where
    by : (b : Bool) → list_any (λ n. n == x.voucher) ns ≡ b → HasState (paid ns of) (count + 0) (if b then record x { state = paid_after x.state } else x)
    by true e = (ap paid_after is.0 ∙ ap (λ t. if t then paid_after (of x.voucher) else of x.voucher) (sym e), omega (arith, is.1))
    by false e = (is.0 ∙ ap (λ t. if t then paid_after (of x.voucher) else of x.voucher) (sym e), omega (arith, is.1))

still_state : (count : ℕ) (of : ℕ → VoucherState) (x : Expenditure) → HasState of count x → HasState of (count + 0) x
still_state count of x is = (is.0, omega (arith, is.1))

-- what an act draws of vouchers: the next number
abbrev pub DrawsVoucher : ℕ → ℕ → Act → Type 0
DrawsVoucher count number (act.Voucher v) = number ≡ count + 1
DrawsVoucher count number _ = Unit {0}

-- after an entry more
pub states_step : (xs : List Expenditure) (count number desk : ℕ) (on : Day) (year : ℕ) → AreStates xs count → (a : Act) → DrawsVoucher count number a →
    AreStates (map (expenditure_step a) xs ++ map (expenditure_of number desk on year) (voucher_items a)) (count + draws_voucher a)
states_step xs count number desk on year is (act.VoidVoucher n) drawn = record {
  of = voided n is.of;
  each = all_append (HasState (voided n is.of) (count + 0)) _ [] (all_map (HasState is.of count) (HasState (voided n is.of) (count + 0)) (expenditure_step (act.VoidVoucher n)) (void_state n count is.of) xs is.each) tt;
}
states_step xs count number desk on year is (act.Pay p) drawn = record {
  of = paid p.vouchers is.of;
  each =
      all_append (HasState (paid p.vouchers is.of) (count + 0)) _ []
      (all_map (HasState is.of count) (HasState (paid p.vouchers is.of) (count + 0)) (expenditure_step (act.Pay p)) (pay_state p.vouchers count is.of) xs is.each) tt;
}
states_step xs count number desk on year is (act.Voucher v) drawn = record {
  of = opened number is.of;
  each =
      all_append (HasState (opened number is.of) (count + 1)) (map (λ x. x) xs) (map (expenditure_of number desk on year) v.items)
      (all_map (HasState is.of count) (HasState (opened number is.of) (count + 1)) (λ x. x)
      (λ x h. (h.0 ∙ ap (λ t. if t then voucher.Open else is.of x.voucher) (sym (other_numbers x.voucher number (λ e. omega (arith, e, h.1, drawn)))), omega (arith, h.1))) xs is.each)
      (all_new (HasState (opened number is.of) (count + 1)) (expenditure_of number desk on year)
      (λ i. (ap (λ t. if t then voucher.Open else is.of number) (sym (same_numbers number number refl)), omega (arith, drawn))) v.items);
}
states_step xs count number desk on year is _ drawn = record {
  of = is.of;
  each = all_append (HasState is.of (count + 0)) (map (λ x. x) xs) [] (all_map (HasState is.of count) (HasState is.of (count + 0)) (λ x. x) (still_state count is.of) xs is.each) tt;
}

-- ---- a void

none_found : (p : Expenditure → Bool) (xs : List Expenditure) → find p xs ≡ None → AllByRecursion (λ x. p x ≡ false) xs
none_found p [] e = tt
none_found p (x ∷ xs) e = by (p x) refl e (none_found p xs)
  where
    by : (b : Bool) → p x ≡ b → (if b then Some x else find p xs) ≡ None → (find p xs ≡ None → AllByRecursion (λ x. p x ≡ false) xs) → AllByRecursion (λ x. p x ≡ false) (x ∷ xs)
    by true is e rest = cc
    by false is e rest = (is, rest e)

-- an item of the voucher is open
abbrev pub IsOpenOf : ℕ → Expenditure → Type 0
IsOpenOf n x = (x.voucher == n) ≡ true → x.state ≡ voucher.Open

is_open : (n : ℕ) (s : VoucherState) → not_open_voucher n s ≡ None → s ≡ voucher.Open
is_open n voucher.Open e = refl
is_open n voucher.Paid e = cc
is_open n voucher.Void e = cc

pub open_items : (xs : List Expenditure) (count n : ℕ) → AreStates xs count → voided_state n (voucher_at n xs) ≡ None → AllByRecursion (IsOpenOf n) xs
open_items xs count n is rule = by (voucher_at n xs) refl rule
  where
    differ : {A : Type 0} (b : Bool) → b ≡ false → b ≡ true → A
    differ true e k = cc
    differ false e k = cc

    by : (o : Option Expenditure) → voucher_at n xs ≡ o → voided_state n o ≡ None → AllByRecursion (IsOpenOf n) xs
    by None found rule = all_so (λ (x : Expenditure). (x.voucher == n) ≡ false) (IsOpenOf n) (λ x e k. differ (x.voucher == n) e k) xs (none_found (λ x. x.voucher == n) xs found)
    by (Some y) found rule =
        let has : HasState is.of count y = found_has (HasState is.of count) (λ (x : Expenditure). x.voucher == n) y xs found is.each in
        let at : y.voucher ≡ n = number_is y.voucher n (found_passes (λ (x : Expenditure). x.voucher == n) y xs found) in
        let now : is.of n ≡ voucher.Open = ap is.of (sym at) ∙ sym has.0 ∙ is_open n y.state rule in
        all_so (HasState is.of count) (IsOpenOf n) (λ x h k. h.0 ∙ ap is.of (number_is x.voucher n k) ∙ now) xs is.each
