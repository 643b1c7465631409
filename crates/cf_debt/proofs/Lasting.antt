-- The bonds of which a payment is due in a month that isn't closed.
use Rattle.std.proofs.Common.{◌≡◌, ◌⊎◌, inl, inr, ℕ, suc, ◌+◌, ◌-◌, ◌<◌, ◌≤◌, Bool, true, false, if◌then◌else◌, nat_le, List, [], ◌∷◌, length, map, drop, get_or, Option, Some, None, sum_by, sym, subst, ap, ◌∙◌, arith, filter}
use Rattle.cf_base.proofs.Common.{common_steps, get_or_default, get_or-drop, drop_more, mul-le, AllByRecursion}
use Rattle.cf_model.specs.Common.{Refusal, Due, interest_charge, unpaid, first_refusal, or_else}
use Rattle.cf_chart.specs.Common.{Plan}
use Rattle.cf_debt.specs.declared.rows.BondRow.{BondRow}
use Rattle.cf_debt.specs.Register.{unpaid_of}
use Rattle.cf_debt.specs.RegisterView.{AreRows, is_live, live_of}
use Rattle.cf_debt.specs.Rows.{IsRow, view_bond, view_bonds}
use Rattle.cf_debt.specs.Steps.{AreNumbered}
use Rattle.cf_debt.proofs.Lists.{all_among, all_each, each_all, filter_among, first_among, sum_among}
use Rattle.cf_debt.proofs.Running.{no_charge}
use Rattle.cf_debt.proofs.Schedules.{next_none}
use Rattle.cf_register_parts.proofs.Lists.{less_or_not}

abbrev pub no_bond : BondRow
no_bond = record { number = 0; is_lease = false; fund = 0; amount = 0; year = 0; month = 0; terms = record { every = 0; day = 0; rate_bp = 0 }; start = 0; count = 0; last = 0; paid = 0 }

-- the row of a number
abbrev pub row_at : List BondRow → ℕ → BondRow
row_at rows n = get_or rows (n - 1) no_bond

abbrev pub lasts : ℕ → List BondRow → ℕ → Bool
lasts closed rows n = nat_le closed (row_at rows n).last

pub numbered : (closed : ℕ) (all : List Due) (rows : List BondRow) → AreRows closed all rows → AreNumbered rows
numbered closed all rows each k d l = (each k d l).number

row_is : (rows : List BondRow) → AreNumbered rows → (k : ℕ) (d : BondRow) → k < length rows → row_at rows (get_or rows k d).number ≡ get_or rows k d
row_is rows are k d l =
    let at : (get_or rows k d).number - 1 ≡ k = omega (arith, are k d l) in
    ap (λ j. get_or rows j no_bond) at ∙ get_or_default rows k no_bond d l

-- a number of one of the bonds
pub record IsPlace (rows : List BondRow) (n : ℕ) : Type 0 where
  pub first : 1 ≤ n
  pub last : n ≤ length rows

places : (closed : ℕ) (rows : List BondRow) → AreNumbered rows → AllByRecursion (IsPlace rows) (live_of closed rows)
places closed rows are =
    all_among (λ (r : BondRow). r.number) (is_live closed) (IsPlace rows) rows
    (all_each (λ (r : BondRow). IsPlace rows r.number) rows (λ k d l. record { first = omega (arith, are k d l); last = omega (arith, are k d l, l) }))

pub live_place : (closed : ℕ) (rows : List BondRow) (live : List ℕ) → AreNumbered rows → live ≡ live_of closed rows → (k d : ℕ) → k < length live → IsPlace rows (get_or live k d)
live_place closed rows live are is k d l = each_all (IsPlace rows) live (subst (AllByRecursion (IsPlace rows)) (sym is) (places closed rows are)) k d l

few : {A : Type 0} (n : A → ℕ) (p : A → Bool) (xs : List A) → length (map n (filter p xs)) ≤ length xs
few n p [] = omega arith
few n p (x ∷ xs) = by_test (p x) (few n p xs)
  where
    by_test : (b : Bool) → length (map n (filter p xs)) ≤ length xs → length (map n (if b then x ∷ filter p xs else filter p xs)) ≤ suc (length xs)
    by_test true l = omega (arith, l)
    by_test false l = omega (arith, l)

pub few_live : (closed : ℕ) (rows : List BondRow) (live : List ℕ) → live ≡ live_of closed rows → length live ≤ length rows
few_live closed rows live is = omega (arith, ap length is, few (λ (r : BondRow). r.number) (is_live closed) rows)

later : (was closed last : ℕ) → was ≤ closed → nat_le closed last ≡ true → nat_le was last ≡ true
later was closed last l h = grind (arith, common_steps)

-- those that last beyond more months
pub live_later : (was closed : ℕ) (rows : List BondRow) → AreNumbered rows → was ≤ closed → filter (lasts closed rows) (live_of was rows) ≡ live_of closed rows
live_later was closed rows are l =
    filter_among (λ (r : BondRow). r.number) (is_live was) (is_live closed) (lasts closed rows) rows
    (all_each (λ (r : BondRow). (lasts closed rows r.number ≡ is_live closed r) × (is_live closed r ≡ true → is_live was r ≡ true)) rows
    (λ k d kl. (ap (λ (r : BondRow). nat_le closed r.last) (row_is rows are k d kl), λ h. later was closed (get_or rows k d).last l h)))

past : (closed last : ℕ) → nat_le closed last ≡ false → last < closed
past closed last h = grind (arith, common_steps)

-- what the close of a month charges for them is what it charges for all
abbrev pub charge_of_number : ℕ → List Due → List BondRow → ℕ → ℕ
charge_of_number closed all rows n = interest_charge closed (view_bond all (row_at rows n))

pub live_sum : (closed : ℕ) (all : List Due) (rows : List BondRow) (live : List ℕ) → AreRows closed all rows → live ≡ live_of closed rows →
    sum_by (charge_of_number closed all rows) live ≡ sum_by (interest_charge closed) (view_bonds all rows)
live_sum closed all rows live each is =
    ap (sum_by (charge_of_number closed all rows)) is
    ∙ sum_among (λ (r : BondRow). r.number) (is_live closed) (charge_of_number closed all rows) (interest_charge closed) (view_bond all) rows
    (all_each (λ (r : BondRow). (charge_of_number closed all rows r.number ≡ interest_charge closed (view_bond all r)) × (is_live closed r ≡ false → interest_charge closed (view_bond all r) ≡ 0)) rows
    (λ k d l. (
      ap (λ (r : BondRow). interest_charge closed (view_bond all r)) (row_is rows (numbered closed all rows each) k d l),
      λ h. no_charge all (get_or rows k d) closed (each k d l).bond (past closed (get_or rows k d).last h),
    )))

-- the first of them that isn't paid is the first of all
abbrev pub unpaid_number : Plan → ℕ → List Due → List BondRow → ℕ → Option Refusal
unpaid_number plan closed all rows n = unpaid_of plan closed (view_bond all (row_at rows n))

quiet : (plan : Plan) (closed : ℕ) (all : List Due) (k : ℕ) (r : BondRow) → IsRow closed all k r → r.last < closed → unpaid_of plan closed (view_bond all r) ≡ None
quiet plan closed all k r row l = by_paid (less_or_not r.paid r.count)
  where
    by_paid : (r.paid < r.count) ⊎ (r.count ≤ r.paid) → unpaid_of plan closed (view_bond all r) ≡ None
    by_paid (inl more) = absurd (omega (arith, row.unpaid more, row.bond.last, mul-le r.terms.every (r.paid + 1) r.terms.every r.count (omega arith) (omega (arith, more)), l))
    by_paid (inr none) = ap (unpaid plan closed (view_bond all r)) (next_none all r row.bond none)

pub live_first : (plan : Plan) (closed : ℕ) (all : List Due) (rows : List BondRow) (live : List ℕ) → AreRows closed all rows → live ≡ live_of closed rows →
    first_refusal (unpaid_number plan closed all rows) live ≡ first_refusal (unpaid_of plan closed) (view_bonds all rows)
live_first plan closed all rows live each is =
    ap (first_refusal (unpaid_number plan closed all rows)) is
    ∙ first_among (λ (r : BondRow). r.number) (is_live closed) (unpaid_number plan closed all rows) (unpaid_of plan closed) (view_bond all) rows
    (all_each (λ (r : BondRow). (unpaid_number plan closed all rows r.number ≡ unpaid_of plan closed (view_bond all r)) × (is_live closed r ≡ false → unpaid_of plan closed (view_bond all r) ≡ None)) rows
    (λ k d l. (
      ap (λ (r : BondRow). unpaid_of plan closed (view_bond all r)) (row_is rows (numbered closed all rows each) k d l),
      λ h. quiet plan closed all k (get_or rows k d) (each k d l) (past closed (get_or rows k d).last h),
    )))

-- ---- a step of a loop over them

pub first_found : (f : ℕ → Option Refusal) (live : List ℕ) (k n : ℕ) (r : Refusal) → k < length live → n ≡ get_or live k n → Some r ≡ f n → first_refusal f (drop k live) ≡ first_refusal f live →
    Some r ≡ first_refusal f live
first_found f live k n r l at found more =
    sym (sym more ∙ ap (first_refusal f) (drop_more live k n l) ∙ ap (λ o. or_else o (first_refusal f (drop (k + 1) live))) (ap f (sym at) ∙ sym found))

-- ---- a list of them that is filtered in place

still : (xs ys : List ℕ) (k d : ℕ) → drop k ys ≡ drop k xs → get_or ys k d ≡ get_or xs k d
still xs ys k d same =
    let e : k + 0 ≡ k = omega arith in
    sym (get_or-drop k ys 0 d ∙ ap (λ j. get_or ys j d) e) ∙ ap (λ zs. get_or zs 0 d) same ∙ get_or-drop k xs 0 d ∙ ap (λ j. get_or xs j d) e

pub place_now : (was : ℕ) (rows : List BondRow) (old now : List ℕ) (k n : ℕ) → AreNumbered rows → old ≡ live_of was rows → drop k now ≡ drop k old → k < length old → n ≡ get_or now k n → IsPlace rows n
place_now was rows old now k n are is same l at = subst (IsPlace rows) (sym (at ∙ still old now k n same)) (live_place was rows old are is k n l)

pub is_lasting : (closed : ℕ) (rows : List BondRow) (n : ℕ) → closed ≤ (row_at rows n).last → lasts closed rows n ≡ true
is_lasting closed rows n l = le_true closed (row_at rows n).last l
  where
    le_true : (a b : ℕ) → a ≤ b → nat_le a b ≡ true
    le_true a b l = grind (arith, common_steps)

pub not_lasting : (closed : ℕ) (rows : List BondRow) (n : ℕ) → (row_at rows n).last < closed → lasts closed rows n ≡ false
not_lasting closed rows n l = le_false closed (row_at rows n).last l
  where
    le_false : (a b : ℕ) → b < a → nat_le a b ≡ false
    le_false a b l = grind (arith, common_steps)
