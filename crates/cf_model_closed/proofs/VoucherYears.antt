-- The items of a voucher are of one fiscal year, and an order's item of which a voucher took
-- something is of that year.
use Rattle.std.proofs.Common.{◌≡◌, ◌≢◌, ◌⊎◌, inl, inr, ℕ, ◌+◌, ◌<◌, ◌≤◌, Bool, true, false, not, if◌then◌else◌, ◌==◌, ◌&&◌, ◌||◌, List, [], ◌∷◌, ◌++◌, map, find, Some, None, IfSome, refl, sym, ap, subst, ◌∙◌, arith}
use Rattle.cf_base.proofs.Common.{list_any, AllByRecursion, eqb_tells}
use Rattle.cf_model.specs.Common.{Day, Act, Voucher, Close, NewVoucher, Entry, Charge, Direct, OnOrder, VoucherItem, document_year, rolled_year, rolls, charged_state, charge_state, not_live, state_refusal, Expenditure, Documents, documents_of, no_documents, draws_voucher, expenditure_of, expenditure_step, OrderItem, Liquidated, is_live, is_named, item_named, item_step, items_by, lapsed, lapses, open_of, state_of, Registers, registers_of, draws, first_refusal, refuse_if, Adds, IsLegal}
use Rattle.cf_calls.specs.declared.names.DocumentKind.TheVariants as kind
use Rattle.cf_calls.specs.declared.refusal.DocumentState.TheVariants as state
use Rattle.cf_calls.specs.declared.refusal.Refusal.TheVariants as refusal
use Rattle.cf_calls.specs.Common.{voucher_items, is_distinct}
use Rattle.cf_chart.specs.Common.{Plan}
use Rattle.cf_model.proofs.Common.{accepted, or_else_none, refuse_none, spend_same, documents_are, IsNewItem, all_append, all_map, all_new, both, charges, documents_push, is_charged, new_items, not_true, same_place, step_same, step_taken, tidy_always, all_so}
use Rattle.cf_model_closed.proofs.Over.{legal_by_steps}

-- ---- lists

-- what holds of all elements holds of the one that is found
pub of_found : {A : Type 0} (P : A → Type 0) (p : A → Bool) (xs : List A) → AllByRecursion P xs → IfSome (find p xs) P
of_found P p [] all = tt
of_found P p (x ∷ xs) all = by_test (p x) (of_found P p xs all.1)
  where
    by_test : (b : Bool) → IfSome (find p xs) P → IfSome (if b then Some x else find p xs) P
    by_test true rest = all.0
    by_test false rest = rest

-- ---- an item is the one of its order and place

-- the item found under each name of an item is that item
abbrev pub IsFound : List OrderItem → OrderItem → Type 0
IsFound items i = (order place : ℕ) → is_named order place i ≡ true → item_named order place items ≡ Some i

or_false : (a b : Bool) → (a || b) ≡ false → (a ≡ false) × (b ≡ false)
or_false true b e = cc
or_false false b e = (refl, e)

same_number : (a b : ℕ) → (a == b) ≡ true → a ≡ b
same_number a b e = by_test (a == b) (eqb_tells a b) e
  where
    by_test : (t : Bool) → ((t ≡ true) × (a ≡ b)) ⊎ ((t ≡ false) × (a ≢ b)) → t ≡ true → a ≡ b
    by_test t (inl h) e = h.1
    by_test t (inr h) e = absurd (cc)

-- the others have other names than an item that is apart
others_found : (i : OrderItem) (items rest : List OrderItem) → list_any (same_place i) rest ≡ false → AllByRecursion (IsFound items) rest → AllByRecursion (IsFound (i ∷ items)) rest
others_found i items [] apart all = tt
others_found i items (j ∷ rest) apart all =
    let b = or_false (same_place i j) (list_any (same_place i) rest) apart in
    ((λ order place named. by_test order place (is_named order place i) refl named b.0), others_found i items rest b.1 all.1)
  where
    by_test : (order place : ℕ) (t : Bool) → is_named order place i ≡ t → is_named order place j ≡ true → same_place i j ≡ false → (if t then Some i else item_named order place items) ≡ Some j
    by_test order place false is named other = all.0 order place named
    by_test order place true is named other =
        let here = both (i.order == order) (i.place == place) is in
        let clash : same_place i j ≡ true = (λ k. is_named (same_number i.order order here.0 k) (same_number i.place place here.1 k) j) ∙ named in
        absurd (cc)

pub each_found : (items : List OrderItem) → is_distinct same_place items ≡ true → AllByRecursion (IsFound items) items
each_found [] apart = tt
each_found (i ∷ items) apart =
    let b = both (not (list_any (same_place i) items)) (is_distinct same_place items) apart in
    ((λ order place named. (λ k. if named k then Some i else item_named order place items)), others_found i items items (not_true _ b.0) (each_found items b.1))

-- ---- an item that a voucher charges is of the voucher's year

-- what the rule on an item's state says of its year
pub charged_of : (year : ℕ) (i : OrderItem) → charged_state year (Some i) ≡ None → i.year ≡ year
charged_of year i none =
    let b = or_else_none (not_live i.place (state_of i)) (refuse_if (not (i.year == year)) (refusal.DocState kind.Item i.place state.OtherYear)) none in
    same_number i.year year (not_false _ (refuse_none (not (i.year == year)) (refusal.DocState kind.Item i.place state.OtherYear) b.1))
  where
    not_false : (b : Bool) → not b ≡ false → b ≡ true
    not_false true e = refl
    not_false false e = cc

charge_year : (year : ℕ) (items : List OrderItem) (i : OrderItem) → IsFound items i → (c : Charge) → charges c i ≡ true → charge_state year items c ≡ None → i.year ≡ year
charge_year year items i found Direct charged none = absurd (cc)
charge_year year items i found (OnOrder place order how) charged none = charged_of year i (sym (ap (charged_state year) (found order place charged)) ∙ none)

charged_year : (year : ℕ) (items : List OrderItem) (i : OrderItem) → IsFound items i → (vs : List VoucherItem) → first_refusal (λ v. charge_state year items v.charge) vs ≡ None → is_charged i vs ≡ true → i.year ≡ year
charged_year year items i found [] none charged = absurd (cc)
charged_year year items i found (v ∷ vs) none charged =
    let b = or_else_none (charge_state year items v.charge) (first_refusal (λ v. charge_state year items v.charge) vs) none in
    by_test (charges v.charge i) refl b.0 (charged_year year items i found vs b.1) charged
  where
    by_test : (t : Bool) → charges v.charge i ≡ t → charge_state year items v.charge ≡ None → (is_charged i vs ≡ true → i.year ≡ year) → (t || is_charged i vs) ≡ true → i.year ≡ year
    by_test true is here rest e = charge_year year items i found v.charge is here
    by_test false is here rest e = rest e

-- ---- the years of vouchers

abbrev IsOfYear : (ℕ → ℕ) → Expenditure → Type 0
IsOfYear year x = x.year ≡ year x.voucher

-- what was taken of an item was taken by a voucher of its year
abbrev IsTakenBy : (ℕ → ℕ) → ℕ → ℕ → Liquidated → Type 0
IsTakenBy year most of t = (of ≡ year t.voucher) × (t.voucher ≤ most)

abbrev pub IsTakenInYear : (ℕ → ℕ) → ℕ → OrderItem → Type 0
IsTakenInYear year most i = AllByRecursion (λ t. (i.year ≡ year t.voucher) × (t.voucher ≤ most)) i.taken

-- each voucher has a year, which its items have and the order items of which it took something
pub record HaveYears (year : ℕ → ℕ) (items : List OrderItem) (xs : List Expenditure) (most : ℕ) : Type 0 where
  pub spent : AllByRecursion (λ x. x.year ≡ year x.voucher) xs
  pub few : AllByRecursion (λ x. x.voucher ≤ most) xs
  pub taken : AllByRecursion (IsTakenInYear year most) items

abbrev pub HasVoucherYears : Documents → Type 0
HasVoucherYears s = (year : ℕ → ℕ) × HaveYears year s.items s.expenditures s.vouchers

-- ---- an act that is no voucher

kept_spent : (plan : Plan) (year : ℕ → ℕ) (act : Act) (x : Expenditure) → IsOfYear year x → IsOfYear year (expenditure_step act x)
kept_spent plan year act x is = let same = spend_same plan act x in same.year ∙ is ∙ ap year (sym same.voucher)

kept_few : (plan : Plan) (most : ℕ) (act : Act) (x : Expenditure) → x.voucher ≤ most → (expenditure_step act x).voucher ≤ most
kept_few plan most act x l = omega (arith, l, (spend_same plan act x).voucher)

-- what is taken of an item in its year stays so where the item's year stays
stays_taken : (year : ℕ → ℕ) (most : ℕ) (i j : OrderItem) → j.year ≡ i.year → AllByRecursion (IsTakenBy year most i.year) j.taken → IsTakenInYear year most j
stays_taken year most i j same all = subst (λ (y : ℕ). AllByRecursion (IsTakenBy year most y) j.taken) (sym same) all

uncharged : (plan : Plan) (number : ℕ) (year : ℕ → ℕ) (most : ℕ) (act : Act) (i : OrderItem) → rolled_year plan act ≡ None → voucher_items act ≡ [] → IsTakenInYear year most i →
    IsTakenInYear year most (item_step plan number act i)
uncharged plan number year most act i none no_items taken =
    stays_taken year most i (item_step plan number act i) (step_same plan number act i none).year
    (step_taken (IsTakenBy year most i.year) plan number act i taken (λ t is charged. absurd (clash (sym (ap (is_charged i) no_items) ∙ charged))))
  where
    clash : false ≡ true → ⊥
    clash e = cc

-- the roll of an item's year lets it lapse with what was taken of it, or carries it with nothing
-- taken
rolled_taken : (plan : Plan) (year : ℕ → ℕ) (most : ℕ) (i : OrderItem) → IsTakenInYear year most i → (b : Bool) →
    IsTakenInYear year most (if b then (if lapses plan i then record i { stage = lapsed } else record i { year = i.year + 1; base = open_of i; taken = [] }) else i)
rolled_taken plan year most i taken false = taken
rolled_taken plan year most i taken true = by_test (lapses plan i)
  where
    by_test : (b : Bool) → IsTakenInYear year most (if b then record i { stage = lapsed } else record i { year = i.year + 1; base = open_of i; taken = [] })
    by_test true = taken
    by_test false = tt

step_years : (plan : Plan) (number : ℕ) (year : ℕ → ℕ) (most : ℕ) (act : Act) (i : OrderItem) → voucher_items act ≡ [] → IsTakenInYear year most i → IsTakenInYear year most (item_step plan number act i)
step_years plan number year most (Close p) i no_items taken = rolled_taken plan year most i taken (rolls plan i.year (Close p) && is_live i)
step_years plan number year most act i no_items taken = uncharged plan number year most act i refl no_items taken

none_taken : (year : ℕ → ℕ) (most number of : ℕ) (items : List OrderItem) → AllByRecursion (IsNewItem number of) items → AllByRecursion (IsTakenInYear year most) items
none_taken year most number of [] all = tt
none_taken year most number of (i ∷ items) all =
    (subst (AllByRecursion (IsTakenBy year most i.year)) (sym all.0.taken) tt, none_taken year most number of items all.1)

others_years : (plan : Plan) (year : ℕ → ℕ) (number of most : ℕ) (act : Act) (items : List OrderItem) (xs : List Expenditure) → voucher_items act ≡ [] → HaveYears year items xs most →
    HaveYears year (map (item_step plan number act) items ++ items_by number of act) (map (expenditure_step act) xs ++ []) most
others_years plan year number of most act items xs no_items have = record {
  spent = all_append (IsOfYear year) (map (expenditure_step act) xs) [] (all_map (IsOfYear year) (IsOfYear year) (expenditure_step act) (kept_spent plan year act) xs have.spent) tt;
  few = all_append (λ x. x.voucher ≤ most) (map (expenditure_step act) xs) [] (all_map (λ x. x.voucher ≤ most) (λ x. x.voucher ≤ most) (expenditure_step act) (kept_few plan most act) xs have.few) tt;
  taken =
      all_append (IsTakenInYear year most) (map (item_step plan number act) items) (items_by number of act)
      (all_map (IsTakenInYear year most) (IsTakenInYear year most) (item_step plan number act) (λ i taken. step_years plan number year most act i no_items taken) items have.taken)
      (none_taken year most number of (items_by number of act) (new_items number of act));
}

-- ---- a voucher

-- the years of vouchers, with one more
abbrev year_with : (ℕ → ℕ) → ℕ → ℕ → ℕ → ℕ
year_with year number of n = if n == number then of else year n

of_new : (year : ℕ → ℕ) (number of n : ℕ) → n ≡ number → year_with year number of n ≡ of
of_new year number of n is = by_test (n == number) (eqb_tells n number)
  where
    by_test : (b : Bool) → ((b ≡ true) × (n ≡ number)) ⊎ ((b ≡ false) × (n ≢ number)) → (if b then of else year n) ≡ of
    by_test true t = refl
    by_test false (inl t) = cc
    by_test false (inr t) = absurd (t.1 is)

of_old : (year : ℕ → ℕ) (number of n : ℕ) → n < number → year_with year number of n ≡ year n
of_old year number of n less = by_test (n == number) (eqb_tells n number)
  where
    by_test : (b : Bool) → ((b ≡ true) × (n ≡ number)) ⊎ ((b ≡ false) × (n ≢ number)) → (if b then of else year n) ≡ year n
    by_test true (inl t) = absurd (omega (arith, less, t.1))
    by_test true (inr t) = cc
    by_test false t = refl

all_both : {A : Type 0} (P Q R : A → Type 0) → ((x : A) → P x → Q x → R x) → (xs : List A) → AllByRecursion P xs → AllByRecursion Q xs → AllByRecursion R xs
all_both P Q R so [] a b = tt
all_both P Q R so (x ∷ xs) a b = (so x a.0 b.0, all_both P Q R so xs a.1 b.1)

charged_years : (plan : Plan) (year : ℕ → ℕ) (number of most : ℕ) (v : NewVoucher) (items : List OrderItem) → number ≡ most + 1 →
    first_refusal (λ i. charge_state of items i.charge) v.items ≡ None → (i : OrderItem) → IsFound items i → IsTakenInYear year most i →
    IsTakenInYear (year_with year number of) (most + 1) (item_step plan number (Voucher v) i)
charged_years plan year number of most v items next none i found taken =
    let P : Liquidated → Type 0 = IsTakenBy (year_with year number of) (most + 1) i.year in
    stays_taken (year_with year number of) (most + 1) i (item_step plan number (Voucher v) i) (step_same plan number (Voucher v) i refl).year
    (step_taken P plan number (Voucher v) i
    (all_so (IsTakenBy year most i.year) P (λ t h. (h.0 ∙ sym (of_old year number of t.voucher (omega (arith, next, h.1))), omega (arith, h.1))) i.taken taken)
    (λ t is charged. (charged_year of items i found v.items none charged ∙ sym (of_new year number of t.voucher is), omega (arith, is, next))))

voucher_years : (plan : Plan) (year : ℕ → ℕ) (number desk : ℕ) (on : Day) (of most : ℕ) (v : NewVoucher) (items : List OrderItem) (xs : List Expenditure) → number ≡ most + 1 →
    first_refusal (λ i. charge_state of items i.charge) v.items ≡ None → is_distinct same_place items ≡ true → HaveYears year items xs most →
    HaveYears (year_with year number of) (map (item_step plan number (Voucher v)) items ++ []) (map (λ x. x) xs ++ map (expenditure_of number desk on of) v.items) (most + 1)
voucher_years plan year number desk on of most v items xs next none apart have =
    let new = map (expenditure_of number desk on of) v.items in
    record {
      spent =
          all_append (IsOfYear (year_with year number of)) (map (λ x. x) xs) new
          (all_map (IsOfYear (year_with year number of)) (IsOfYear (year_with year number of)) (λ x. x) (λ x h. h) xs
          (all_both (IsOfYear year) (λ x. x.voucher ≤ most) (IsOfYear (year_with year number of)) (λ x is l. is ∙ sym (of_old year number of x.voucher (omega (arith, next, l)))) xs have.spent have.few))
          (all_new (IsOfYear (year_with year number of)) (expenditure_of number desk on of) (λ i. sym (of_new year number of number refl)) v.items);
      few =
          all_append (λ x. x.voucher ≤ most + 1) (map (λ x. x) xs) new
          (all_map (λ x. x.voucher ≤ most) (λ x. x.voucher ≤ most + 1) (λ x. x) (λ x l. omega (arith, l)) xs have.few)
          (all_new (λ x. x.voucher ≤ most + 1) (expenditure_of number desk on of) (λ i. omega (arith, next)) v.items);
      taken =
          all_append (IsTakenInYear (year_with year number of) (most + 1)) (map (item_step plan number (Voucher v)) items) []
          (all_map (λ i. IsFound items i × IsTakenInYear year most i) (IsTakenInYear (year_with year number of) (most + 1)) (item_step plan number (Voucher v))
          (λ i h. charged_years plan year number of most v items next none i h.0 h.1) items
          (all_both (IsFound items) (IsTakenInYear year most) (λ i. IsFound items i × IsTakenInYear year most i) (λ i found taken. (found, taken)) items (each_found items apart) have.taken))
          tt;
    }

-- ---- one entry more

-- the number that a voucher draws is the next
abbrev DrawsNext : Documents → ℕ → Act → Type 0
DrawsNext s number (Voucher v) = number ≡ s.vouchers + 1
DrawsNext s number _ = Unit {0}

draws_next : (s : Registers) (act : Act) (number : ℕ) → number ≡ (draws s act).number → DrawsNext s.documents number act
draws_next s (Voucher v) number is = is
draws_next s _ number is = tt

with_more : (year : ℕ → ℕ) (items : List OrderItem) (xs : List Expenditure) (most : ℕ) → HaveYears year items xs most → HaveYears year items xs (most + 0)
with_more year items xs most have = let same : most ≡ most + 0 = omega arith in subst (HaveYears year items xs) same have

years_by : (plan : Plan) (s : Documents) (number desk : ℕ) (on : Day) (act : Act) → DrawsNext s number act → state_refusal plan s on act ≡ None → is_distinct same_place s.items ≡ true → HasVoucherYears s →
    (year : ℕ → ℕ) × HaveYears year (map (item_step plan number act) s.items ++ items_by number (document_year plan on act) act)
    (map (expenditure_step act) s.expenditures ++ map (expenditure_of number desk on (document_year plan on act)) (voucher_items act)) (s.vouchers + draws_voucher act)
years_by plan s number desk on (Voucher v) next none apart has =
    (year_with has.0 number (document_year plan on (Voucher v)), voucher_years plan has.0 number desk on (document_year plan on (Voucher v)) s.vouchers v s.items s.expenditures next none apart has.1)
years_by plan s number desk on act next none apart has =
    (has.0, with_more has.0 _ _ s.vouchers (others_years plan has.0 number (document_year plan on act) s.vouchers act s.items s.expenditures refl has.1))

years_step : (plan : Plan) (h : List Entry) (e : Entry) → IsLegal plan h → HasVoucherYears (documents_of plan h) → Adds plan h e → HasVoucherYears (documents_of plan (h ++ e ∷ []))
years_step plan h e legal has adds =
    let a = accepted plan h e adds in
    let next = draws_next (registers_of plan h) e.change.act e.drawn.number (ap (λ (x : Entry). x.drawn.number) a.entry) in
    subst HasVoucherYears (sym (documents_push plan no_documents h e))
    (years_by plan (documents_of plan h) e.drawn.number e.change.desk e.change.on e.change.act (subst (λ (d : Documents). DrawsNext d e.drawn.number e.change.act) (documents_are plan h) next) a.states
    (tidy_always plan h legal).places has)

-- each voucher of a legal history has a year
pub voucher_years_are : (plan : Plan) (h : List Entry) → IsLegal plan h → HasVoucherYears (documents_of plan h)
voucher_years_are plan h legal = legal_by_steps plan (λ h. HasVoucherYears (documents_of plan h)) ((λ n. n), record { spent = tt; few = tt; taken = tt }) (years_step plan) h legal
