-- What a history does to accounts, as one list of deeds, and what sums of their posts come to.
use Rattle.std.proofs.Common.{◌≡◌, ℕ, ◌==◌, List, [], ◌∷◌, ◌++◌, map, sum_by, Option, Some, None, Bool, ℤ, pos, ◌+ℤ◌, refl, sym, ap, ◌∙◌, append_assoc, append-nil, arith, filter}
use Rattle.cf_base.proofs.Common.{ints}
use Rattle.cf_model.specs.Common.{Day, BillAmount, Disposal, FundMoveKind, Entry, VoucherItem, Basis, Function, Asset, leased, owned, Bond, Due, interest_charge, next_due, bonds_deeds, collect_deeds, deeds_of, dispose_deed, due_deeds, fund_deed, pay_deed, pay_items, spent_item, write_off_deeds, Expenditure, year_at, spent_by, act_posts, posts_after, posts_by, posts_in, rows_of, Registers, no_registers, registers_after, registers_of, registers_step, int_sum}
use Rattle.cf_calls.specs.declared.acts.FundMoveKind.TheVariants as move
use Rattle.cf_chart.specs.Common.{Plan}
use Rattle.cf_ledger.specs.declared.post.Post.{Post}
use Rattle.cf_ledger.specs.Posts.{sum_where}
use Rattle.cf_ledger.proofs.Sums.{sum_append as posts_append}
use Rattle.cf_model.specs.Receivables.{Bill}
use Rattle.cf_model.proofs.Capital as assets
use Rattle.cf_model.proofs.Common.{none_first, sum_append, sum_map, sum_none}
use Rattle.cf_post.specs.Rows.{without_zeros}
use Rattle.cf_post.proofs.Balances.{sum_stays}
use Rattle.cf_post.specs.declared.deed.Collection.{Collection}
use Rattle.cf_post.specs.declared.deed.Deed.{Deed}
use Rattle.cf_post.specs.declared.deed.Deed.TheVariants as deed
use Rattle.cf_post.specs.declared.deed.Disposal.{Disposal as Disposed}
use Rattle.cf_post.specs.declared.deed.DuePayment.{DuePayment}
use Rattle.cf_post.specs.declared.deed.FundAmount.{FundAmount}
use Rattle.cf_post.specs.declared.deed.FundsAmount.{FundsAmount}
use Rattle.cf_post.specs.declared.deed.SourceAmount.{SourceAmount}
use Rattle.cf_post.specs.declared.deed.SpentItem.{SpentItem}

-- ---- the deeds of a history

abbrev pub deeds_after : Plan → Registers → List Entry → List Deed
deeds_after plan s [] = []
deeds_after plan s (e ∷ later) = deeds_of plan s e.change.on e.change.act ++ deeds_after plan (registers_step plan s e) later

abbrev pub deeds_in : Plan → List Entry → List Deed
deeds_in plan history = deeds_after plan no_registers history

after_push : (plan : Plan) (s : Registers) (h : List Entry) (e : Entry) →
    deeds_after plan s (h ++ e ∷ []) ≡ deeds_after plan s h ++ deeds_of plan (registers_after plan s h) e.change.on e.change.act
after_push plan s [] e = append-nil (deeds_of plan s e.change.on e.change.act)
after_push plan s (x ∷ h) e =
    let here = deeds_of plan s x.change.on x.change.act in
    ap (λ deeds. here ++ deeds) (after_push plan (registers_step plan s x) h e)
    ∙ sym (append_assoc here (deeds_after plan (registers_step plan s x) h) (deeds_of plan (registers_after plan s (x ∷ h)) e.change.on e.change.act))

-- an entry's deeds come after those of the history
pub pushed_deeds : (plan : Plan) (h : List Entry) (e : Entry) → deeds_in plan (h ++ e ∷ []) ≡ deeds_in plan h ++ deeds_of plan (registers_of plan h) e.change.on e.change.act
pushed_deeds plan h e = after_push plan no_registers h e

pub deeds_push : (f : Deed → ℤ) (plan : Plan) (h : List Entry) (e : Entry) →
    int_sum f (deeds_in plan (h ++ e ∷ [])) ≡ int_sum f (deeds_in plan h) +ℤ int_sum f (deeds_of plan (registers_of plan h) e.change.on e.change.act)
deeds_push f plan h e = ap (int_sum f) (pushed_deeds plan h e) ∙ sum_append f (deeds_in plan h) (deeds_of plan (registers_of plan h) e.change.on e.change.act)

-- ---- their posts

by_append : (basis : Basis) (deeds more : List Deed) → posts_by basis (deeds ++ more) ≡ posts_by basis deeds ++ posts_by basis more
by_append basis [] more = refl
by_append basis (d ∷ deeds) more =
    ap (λ posts. without_zeros (rows_of basis d) ++ posts) (by_append basis deeds more)
    ∙ sym (append_assoc (without_zeros (rows_of basis d)) (posts_by basis deeds) (posts_by basis more))

posts_are : (basis : Basis) (plan : Plan) (s : Registers) (h : List Entry) → posts_after basis plan s h ≡ posts_by basis (deeds_after plan s h)
posts_are basis plan s [] = refl
posts_are basis plan s (e ∷ h) =
    ap (λ posts. act_posts basis plan s e.change.on e.change.act ++ posts) (posts_are basis plan (registers_step plan s e) h)
    ∙ sym (by_append basis (deeds_of plan s e.change.on e.change.act) (deeds_after plan (registers_step plan s e) h))

pub posts_in_are : (basis : Basis) (plan : Plan) (h : List Entry) → posts_in basis plan h ≡ posts_by basis (deeds_in plan h)
posts_in_are basis plan h = posts_are basis plan no_registers h

each_posted : (basis : Basis) (test : Post → Bool) (deeds : List Deed) → sum_where test (posts_by basis deeds) ≡ int_sum (λ d. sum_where test (rows_of basis d)) deeds
each_posted basis test [] = refl
each_posted basis test (d ∷ deeds) =
    posts_append test (without_zeros (rows_of basis d)) (posts_by basis deeds)
    ∙ (λ i. sum_stays test (rows_of basis d) i +ℤ each_posted basis test deeds i)

-- what the posts that pass a test come to is what those of each deed do
pub posted : (basis : Basis) (test : Post → Bool) (plan : Plan) (h : List Entry) →
    sum_where test (posts_in basis plan h) ≡ int_sum (λ d. sum_where test (rows_of basis d)) (deeds_in plan h)
posted basis test plan h = ap (sum_where test) (posts_in_are basis plan h) ∙ each_posted basis test (deeds_in plan h)

-- ---- deeds that add nothing to a sum

pub voucher_none : (f : Deed → ℤ) → ((x : SpentItem) → f (deed.Voucher x) ≡ pos 0) → (plan : Plan) (year : ℕ) (items : List VoucherItem) →
    int_sum f (map (λ (i : VoucherItem). deed.Voucher (spent_item plan year i.account)) items) ≡ pos 0
voucher_none f none plan year items =
    sum_map f (λ (i : VoucherItem). deed.Voucher (spent_item plan year i.account)) items
    ∙ sum_none (λ (i : VoucherItem). f (deed.Voucher (spent_item plan year i.account))) (λ i. none (spent_item plan year i.account)) items

pub void_none : (f : Deed → ℤ) → ((x : SpentItem) → f (deed.VoidVoucher x) ≡ pos 0) → (plan : Plan) (xs : List Expenditure) →
    int_sum f (map (λ (x : Expenditure). deed.VoidVoucher (spent_item plan x.year x.account)) xs) ≡ pos 0
void_none f none plan xs =
    sum_map f (λ (x : Expenditure). deed.VoidVoucher (spent_item plan x.year x.account)) xs
    ∙ sum_none (λ (x : Expenditure). f (deed.VoidVoucher (spent_item plan x.year x.account))) (λ x. none (spent_item plan x.year x.account)) xs

pub pay_none : (f : Deed → ℤ) → ((x : FundAmount) → f (deed.Pay x) ≡ pos 0) → (year : ℕ) (xs : List Expenditure) (vouchers : List ℕ) → int_sum f (pay_items year xs vouchers) ≡ pos 0
pay_none f none year xs [] = refl
pay_none f none year xs (n ∷ vouchers) =
    sum_append f (map (pay_deed year) (spent_by n xs)) (pay_items year xs vouchers)
    ∙ (λ i. (sum_map f (pay_deed year) (spent_by n xs) ∙ sum_none (λ x. f (pay_deed year x)) (λ x. none (record { year = year; fund = x.account.fund; amount = x.account.amount })) (spent_by n xs)) i
    +ℤ pay_none f none year xs vouchers i)
    ∙ none_first (pos 0)

pub collect_none : (f : Deed → ℤ) → ((x : Collection) → f (deed.Collect x) ≡ pos 0) → (plan : Plan) (on : Day) (c : BillAmount) (o : Option Bill) → int_sum f (collect_deeds plan on c o) ≡ pos 0
collect_none f none plan on c None = refl
collect_none f none plan on c (Some b) = ap (λ z. z +ℤ pos 0) (none _) ∙ none_first (pos 0)

pub write_off_none : (f : Deed → ℤ) → ((x : SourceAmount) → f (deed.WriteOff x) ≡ pos 0) → (plan : Plan) (on : Day) (w : BillAmount) (o : Option Bill) → int_sum f (write_off_deeds plan on w o) ≡ pos 0
write_off_none f none plan on w None = refl
write_off_none f none plan on w (Some b) = ap (λ z. z +ℤ pos 0) (none _) ∙ none_first (pos 0)

pub between_none : (f : Deed → ℤ) → ((x : FundsAmount) → f (deed.Transfer x) ≡ pos 0) → ((x : FundsAmount) → f (deed.Loan x) ≡ pos 0) → ((x : FundsAmount) → f (deed.Repay x) ≡ pos 0) →
    (what : FundMoveKind) (a : FundsAmount) → int_sum f (fund_deed what a ∷ []) ≡ pos 0
between_none f transfer loan repay move.Transfer a = ap (λ z. z +ℤ pos 0) (transfer a) ∙ none_first (pos 0)
between_none f transfer loan repay move.Loan a = ap (λ z. z +ℤ pos 0) (loan a) ∙ none_first (pos 0)
between_none f transfer loan repay move.Repay a = ap (λ z. z +ℤ pos 0) (repay a) ∙ none_first (pos 0)

pub dispose_none : (f : Deed → ℤ) → ((x : Disposed) → f (deed.Dispose x) ≡ pos 0) → (plan : Plan) (closed : ℕ) (on : Day) (d : Disposal) (assets : List Asset) →
    int_sum f (map (dispose_deed plan closed on d) (filter (λ a. a.number == d.asset) assets)) ≡ pos 0
dispose_none f none plan closed on d assets =
    sum_map f (dispose_deed plan closed on d) (filter (λ a. a.number == d.asset) assets)
    ∙ sum_none (λ a. f (dispose_deed plan closed on d a)) (λ a. none _) (filter (λ a. a.number == d.asset) assets)

pub dues_none : (f : Deed → ℤ) → ((x : DuePayment) → f (deed.PayDue x) ≡ pos 0) → (plan : Plan) (on : Day) (fund : ℕ) (bonds : List Bond) → int_sum f (bonds_deeds plan on fund bonds) ≡ pos 0
dues_none f none plan on fund [] = refl
dues_none f none plan on fund (b ∷ bonds) =
    sum_append f (due_deeds plan on fund b (next_due b)) (bonds_deeds plan on fund bonds) ∙ (λ i. one (next_due b) i +ℤ dues_none f none plan on fund bonds i) ∙ none_first (pos 0)
  where
    one : (o : Option Due) → int_sum f (due_deeds plan on fund b o) ≡ pos 0
    one None = refl
    one (Some p) = ap (λ z. z +ℤ pos 0) (none _) ∙ none_first (pos 0)

-- the close of a month, but for its interest
pub close_none : (f : Deed → ℤ) (plan : Plan) (s : Registers) → ((x : Function) → f (assets.function_deed plan s.closed (owned s.assets) x) ≡ pos 0) →
    ((x : Function) → f (assets.amortize_deed plan s.closed (leased s.assets) x) ≡ pos 0) →
    int_sum f (map (assets.function_deed plan s.closed (owned s.assets)) plan.functions
    ++ (map (assets.amortize_deed plan s.closed (leased s.assets)) plan.functions ++ deed.AccrueInterest (record { year = year_at plan s.closed; amount = sum_by (interest_charge s.closed) s.bonds }) ∷ []))
    ≡ f (deed.AccrueInterest (record { year = year_at plan s.closed; amount = sum_by (interest_charge s.closed) s.bonds }))
close_none f plan s depreciate amortize =
    let owned_deeds = map (assets.function_deed plan s.closed (owned s.assets)) plan.functions in
    let leased_deeds = map (assets.amortize_deed plan s.closed (leased s.assets)) plan.functions in
    let interest = deed.AccrueInterest (record { year = year_at plan s.closed; amount = sum_by (interest_charge s.closed) s.bonds }) in
    sum_append f owned_deeds (leased_deeds ++ interest ∷ [])
    ∙ (λ i. (sum_map f (assets.function_deed plan s.closed (owned s.assets)) plan.functions ∙ sum_none (λ x. f (assets.function_deed plan s.closed (owned s.assets) x)) depreciate plan.functions) i
    +ℤ (sum_append f leased_deeds (interest ∷ [])
    ∙ ap (λ z. z +ℤ (f interest +ℤ pos 0))
    (sum_map f (assets.amortize_deed plan s.closed (leased s.assets)) plan.functions ∙ sum_none (λ x. f (assets.amortize_deed plan s.closed (leased s.assets) x)) amortize plan.functions)) i)
    ∙ alone (f interest)
  where
    alone : (z : ℤ) → pos 0 +ℤ (pos 0 +ℤ (z +ℤ pos 0)) ≡ z
    alone z = omega (arith, ints)
