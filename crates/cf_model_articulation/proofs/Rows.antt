-- The accounts of rows, and that an account which is posted to is one of them: that of a row of the
-- chart by its id, or one of a few others.
use Rattle.std.proofs.Common.{◌≡◌, ◌⊎◌, inl, inr, ℕ, suc, ◌+◌, ◌<◌, ◌≤◌, Bool, true, if◌then◌else◌, false, not, ◌==◌, nat_lt, nat_le, List, map, refl, sym, ap, ◌∙◌, arith, filter}
use Rattle.cf_base.proofs.Common.{list_all, AllByRecursion, leb_tells}
use Rattle.cf_model.specs.Common.{Function, RevenueSource, fund_if}
use Rattle.cf_chart.specs.Common.{Plan}
use Rattle.cf_model.proofs.Common.{le_true, passing}
use Rattle.cf_model_articulation.specs.OwnAccounts.{HasOwnAccounts}
use Rattle.cf_model_articulation.proofs.Counts.{all_of, found_has, found_passes, found_row, none_passes, number_is, one_passes, other_numbers, passing_filter, passing_map, same_numbers, same_passing, some_is}
use Rattle.cf_model_articulation.proofs.Named.{IsFunction}
use Rattle.cf_model_articulation.proofs.NamedDeeds.{IsSourceOf}

-- how often an account is one of these
abbrev pub times : ℕ → List ℕ → ℕ
times n accounts = passing (λ a. n == a) accounts

-- ---- accounts by id

pub none_by_id : {A : Type 0} (id : A → ℕ) (base top n : ℕ) (rows : List A) → AllByRecursion (λ r. id r ≤ top) rows → (n < base) ⊎ (base + top < n) → times n (map (λ r. base + id r) rows) ≡ 0
none_by_id id base top n rows low far =
    passing_map (λ a. n == a) (λ r. base + id r) rows
    ∙ none_passes (λ r. id r ≤ top) (λ r. n == base + id r) (λ r l. other_numbers n (base + id r) (λ e. by_side far (id r) l e)) rows low
  where
    by_side : (n < base) ⊎ (base + top < n) → (m : ℕ) → m ≤ top → n ≡ base + m → ⊥
    by_side (inl h) m l e = absurd (omega (arith, h, e))
    by_side (inr h) m l e = absurd (omega (arith, h, l, e))

same_shifted : (base m n : ℕ) → (base + m == base + n) ≡ (m == n)
same_shifted base m n = by_test (m == n) refl
  where
    by_test : (b : Bool) → (m == n) ≡ b → (base + m == base + n) ≡ b
    by_test true e = let same : m ≡ n = number_is m n e in same_numbers (base + m) (base + n) (omega (arith, same))
    by_test false e = other_numbers (base + m) (base + n) (λ same. differ (sym (same_numbers m n (omega (arith, same))) ∙ e))
      where
        differ : true ≡ false → ⊥
        differ e = cc

pub once_by_id : {A : Type 0} (id : A → ℕ) (base m : ℕ) (rows : List A) → passing (λ r. m == id r) rows ≡ 1 → times (base + m) (map (λ r. base + id r) rows) ≡ 1
once_by_id id base m rows one =
    passing_map (λ a. base + m == a) (λ r. base + id r) rows ∙ same_passing (λ r. base + m == base + id r) (λ r. m == id r) (λ r. same_shifted base m (id r)) rows ∙ one

-- accounts that pass a test which this one fails
pub none_where : (n : ℕ) (test : ℕ → Bool) → ((a : ℕ) → test a ≡ true → n ≡ a → ⊥) → (accounts : List ℕ) → list_all test accounts ≡ true → times n accounts ≡ 0
none_where n test differ accounts all =
    none_passes (λ a. n ≡ a → ⊥) (λ a. n == a) (λ a other. other_numbers n a other) accounts (all_of (λ a. n ≡ a → ⊥) test differ accounts all)

-- ---- functions

pub function_low : (plan : Plan) → HasOwnAccounts plan → AllByRecursion (λ (f : Function). f.id ≤ 999) plan.functions
function_low plan own = all_of (λ (f : Function). f.id ≤ 999) (λ f. nat_le f.id 999) (λ f e. le_true f.id 999 e) plan.functions own.function_ids

-- the accounts of what functions spend
abbrev pub function_accounts : Plan → List ℕ
function_accounts plan = map (λ f. 500000 + f.id) plan.functions

pub no_function : (plan : Plan) (n : ℕ) → HasOwnAccounts plan → (n < 500000) ⊎ (500000 + 999 < n) → times n (function_accounts plan) ≡ 0
no_function plan n own far = none_by_id (λ (f : Function). f.id) 500000 999 n plan.functions (function_low plan own) far

-- a function of the chart is there once, and its id is low
pub record IsOneFunction (plan : Plan) (function : ℕ) : Type 0 where
  pub once : passing (λ (f : Function). function == f.id) plan.functions ≡ 1
  pub low : function ≤ 999

pub one_function : (plan : Plan) (function : ℕ) → HasOwnAccounts plan → IsFunction plan function → IsOneFunction plan function
one_function plan function own there =
    let row = found_row (λ (f : Function). f.id == function) plan.functions there in
    let id : row.0.id ≡ function = number_is row.0.id function (found_passes (λ (f : Function). f.id == function) row.0 plan.functions row.1) in
    let low : row.0.id ≤ 999 = found_has (λ (f : Function). f.id ≤ 999) (λ f. f.id == function) row.0 plan.functions row.1 (function_low plan own) in
    record { once = one_passes (λ (f : Function). f.id) (λ f. true) function row.0 plan.functions own.functions row.1 refl; low = omega (arith, id, low) }

-- ---- sources

pub source_low : (plan : Plan) → HasOwnAccounts plan → AllByRecursion (λ (s : RevenueSource). s.id ≤ 9999) plan.sources
source_low plan own = all_of (λ (s : RevenueSource). s.id ≤ 9999) (λ s. nat_le s.id 9999) (λ s e. le_true s.id 9999 e) plan.sources own.source_ids

pub record IsOneSource (plan : Plan) (fund source : ℕ) : Type 0 where
  pub once : passing (λ (s : RevenueSource). source == s.id) plan.sources ≡ 1
  -- among those of its fund too
  pub of_fund : passing (λ (s : RevenueSource). source == s.id) (filter (λ s. s.fund == fund) plan.sources) ≡ 1
  pub low : source ≤ 9999

pub one_source : (plan : Plan) (fund source : ℕ) → HasOwnAccounts plan → IsSourceOf plan fund source → IsOneSource plan fund source
one_source plan fund source own is =
    let row = some_is _ is.known in
    let id : row.0.id ≡ source = number_is row.0.id source (found_passes (λ (s : RevenueSource). s.id == source) row.0 plan.sources row.1) in
    let low : row.0.id ≤ 9999 = found_has (λ (s : RevenueSource). s.id ≤ 9999) (λ s. s.id == source) row.0 plan.sources row.1 (source_low plan own) in
    let own_fund : fund ≡ row.0.fund = is.of_fund ∙ ap fund_if row.1 in
    record {
      once = one_passes (λ (s : RevenueSource). s.id) (λ s. true) source row.0 plan.sources own.sources row.1 refl;
      of_fund =
          passing_filter (λ (s : RevenueSource). source == s.id) (λ s. s.fund == fund) plan.sources
          ∙ one_passes (λ (s : RevenueSource). s.id) (λ s. s.fund == fund) source row.0 plan.sources own.sources row.1 (same_numbers row.0.fund fund (sym own_fund));
      low = omega (arith, id, low);
    }

-- ---- accounts from 300000 on

pub at_balance : (n : ℕ) → 300000 ≤ n → nat_lt n 300000 ≡ false
at_balance n l = by_test (nat_lt n 300000) (leb_tells (suc n) 300000)
  where
    by_test : (b : Bool) → ((b ≡ true) × (suc n ≤ 300000)) ⊎ ((b ≡ false) × (300000 < suc n)) → b ≡ false
    by_test b (inl h) = absurd (omega (arith, h.1, l))
    by_test b (inr h) = h.0

pub at_change : (n : ℕ) → 300000 ≤ n → not (nat_lt n 300000) ≡ true
at_change n l = ap not (at_balance n l)

pub is_one : (b : Bool) → b ≡ true → ◌≡◌ {A = ℕ} 1 (if b then 1 else 0)
is_one b e = ap (λ t. if t then 1 else 0) (sym e)

pub is_none : (b : Bool) → b ≡ false → ◌≡◌ {A = ℕ} 0 (if b then 1 else 0)
is_none b e = ap (λ t. if t then 1 else 0) (sym e)
