-- What statements need of a chart: that each account which is posted to has one row. The reader of
-- a chart sees to it.
use Rattle.std.specs.Prelude.{◌≡◌, Bool, true, ◌==◌, nat_le, List}
use Rattle.std.specs.List.{list_all, list_any}
use Rattle.cf_model.specs.Common.{Function, RevenueKind, RevenueSource}
use Rattle.cf_chart.specs.declared.rows.Fund.{Fund}
use Rattle.cf_chart.specs.declared.rows.RevenueKind.TheVariants as kind
use Rattle.cf_chart.specs.Common.{has_function, Plan, is_rising}

-- one of these funds has the source
abbrev pub is_of_fund : List Fund → RevenueSource → Bool
is_of_fund funds s = list_any (λ f. f.id == s.fund) funds

-- a program revenue is of one of these functions (GASB Statement 34)
abbrev pub is_of_function : List Function → RevenueKind → Bool
is_of_function functions (kind.Charges function) = list_any (λ f. f.id == function) functions
is_of_function functions (kind.OperatingGrant function) = list_any (λ f. f.id == function) functions
is_of_function functions (kind.CapitalGrant function) = list_any (λ f. f.id == function) functions
is_of_function functions _ = true

pub record HasOwnAccounts (plan : Plan) : Type 0 where
  -- no id stands twice
  pub functions : is_rising (λ f. f.id) plan.functions ≡ true
  pub funds : is_rising (λ f. f.id) plan.funds ≡ true
  pub sources : is_rising (λ s. s.id) plan.sources ≡ true
  -- so no function's account is that of another row, and no source's
  pub function_ids : list_all (λ f. nat_le f.id 999) plan.functions ≡ true
  pub source_ids : list_all (λ s. nat_le s.id 9999) plan.sources ≡ true
  -- departments and sources name rows that are there
  pub departments : list_all (has_function plan.functions) plan.departments ≡ true
  pub source_funds : list_all (is_of_fund plan.funds) plan.sources ≡ true
  pub source_functions : list_all (λ s. is_of_function plan.functions s.kind) plan.sources ≡ true
