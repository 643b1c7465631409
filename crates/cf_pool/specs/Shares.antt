-- A month's interest, shared among the funds by their daily balances, and the receipts that the
-- shares are.
use Rattle.std.specs.Prelude.{◌≡◌, ℕ, ℤ, pos, negsuc, Bool, true, false, ◌<◌, ◌^◌, ◌+◌, ◌&&◌, ◌||◌, ◌==◌, nat_lt, if◌then◌else◌, is_some, List, [], ◌∷◌, ◌++◌, map, sum, find, Option, Some, None, codes, decimal, Result, Ok, Err, ⊤}
use Rattle.jiff_core.specs.Calendar.{days_in_month}
use Rattle.cf_base.specs.Common.{month_text, AreShares}
use Rattle.cf_base.specs.declared.calendar.Day.{Day}
use Rattle.cf_base.specs.declared.calendar.Month.{Month}
use Rattle.cf_calls.specs.declared.acts.Act.TheVariants.{Receive}
use Rattle.cf_calls.specs.declared.call.Call.TheVariants as call
use Rattle.cf_calls.specs.declared.items.SourceAmount.{SourceAmount}
use Rattle.cf_chart.specs.Common.{Plan}
use Rattle.cf_chart.specs.declared.rows.Fund.{Fund}
use Rattle.cf_chart.specs.declared.rows.RevenueKind.{RevenueKind}
use Rattle.cf_chart.specs.declared.rows.RevenueKind.TheVariants as kind
use Rattle.cf_chart.specs.declared.rows.RevenueSource.{RevenueSource}
use Rattle.cf_json.specs.Calls.{call_of}
use Rattle.cf_json_lines.specs.Lines.{Hand, change_of, receipt_data, receipt_line}
use Rattle.cf_json_members.specs.Objects.{text_of}
use Rattle.cf_pool.specs.declared.days.CashMove.{CashMove}
use Rattle.cf_pool.specs.declared.refused.PoolRefused.{PoolRefused}
use Rattle.cf_pool.specs.declared.refused.PoolRefused.TheVariants.{NoShare, NoMemory}
use Rattle.cf_pool.specs.Balances.{day_sum}

abbrev pub is_general : RevenueKind → Bool
is_general kind.General = true
is_general _ = false

-- the source that a fund's interest is received on: its least one of kind general (sources stand by
-- rising id)
abbrev pub interest_source : List RevenueSource → ℕ → Option RevenueSource
interest_source sources fund = find (λ s. (s.fund == fund) && is_general s.kind) sources

abbrev pub above_zero : ℤ → ℕ
above_zero (pos n) = n
above_zero (negsuc n) = 0

-- the weight of a fund: the sum of its daily balances, and 0 where that is below zero or the fund
-- has no such source
abbrev pub weight_of : Plan → List CashMove → Month → ℕ → ℕ
weight_of plan moves month fund = if is_some (interest_source plan.sources fund)
    then above_zero (day_sum moves month fund) else 0

abbrev pub weights : Plan → List CashMove → Month → List ℕ
weights plan moves month = map (λ f. weight_of plan moves month f.id) plan.funds

-- ---- receipts

abbrev pub last_day : Month → Day
last_day m = record { year = m.year; month = m.month; day = days_in_month (pos m.year) m.month }

-- the key of a fund's receipt of a month: a second sending is the same call again
abbrev pub pool_key : Month → ℕ → List ℕ
pool_key month fund = codes "pool-" ++ (month_text month ++ 45 ∷ decimal fund)

abbrev pub hand_of : ℕ → Month → ℕ → Hand
hand_of desk month fund = record { desk = desk; key = pool_key month fund; on = last_day month }

-- a fund's receipt, where it has a share
abbrev pub share_line : ℕ → Month → ℕ → ℕ → Option RevenueSource → List ℕ
share_line desk month fund share None = []
share_line desk month fund share (Some s) = if share == 0 then []
    else receipt_line (hand_of desk month fund) (record { source = s.id; amount = share })

-- the receipts of the funds by id, each with its share
abbrev pub share_lines : ℕ → Month → List RevenueSource → List Fund → List ℕ → List ℕ
share_lines desk month sources (f ∷ funds) (share ∷ shares) =
    share_line desk month f.id share (interest_source sources f.id)
    ++ share_lines desk month sources funds shares
share_lines desk month sources _ _ = []

-- what the receipts of the shares come to
abbrev pub received : List RevenueSource → List Fund → List ℕ → ℕ
received sources (f ∷ funds) (share ∷ shares) =
    (if is_some (interest_source sources f.id) then share else 0) + received sources funds shares
received sources _ _ = 0

-- what is read of the line of any such receipt, whose numbers fit their types, is that receipt
abbrev pub AreReadBack : ℕ → Month → Type 0
AreReadBack desk month =
    (fund : ℕ) (r : SourceAmount) → fund < 2 ^ 16 → r.source < 2 ^ 16 → r.amount < 2 ^ 64
    → call_of (text_of (receipt_data (hand_of desk month fund) r))
    ≡ Ok (call.Change (change_of (hand_of desk month fund) (Receive r)))

-- ---- the answer

-- these are the lines of an amount's shares, which come to the amount, and each is read as that
-- receipt
pub record ArePoolLines (plan : Plan) (moves : List CashMove) (month : Month) (amount desk : ℕ)
    (lines : List ℕ) : Type 0 where
  pub shares : List ℕ
  pub fair : AreShares amount (weights plan moves month) shares
  pub text : lines ≡ share_lines desk month plan.sources plan.funds shares
  pub whole : received plan.sources plan.funds shares ≡ amount
  pub read : AreReadBack desk month

-- the weights come to nothing, or to more than 2^64 - 1
abbrev pub has_no_share : ℕ → Bool
has_no_share all = (all == 0) || nat_lt 18446744073709551615 all

abbrev pub PoolAnswers : Plan → List CashMove → Month → ℕ → ℕ → List ℕ → List ℕ
    → Result ⊤ PoolRefused → Type 0
PoolAnswers plan moves month amount desk old new (Ok u) =
    (has_no_share (sum (weights plan moves month)) ≡ false)
    × ((lines : List ℕ)
    × (ArePoolLines plan moves month amount desk lines × (new ≡ old ++ lines)))
PoolAnswers plan moves month amount desk old new (Err (NoShare all)) =
    (has_no_share (sum (weights plan moves month)) ≡ true)
    × (all ≡ pos (sum (weights plan moves month))) × (new ≡ old)
PoolAnswers plan moves month amount desk old new (Err NoMemory) = ⊤
