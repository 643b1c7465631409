-- A month's interest on a small pool, worked by hand: what the definitions say of it is computed
-- by the checker.
use Rattle.std.specs.Prelude.{◌≡◌, ℕ, ℤ, pos, negsuc, List, [], ◌∷◌, ◌++◌, None, codes}
use Rattle.cf_base.specs.Common.{AreShares}
use Rattle.cf_base.specs.declared.calendar.Month.{Month}
use Rattle.cf_chart.specs.Common.{Plan}
use Rattle.cf_chart.specs.declared.rows.Fund.{Fund}
use Rattle.cf_chart.specs.declared.rows.FundType.TheVariants.{General}
use Rattle.cf_chart.specs.declared.rows.Level.TheVariants as level
use Rattle.cf_chart.specs.declared.rows.Policy.TheVariants as policy
use Rattle.cf_chart.specs.declared.rows.RevenueKind.{RevenueKind}
use Rattle.cf_chart.specs.declared.rows.RevenueKind.TheVariants as kind
use Rattle.cf_chart.specs.declared.rows.RevenueSource.{RevenueSource}
use Rattle.cf_pool.specs.declared.days.CashMove.{CashMove}
use Rattle.cf_pool.specs.Balances.{day_sum}
use Rattle.cf_pool.specs.Shares.{share_lines, weights}

-- ---- three funds, of which the second has a grant's source alone

abbrev pub fund : ℕ → Fund
fund id = record {
  id = id;
  name = [];
  fund_type = General;
  level = level.Object;
  policy = policy.Lapse;
  later = None;
  balance_class = None;
}

abbrev pub source : ℕ → ℕ → RevenueKind → RevenueSource
source id of kind = record { id = id; name = []; fund = of; kind = kind; window = 60 }

abbrev pub city : Plan
city = record {
  city = [];
  first_year = 2026;
  first_month = 7;
  functions = [];
  funds = fund 1 ∷ fund 2 ∷ fund 3 ∷ [];
  departments = [];
  objects = [];
  sources = source 4 1 kind.General ∷ source 5 2 (kind.OperatingGrant 1) ∷ source 6 3 kind.General
      ∷ [];
  lines = [];
  desks = [];
}

abbrev pub july : Month
july = record { year = 2025; month = 7 }

abbrev pub moved : ℕ → ℕ → ℕ → ℤ → CashMove
moved month day of cents =
    record { on = record { year = 2025; month = month; day = day }; fund = of; amount = cents }

-- 100.00 come into each fund: on the 1st, on the 10th and on the 16th
abbrev pub deposits : List CashMove
deposits = moved 7 1 3 (pos 10000) ∷ moved 7 10 2 (pos 10000) ∷ moved 7 16 1 (pos 10000) ∷ []

-- 1.00 of June goes out on the last day of July, and 50.00 come in August
abbrev pub passing : List CashMove
passing = moved 6 30 1 (pos 100) ∷ moved 7 31 1 (negsuc 99) ∷ moved 8 1 1 (pos 5000) ∷ []

-- ---- weights

abbrev pub WeighsDailyBalances : Type 0
WeighsDailyBalances =
    (day_sum deposits july 1 ≡ pos 160000)
    × (day_sum deposits july 2 ≡ pos 220000)
    × (day_sum deposits july 3 ≡ pos 310000)
    × (weights city deposits july ≡ 160000 ∷ 0 ∷ 310000 ∷ [])
    -- the last day's end has what moved on it
    × (day_sum passing july 1 ≡ pos 3000)
    -- what is below zero weighs nothing
    × (weights city (moved 7 1 1 (negsuc 0) ∷ []) july ≡ 0 ∷ 0 ∷ 0 ∷ [])

-- ---- shares

-- 1.00 has 34 and 20000 of 470000 for the first fund, and 65 and 450000 for the third, which gets
-- the cent that is left: these are shares, and there are no others
abbrev pub SharesToTheCent : Type 0
SharesToTheCent =
    AreShares 100 (160000 ∷ 0 ∷ 310000 ∷ []) (34 ∷ 0 ∷ 66 ∷ [])
    × ((shares : List ℕ) → AreShares 100 (160000 ∷ 0 ∷ 310000 ∷ []) shares
    → shares ≡ 34 ∷ 0 ∷ 66 ∷ [])

-- ---- receipts

-- none for the fund without a share
abbrev pub WritesReceipts : Type 0
WritesReceipts =
    share_lines 5 july city.sources city.funds (34 ∷ 0 ∷ 66 ∷ [])
    ≡ codes "{\"amount\":34,\"call\":\"receive\",\"desk\":5,\"key\":\"pool-2025-07-1\","
    ++ codes "\"on\":\"2025-07-31\",\"source\":4}\n"
    ++ codes "{\"amount\":66,\"call\":\"receive\",\"desk\":5,\"key\":\"pool-2025-07-3\","
    ++ codes "\"on\":\"2025-07-31\",\"source\":6}\n"
