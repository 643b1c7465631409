-- What debt payments, matured leave and leases spend of control lines, on literal histories.
use Rattle.std.proofs.Common.{◌≡◌, ℕ, true, false, List, [], ◌∷◌, None, refl}
use Rattle.cf_calls.specs.declared.acts.Act.{Act}
use Rattle.cf_calls.specs.declared.acts.Act.TheVariants as act
use Rattle.cf_calls.specs.declared.acts.LeaveAct.TheVariants.{Earn, Use, Mature}
use Rattle.cf_calls.specs.declared.entry.Entry.{Entry}
use Rattle.cf_calls.specs.declared.items.Charge.TheVariants.{Direct}
use Rattle.cf_chart.specs.declared.rows.LinePart.TheVariants as part
use Rattle.cf_chart.specs.declared.rows.ObjectKind.TheVariants as object_kind
use Rattle.cf_chart.specs.Common.{Plan}
use Rattle.cf_model.specs.Common.{expended, blank_plan}

-- the fiscal year 2026 begins in July 2025; a department has one line for its people, and one each
-- for principal and interest
abbrev city : Plan
city = record blank_plan {
  first_year = 2026;
  first_month = 7;
  objects = record { id = 520; name = []; class = 5; kind = object_kind.Current }
      ∷ record { id = 810; name = []; class = 8; kind = object_kind.Principal }
      ∷ record { id = 820; name = []; class = 8; kind = object_kind.Interest }
      ∷ [];
  lines = record { fund = 1; dept = 10; part = part.Class 5; later = false }
      ∷ record { fund = 1; dept = 10; part = part.Object 810; later = false }
      ∷ record { fund = 1; dept = 10; part = part.Object 820; later = false }
      ∷ [];
}

abbrev entry : ℕ → ℕ → ℕ → ℕ → Act → Entry
entry number year month day act =
    record { change = record { desk = 1; key = []; on = record { year = year; month = month; day = day }; after = None; act = act }; drawn = record { number = number; second = 1 } }

-- what the three lines have expended in a year
abbrev expended_of : List Entry → ℕ → List ℕ
expended_of h year = expended city 0 year h ∷ expended city 1 year h ∷ expended city 2 year h ∷ []

-- a bond of 100000000 at 4.25 per cent, of two payments half a year apart: the second is due on the
-- first day of the next fiscal year
abbrev issued : Entry
issued = entry 1 2025 7 1 (act.Issue (record { fund = 3; amount = 100000000; terms = record { rate_bp = 425; every = 6; principals = 50000000 ∷ 50000000 ∷ [] } }))

abbrev pays : ℕ → ℕ → ℕ → ℕ → Entry
pays number year month day = entry number year month day (act.PayDue (record { bond = 1; fund = 1; dept = 10; principal = 810; interest = 820 }))

-- a payment is spent in the year in which it is due, by the principal before it, also where it is
-- paid in a later one
paid : (expended_of (issued ∷ pays 1 2026 1 1 ∷ []) 2026 ≡ 0 ∷ 50000000 ∷ 2125000 ∷ [])
    × (expended_of (issued ∷ pays 1 2026 7 2 ∷ []) 2026 ≡ 0 ∷ 50000000 ∷ 2125000 ∷ [])
    × (expended_of (issued ∷ pays 1 2026 7 2 ∷ []) 2027 ≡ 0 ∷ 0 ∷ 0 ∷ [])
    × (expended_of (issued ∷ pays 1 2026 1 1 ∷ pays 2 2026 7 1 ∷ []) 2027 ≡ 0 ∷ 50000000 ∷ 1062500 ∷ [])
paid = (refl, refl, refl, refl)

-- a payment of no bond, and one of a bond that is paid off, spend nothing
unspent : (expended_of (pays 0 2026 1 1 ∷ []) 2026 ≡ 0 ∷ 0 ∷ 0 ∷ [])
    × (expended_of (issued ∷ pays 1 2026 1 1 ∷ pays 2 2026 7 1 ∷ pays 0 2026 7 1 ∷ []) 2027 ≡ 0 ∷ 50000000 ∷ 1062500 ∷ [])
unspent = (refl, refl)

-- leave is spent where it matures, in the year of the day, beside what vouchers spend; earned and
-- used leave is not
abbrev matured : List Entry
matured =
    entry 0 2025 8 1 (act.Leave (Earn (record { fund = 1; dept = 10; amount = 900 })))
    ∷ entry 0 2025 9 1 (act.Leave (Use (record { fund = 1; dept = 10; amount = 300 })))
    ∷ entry 0 2026 6 30 (act.Leave (Mature (record { fund = 1; dept = 10; object = 520; amount = 400 })))
    ∷ entry 0 2026 7 1 (act.Leave (Mature (record { fund = 1; dept = 10; object = 520; amount = 200 })))
    ∷ entry 1 2026 7 2 (act.Voucher (record { vendor = 77; back = true; items = record { account = record { fund = 1; dept = 10; object = 520; amount = 50 }; charge = Direct } ∷ [] }))
    ∷ []

leave_spent : (expended_of matured 2026 ≡ 450 ∷ 0 ∷ 0 ∷ []) × (expended_of matured 2027 ≡ 200 ∷ 0 ∷ 0 ∷ [])
leave_spent = (refl, refl)

-- a lease is spent whole, in the year of its day, and its payments in the years in which they are
-- due
abbrev leases : Entry
leases =
    entry 1 2026 6 1 (act.Lease (record { vendor = 7; account = record { fund = 1; dept = 10; object = 520; amount = 36000 }; terms = record { rate_bp = 1000; every = 12; principals = 18000 ∷ 18000 ∷ [] } }))

lease_spent : (expended_of (leases ∷ []) 2026 ≡ 36000 ∷ 0 ∷ 0 ∷ [])
    × (expended_of (leases ∷ []) 2027 ≡ 0 ∷ 0 ∷ 0 ∷ [])
    × (expended_of (leases ∷ pays 1 2027 6 1 ∷ []) 2027 ≡ 0 ∷ 18000 ∷ 3600 ∷ [])
lease_spent = (refl, refl, refl)
