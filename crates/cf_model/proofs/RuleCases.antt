-- The rules on assets, debt, leave and months on literal histories: which refusal each gives, and
-- which speaks first.
use Rattle.std.proofs.Common.{◌≡◌, ℕ, List, [], ◌∷◌, None, refl, false}
use Rattle.cf_base.specs.declared.calendar.Day.{Day}
use Rattle.cf_calls.specs.declared.acts.Act.{Act}
use Rattle.cf_calls.specs.declared.acts.Act.TheVariants as act
use Rattle.cf_calls.specs.declared.acts.AssetAct.TheVariants.{Donate, Dispose}
use Rattle.cf_calls.specs.declared.acts.LeaveAct.TheVariants.{Earn, Use, Mature}
use Rattle.cf_calls.specs.declared.acts.Period.TheVariants as period
use Rattle.cf_calls.specs.declared.entry.Entry.{Entry}
use Rattle.cf_calls.specs.declared.items.Charge.TheVariants.{Direct}
use Rattle.cf_calls.specs.declared.names.DocumentKind.TheVariants as document
use Rattle.cf_calls.specs.declared.names.NameKind.TheVariants as kind
use Rattle.cf_calls.specs.declared.refusal.AssetFault.TheVariants as fault
use Rattle.cf_calls.specs.declared.refusal.DocumentState.TheVariants as state
use Rattle.cf_calls.specs.declared.refusal.Refusal.TheVariants as refusal
use Rattle.cf_calls.specs.declared.reply.Verdict.{Verdict}
use Rattle.cf_calls.specs.declared.reply.Verdict.TheVariants.{Refuse}
use Rattle.cf_calls.specs.declared.role.Role.TheVariants as role
use Rattle.cf_chart.specs.declared.rows.FundType.TheVariants as fund_type
use Rattle.cf_chart.specs.declared.rows.Level.TheVariants as level
use Rattle.cf_chart.specs.declared.rows.LinePart.TheVariants as part
use Rattle.cf_chart.specs.declared.rows.ObjectKind.TheVariants as object_kind
use Rattle.cf_chart.specs.declared.rows.Policy.TheVariants as policy
use Rattle.cf_chart.specs.Common.{Plan}
use Rattle.cf_model.specs.Common.{blank_plan, verdict_of}

-- the fiscal year 2026 begins in July 2025; fund 1 and department 10 have a line, and fund 2 has
-- none
abbrev plan : Plan
plan = record blank_plan {
  first_year = 2026;
  first_month = 7;
  functions = record { id = 1; name = [] } ∷ [];
  funds = record { id = 1; name = []; fund_type = fund_type.General; level = level.Department; policy = policy.Lapse; later = None; balance_class = None }
      ∷ record { id = 2; name = []; fund_type = fund_type.DebtService; level = level.Department; policy = policy.Lapse; later = None; balance_class = None } ∷ [];
  departments = record { id = 10; name = []; function = 1 } ∷ [];
  objects = record { id = 510; name = []; class = 5; kind = object_kind.Current } ∷ record { id = 710; name = []; class = 7; kind = object_kind.Capital 3 }
      ∷ record { id = 810; name = []; class = 8; kind = object_kind.Principal } ∷ record { id = 820; name = []; class = 8; kind = object_kind.Interest } ∷ [];
  lines = record { fund = 1; dept = 10; part = part.Department; later = false } ∷ [];
  desks = record { id = 1; name = []; roles = role.Council ∷ role.Payables ∷ role.Treasury ∷ role.Assets ∷ role.Payroll ∷ role.Controller ∷ [] } ∷ [];
}

abbrev day : ℕ → ℕ → ℕ → Day
day y m d = record { year = y; month = m; day = d }

abbrev entry : ℕ → ℕ → Day → Act → Entry
entry number second on act = record { change = record { desk = 1; key = []; on = on; after = None; act = act }; drawn = record { number = number; second = second } }

-- what is said of an act after these entries
abbrev says : List Entry → Day → Act → Verdict
says history on act = verdict_of plan history (record { desk = 1; key = 97 ∷ []; on = on; after = None; act = act })

abbrev close : ℕ → ℕ → Act
close year month = act.Close (period.Month (record { year = year; month = month }))

abbrev closes : ℕ → ℕ → Entry
closes year month = entry 0 0 (day 2026 6 1) (close year month)

abbrev adopts : ℕ → ℕ → Entry
adopts fund year = entry 0 0 (day 2025 7 1) (act.Adopt (record { fund = fund; year = year; lines = []; estimates = [] }))

-- ---- months

-- the months close in their order, and that before the chart's first is closed
in_order : (says [] (day 2025 7 5) (close 2025 8) ≡ Refuse (refusal.MonthOrder (record { year = 2025; month = 7 })))
    × (says (closes 2025 7 ∷ []) (day 2025 8 5) (close 2025 7) ≡ Refuse (refusal.MonthOrder (record { year = 2025; month = 8 })))
    × (says (closes 2025 7 ∷ []) (day 2025 7 31) (close 2025 8) ≡ Refuse (refusal.PeriodClosed (record { year = 2025; month = 7 })))
    × (says [] (day 2025 7 5) (close 2028 7) ≡ Refuse (refusal.YearNotOpen 2029))
    × (says [] (day 2025 7 5) (close 2028 5) ≡ Refuse (refusal.MonthOrder (record { year = 2025; month = 7 })))
in_order = (refl, refl, refl, refl, refl)

-- ---- assets

abbrev buys : Act
buys = act.Voucher (record { vendor = 77; back = false; items = record { account = record { fund = 1; dept = 10; object = 710; amount = 100000 }; charge = Direct } ∷ [] })

abbrev bought : Entry
bought = entry 1 1 (day 2025 7 10) buys

abbrev given : Entry
given = entry 2 0 (day 2025 8 10) (act.Asset (Donate (record { dept = 10; object = 710; amount = 90000 })))

abbrev sells : ℕ → ℕ → Act
sells asset fund = act.Asset (Dispose (record { asset = asset; fund = fund; proceeds = 0 }))

-- a voucher isn't voided once something is charged for its asset, or once that is sold; its own
-- state speaks before
voids : (says (bought ∷ closes 2025 7 ∷ []) (day 2025 8 5) (act.VoidVoucher 1) ≡ Refuse (refusal.AssetState 1 fault.Charged))
    × (says (bought ∷ entry 0 0 (day 2025 7 11) (sells 1 1) ∷ []) (day 2025 7 12) (act.VoidVoucher 1) ≡ Refuse (refusal.AssetState 1 fault.Disposed))
    × (says (bought ∷ closes 2025 7 ∷ entry 0 0 (day 2025 8 1) (sells 1 1) ∷ []) (day 2025 8 5) (act.VoidVoucher 1) ≡ Refuse (refusal.AssetState 1 fault.Charged))
    × (says (bought ∷ entry 0 0 (day 2025 7 11) (act.VoidVoucher 1) ∷ []) (day 2025 7 12) (act.VoidVoucher 1) ≡ Refuse (refusal.DocState document.Voucher 1 state.Void))
voids = (refl, refl, refl, refl)

-- an asset that is sold is held, and was acquired by then; it is named before the fund
sales : (says (bought ∷ entry 0 0 (day 2025 7 11) (act.VoidVoucher 1) ∷ []) (day 2025 7 12) (sells 1 1) ≡ Refuse (refusal.AssetState 1 fault.Void))
    × (says (bought ∷ entry 0 0 (day 2025 7 11) (sells 1 1) ∷ []) (day 2025 7 12) (sells 1 1) ≡ Refuse (refusal.AssetState 1 fault.Disposed))
    × (says (bought ∷ given ∷ []) (day 2025 8 9) (sells 2 1) ≡ Refuse (refusal.AssetState 2 fault.Later))
    × (says (bought ∷ []) (day 2025 8 9) (sells 2 9) ≡ Refuse (refusal.UnknownName kind.Asset 2))
    × (says (bought ∷ []) (day 2025 8 9) (sells 1 9) ≡ Refuse (refusal.UnknownName kind.Fund 9))
sales = (refl, refl, refl, refl, refl)

gifts : (says [] (day 2025 7 5) (act.Asset (Donate (record { dept = 9; object = 510; amount = 1 }))) ≡ Refuse (refusal.UnknownName kind.Dept 9))
    × (says [] (day 2025 7 5) (act.Asset (Donate (record { dept = 10; object = 510; amount = 1 }))) ≡ Refuse (refusal.UnknownName kind.Object 510))
gifts = (refl, refl)

-- ---- debt

-- a bond of two payments half a year apart, in January and July 2026
abbrev issued : Entry
issued = entry 1 0 (day 2025 7 2) (act.Issue (record { fund = 2; amount = 100000000; terms = record { rate_bp = 425; every = 6; principals = 50000000 ∷ 50000000 ∷ [] } }))

abbrev pays : ℕ → ℕ → ℕ → ℕ → Act
pays bond fund principal interest = act.PayDue (record { bond = bond; fund = fund; dept = 10; principal = principal; interest = interest })

abbrev paid : ℕ → Entry
paid number = entry number 0 (day 2026 6 30) (pays 1 1 810 820)

-- the bond is named first, then the account of the principal, then that of the interest
payment_names : (says [] (day 2026 1 2) (pays 1 9 810 820) ≡ Refuse (refusal.UnknownName kind.Bond 1))
    × (says (issued ∷ []) (day 2026 1 2) (pays 1 9 820 820) ≡ Refuse (refusal.UnknownName kind.Fund 9))
    × (says (issued ∷ []) (day 2026 1 2) (pays 1 2 810 810) ≡ Refuse (refusal.UnknownName kind.Line 810))
    × (says (issued ∷ []) (day 2026 1 2) (pays 1 1 820 820) ≡ Refuse (refusal.UnknownName kind.Object 820))
    × (says (issued ∷ []) (day 2026 1 2) (pays 1 1 810 810) ≡ Refuse (refusal.UnknownName kind.Object 810))
payment_names = (refl, refl, refl, refl, refl)

-- the budget is that of the year of the due date, and speaks before the date; a bond that is paid
-- off has no such year
payments : (says (issued ∷ []) (day 2025 12 31) (pays 1 1 810 820) ≡ Refuse (refusal.NotAdopted 1 2026))
    × (says (issued ∷ adopts 1 2026 ∷ []) (day 2026 1 1) (pays 1 1 810 820) ≡ Refuse (refusal.NotDue (day 2026 1 2)))
    × (says (issued ∷ adopts 1 2026 ∷ paid 1 ∷ []) (day 2026 7 1) (pays 1 1 810 820) ≡ Refuse (refusal.NotAdopted 1 2027))
    × (says (issued ∷ adopts 1 2026 ∷ adopts 1 2027 ∷ paid 1 ∷ []) (day 2026 7 1) (pays 1 1 810 820) ≡ Refuse (refusal.NotDue (day 2026 7 2)))
    × (says (issued ∷ paid 1 ∷ paid 2 ∷ []) (day 2026 7 3) (pays 1 1 810 820) ≡ Refuse (refusal.DocState document.Bond 1 state.Paid))
payments = (refl, refl, refl, refl, refl)

-- a month doesn't close over a payment that is due in it; its order speaks before
abbrev half_year : List Entry
half_year = issued ∷ closes 2025 7 ∷ closes 2025 8 ∷ closes 2025 9 ∷ closes 2025 10 ∷ closes 2025 11 ∷ closes 2025 12 ∷ []

due : (says half_year (day 2026 2 1) (close 2026 1) ≡ Refuse (refusal.DebtDue 1 (day 2026 1 2)))
    × (says half_year (day 2026 2 1) (close 2026 2) ≡ Refuse (refusal.MonthOrder (record { year = 2026; month = 1 })))
due = (refl, refl)

-- ---- leave

abbrev earned : Entry
earned = entry 0 0 (day 2025 7 5) (act.Leave (Earn (record { fund = 1; dept = 10; amount = 500 })))

leaves : (says (earned ∷ []) (day 2025 7 6) (act.Leave (Use (record { fund = 1; dept = 10; amount = 501 }))) ≡ Refuse (refusal.LeaveShort 500))
    × (says (earned ∷ []) (day 2025 7 6) (act.Leave (Use (record { fund = 2; dept = 10; amount = 1 }))) ≡ Refuse (refusal.LeaveShort 0))
    × (says (earned ∷ []) (day 2025 7 6) (act.Leave (Use (record { fund = 9; dept = 9; amount = 1 }))) ≡ Refuse (refusal.UnknownName kind.Fund 9))
    × (says (earned ∷ []) (day 2025 7 6) (act.Leave (Mature (record { fund = 1; dept = 10; object = 710; amount = 501 }))) ≡ Refuse (refusal.UnknownName kind.Object 710))
    × (says (earned ∷ []) (day 2025 7 6) (act.Leave (Mature (record { fund = 2; dept = 10; object = 510; amount = 501 }))) ≡ Refuse (refusal.UnknownName kind.Line 510))
    × (says (earned ∷ []) (day 2025 7 6) (act.Leave (Mature (record { fund = 1; dept = 10; object = 510; amount = 501 }))) ≡ Refuse (refusal.NotAdopted 1 2026))
    × (says (earned ∷ adopts 1 2026 ∷ []) (day 2025 7 6) (act.Leave (Mature (record { fund = 1; dept = 10; object = 510; amount = 501 }))) ≡ Refuse (refusal.LeaveShort 500))
leaves = (refl, refl, refl, refl, refl, refl, refl)

-- ---- leases

abbrev leases : ℕ → ℕ → ℕ → Act
leases fund dept object =
    act.Lease (record { vendor = 7; account = record { fund = fund; dept = dept; object = object; amount = 36000 }; terms = record { rate_bp = 0; every = 12; principals = 18000 ∷ 18000 ∷ [] } })

-- a lease names its account, whose object is capital, and needs the budget of its fund
lease_names : (says [] (day 2025 7 6) (leases 9 10 710) ≡ Refuse (refusal.UnknownName kind.Fund 9))
    × (says [] (day 2025 7 6) (leases 1 9 710) ≡ Refuse (refusal.UnknownName kind.Dept 9))
    × (says [] (day 2025 7 6) (leases 1 10 510) ≡ Refuse (refusal.UnknownName kind.Object 510))
    × (says [] (day 2025 7 6) (leases 1 10 710) ≡ Refuse (refusal.NotAdopted 1 2026))
lease_names = (refl, refl, refl, refl)

-- a leased asset isn't disposed of: that it is leased speaks before the day
abbrev leased : Entry
leased = entry 1 1 (day 2025 8 10) (leases 1 10 710)

lease_stays : (says (leased ∷ []) (day 2025 8 11) (sells 1 1) ≡ Refuse (refusal.AssetState 1 fault.Leased))
    × (says (leased ∷ []) (day 2025 8 9) (sells 1 1) ≡ Refuse (refusal.AssetState 1 fault.Leased))
lease_stays = (refl, refl)
