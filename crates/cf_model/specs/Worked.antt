-- The rules on short histories, worked by hand: what the definitions say of each is computed by the
-- checker. So a slip that a definition and its code made alike is seen here.
use Rattle.std.specs.Prelude.{◌≡◌, ℕ, false, List, [], ◌∷◌, ◌++◌, Option, Some, None, map, ℤ, pos, negsuc, codes, take}
use Rattle.cf_base.specs.declared.calendar.Day.{Day}
use Rattle.cf_base.specs.declared.statement.Kind.TheVariants as statement
use Rattle.cf_calls.specs.declared.acts.Act.{Act}
use Rattle.cf_calls.specs.declared.acts.Act.TheVariants as act
use Rattle.cf_calls.specs.declared.acts.AssetAct.TheVariants.{Donate, Dispose}
use Rattle.cf_calls.specs.declared.acts.FundMoveKind.TheVariants as move
use Rattle.cf_calls.specs.declared.acts.LeaveAct.TheVariants.{Earn, Use, Mature}
use Rattle.cf_calls.specs.declared.acts.Period.TheVariants as period
use Rattle.cf_calls.specs.declared.call.Change.{Change}
use Rattle.cf_calls.specs.declared.entry.Entry.{Entry}
use Rattle.cf_calls.specs.declared.items.Charge.{Charge}
use Rattle.cf_calls.specs.declared.items.Charge.TheVariants.{Direct, OnOrder}
use Rattle.cf_calls.specs.declared.items.Liquidation.TheVariants.{Lesser, Final}
use Rattle.cf_calls.specs.declared.names.NameKind.TheVariants as kind
use Rattle.cf_calls.specs.declared.refusal.Refusal.{Refusal}
use Rattle.cf_calls.specs.declared.refusal.Refusal.TheVariants as refusal
use Rattle.cf_calls.specs.declared.reply.Verdict.{Verdict}
use Rattle.cf_calls.specs.declared.reply.Verdict.TheVariants.{Accept, Repeat, Refuse}
use Rattle.cf_calls.specs.declared.role.Role.TheVariants as role
use Rattle.cf_calls.specs.declared.shown.ItemState.{ItemState}
use Rattle.cf_calls.specs.declared.shown.ItemState.TheVariants as state
use Rattle.cf_chart.specs.declared.rows.FundType.TheVariants as fund_type
use Rattle.cf_chart.specs.declared.rows.Level.TheVariants as level
use Rattle.cf_chart.specs.declared.rows.LinePart.TheVariants as part
use Rattle.cf_chart.specs.declared.rows.ObjectKind.TheVariants as object_kind
use Rattle.cf_chart.specs.declared.rows.Policy.TheVariants as policy
use Rattle.cf_chart.specs.declared.rows.RevenueKind.TheVariants as revenue_kind
use Rattle.cf_chart.specs.Common.{Plan}
use Rattle.cf_model.specs.Assets.{depreciation}
use Rattle.cf_model.specs.Bonds.{earned}
use Rattle.cf_model.specs.Cash.{cash_refusal}
use Rattle.cf_model.specs.Documents.{documents_of}
use Rattle.cf_model.specs.Changes.{changes_of}
use Rattle.cf_model.specs.Items.{capital, right_to_use, deferred, bonds, leases, accrued, absences, fund_balances, net_position}
use Rattle.cf_model.specs.Leave.{leave_of}
use Rattle.cf_model.specs.LineNumbers.{numbers, room}
use Rattle.cf_model.specs.OrderItems.{open_of, state_of}
use Rattle.cf_model.specs.RegisterRules.{debt_refusal}
use Rattle.cf_model.specs.Registers.{registers_of}
use Rattle.cf_model.specs.Report.{fund_balance, report_rows}
use Rattle.cf_model.specs.Results.{entry_with}
use Rattle.cf_model.specs.Rules.{exceeds_at}
use Rattle.cf_model.specs.State.{blank_plan}
use Rattle.cf_model.specs.Step.{verdict_of}
use Rattle.cf_statements.specs.Sums.{single}

-- ---- a town whose fiscal year 2026 begins in July 2025

-- fund 1 lets its orders lapse and is controlled by object, fund 2 carries them and is controlled
-- by department; desk 4 can do one thing alone
abbrev pub town : Plan
town = record blank_plan {
  first_year = 2026;
  first_month = 7;
  functions = record { id = 1; name = [] } ∷ record { id = 2; name = [] } ∷ [];
  funds = record {
    id = 1;
    name = [];
    fund_type = fund_type.General;
    level = level.Object;
    policy = policy.Lapse;
    later = None;
    balance_class = None;
  }
      ∷ record {
        id = 2;
        name = [];
        fund_type = fund_type.SpecialRevenue;
        level = level.Department;
        policy = policy.Carry;
        later = None;
        balance_class = None;
      } ∷ [];
  departments = record { id = 10; name = []; function = 1 }
      ∷ record { id = 20; name = []; function = 2 } ∷ [];
  objects = record { id = 510; name = []; class = 5; kind = object_kind.Current }
      ∷ record { id = 710; name = []; class = 7; kind = object_kind.Capital 3 }
      ∷ record { id = 810; name = []; class = 8; kind = object_kind.Principal }
      ∷ record { id = 820; name = []; class = 8; kind = object_kind.Interest } ∷ [];
  sources = record { id = 1; name = []; fund = 1; kind = revenue_kind.PropertyTax; window = 60 }
      ∷ [];
  lines = record { fund = 1; dept = 20; part = part.Object 510; later = false }
      ∷ record { fund = 2; dept = 20; part = part.Department; later = false } ∷ [];
  desks = record {
    id = 1;
    name = [];
    roles = role.Council ∷ role.Payables ∷ role.Treasury ∷ role.Payroll ∷ role.Controller ∷ [];
  }
      ∷ record { id = 4; name = []; roles = role.Payables ∷ [] } ∷ [];
}

abbrev pub on : ℕ → ℕ → ℕ → Day
on y m d = record { year = y; month = m; day = d }

abbrev pub calls : ℕ → Day → Act → Change
calls desk day act = record { desk = desk; key = 107 ∷ []; on = day; after = None; act = act }

-- an entry of July 2025, with the number that it drew, and that of its first asset
abbrev pub drew : ℕ → ℕ → Day → Act → Entry
drew number second day act =
    record {
      change = record { desk = 1; key = 98 ∷ []; on = day; after = None; act = act };
      drawn = record { number = number; second = second };
    }

abbrev pub entry : ℕ → Act → Entry
entry number act = drew number 1 (on 2025 7 5) act

abbrev pub adopts : ℕ → ℕ → ℕ → Act
adopts fund line cents =
    act.Adopt (record {
      fund = fund;
      year = 2026;
      lines = record { line = line; amount = cents } ∷ [];
      estimates = [];
    })

abbrev pub orders : ℕ → ℕ → Act
orders fund cents =
    act.Order (record {
      vendor = 7;
      requisition = None;
      items = record { fund = fund; dept = 20; object = 510; amount = cents } ∷ [];
    })

abbrev pub charges : Charge → ℕ → Act
charges charge cents =
    act.Voucher (record {
      vendor = 77;
      back = false;
      items =
          record {
            account = record { fund = 1; dept = 20; object = 510; amount = cents };
            charge = charge;
          } ∷ [];
    })

abbrev pub spends : ℕ → Act
spends cents = charges Direct cents

abbrev pub closes : ℕ → ℕ → Act
closes year month = act.Close (period.Month (record { year = year; month = month }))

abbrev pub closed : ℕ → ℕ → Entry
closed year month = drew 0 0 (on 2026 9 1) (closes year month)

abbrev pub half_year : List Entry
half_year = closed 2025 7 ∷ closed 2025 8 ∷ closed 2025 9 ∷ closed 2025 10 ∷ closed 2025 11
    ∷ closed 2025 12 ∷ []

abbrev pub year : List Entry
year = half_year ++ closed 2026 1 ∷ closed 2026 2 ∷ closed 2026 3 ∷ closed 2026 4 ∷ closed 2026 5
    ∷ closed 2026 6 ∷ []

-- what an act would overspend of line 0 in 2026
abbrev pub overspent : List Entry → Act → Option Refusal
overspent history act =
    exceeds_at town history
    (entry_with (registers_of town history) (calls 1 (on 2025 7 5) act)) 0 2026

-- year, open amount and state of each order's item
abbrev pub items_open : List Entry → List (ℕ × ℕ × ItemState)
items_open history = map (λ i. (i.year, open_of i, state_of i)) (documents_of town history).items

-- ---- room

-- of 100000 cents two vouchers spend all, and one cent more is refused
abbrev pub all_spent : List Entry
all_spent = entry 0 (adopts 1 0 100000) ∷ entry 1 (spends 60000) ∷ entry 2 (spends 40000) ∷ []

abbrev pub SpendsToTheCent : Type 0
SpendsToTheCent =
    (overspent (take 2 all_spent) (spends 40000) ≡ None)
    × (numbers town 0 2026 all_spent
    ≡ record {
      original = pos 100000;
      appropriated = pos 100000;
      held = pos 0;
      encumbered = pos 0;
      expended = pos 100000;
      room = pos 0;
    })
    × (overspent all_spent (spends 1) ≡ Some (refusal.Exceeds 0 (pos 1) (pos 0)))
    -- an amendment can't take what is spent
    × (overspent (take 2 all_spent)
    (act.Amend (record { fund = 1; year = 2026; line = 0; by = negsuc 40000 }))
    ≡ Some (refusal.Exceeds 0 (pos 40001) (pos 40000)))
    × (overspent (take 2 all_spent)
    (act.Amend (record { fund = 1; year = 2026; line = 0; by = negsuc 39999 })) ≡ None)
    -- two items of one order count together
    × (overspent (take 1 all_spent)
    (act.Order (record {
      vendor = 7;
      requisition = None;
      items =
          record { fund = 1; dept = 20; object = 510; amount = 50001 }
          ∷ record { fund = 1; dept = 20; object = 510; amount = 50001 } ∷ [];
    }))
    ≡ Some (refusal.Exceeds 0 (pos 100002) (pos 100000)))

-- ---- orders

-- an order of 50000, a voucher of 20000 on it, and a final one of 28000
abbrev pub final : List Entry
final =
    entry 0 (adopts 1 0 100000) ∷ entry 1 (orders 1 50000)
    ∷ entry 1 (charges (OnOrder 1 1 Lesser) 20000) ∷ entry 2 (charges (OnOrder 1 1 Final) 28000)
    ∷ entry 3 (spends 52000) ∷ []

-- an order of 10000, of which a voucher of 12000 liquidates what there is
abbrev pub ordered : List Entry
ordered = entry 0 (adopts 1 0 10000) ∷ entry 1 (orders 1 10000) ∷ []

abbrev pub LiquidatesOrders : Type 0
LiquidatesOrders =
    (items_open (take 3 final) ≡ (2026, 30000, state.Live) ∷ [])
    × (room town 0 2026 (take 3 final) ≡ pos 50000)
    × (items_open (take 4 final) ≡ (2026, 0, state.Finished) ∷ [])
    × (numbers town 0 2026 (take 4 final)
    ≡ record {
      original = pos 100000;
      appropriated = pos 100000;
      held = pos 0;
      encumbered = pos 0;
      expended = pos 48000;
      room = pos 52000;
    })
    -- to void the final voucher asks 30000 less 28000, which a direct voucher has spent
    × (overspent final (act.VoidVoucher 2) ≡ Some (refusal.Exceeds 0 (pos 2000) (pos 0)))
    × (overspent ordered (charges (OnOrder 1 1 Lesser) 12000)
    ≡ Some (refusal.Exceeds 0 (pos 2000) (pos 0)))

-- ---- the roll of a year

abbrev pub rolled : List Entry
rolled = entry 0 (adopts 1 0 10000) ∷ entry 0 (adopts 2 1 10000) ∷ entry 1 (orders 1 4000)
    ∷ entry 2 (orders 2 4000) ∷ year

-- the one order lapses, the other is carried with its appropriation, and the year that is rolled
-- keeps its own
abbrev pub RollsOrders : Type 0
RollsOrders =
    (items_open rolled ≡ (2026, 0, state.Lapsed) ∷ (2027, 4000, state.Live) ∷ [])
    × (numbers town 0 2026 rolled
    ≡ record {
      original = pos 10000;
      appropriated = pos 10000;
      held = pos 0;
      encumbered = pos 0;
      expended = pos 0;
      room = pos 10000;
    })
    × (numbers town 1 2026 rolled
    ≡ record {
      original = pos 10000;
      appropriated = pos 10000;
      held = pos 0;
      encumbered = pos 0;
      expended = pos 0;
      room = pos 10000;
    })
    × (numbers town 1 2027 rolled
    ≡ record {
      original = pos 0;
      appropriated = pos 4000;
      held = pos 0;
      encumbered = pos 4000;
      expended = pos 0;
      room = pos 0;
    })

-- ---- the window of a tax

-- a tax of 100000, of which 30000 are collected on the 60th day after the year's end, and 30000 on
-- the 61st
abbrev pub taxed : List Entry
taxed =
    drew 1 0 (on 2025 7 5)
    (act.Bill (record { source = 1; levy_year = 2026; payer = 1; amount = 100000 }))
    ∷ drew 0 0 (on 2026 8 29) (act.Collect (record { bill = 1; amount = 30000 }))
    ∷ drew 0 0 (on 2026 8 30) (act.Collect (record { bill = 1; amount = 30000 }))
    ∷ []

abbrev pub RecognisesCollections : Type 0
RecognisesCollections =
    (fund_balance town 2026 1 taxed ≡ pos 30000)
    × (fund_balance town 2027 1 taxed ≡ pos 60000)
    × (deferred 2026 (registers_of town taxed) ≡ pos 70000)
    × (deferred 2027 (registers_of town taxed) ≡ pos 40000)
    × (net_position town 2026 taxed ≡ pos 100000)

-- ---- months of assets and bonds

abbrev pub worn : List Entry → List ℕ
worn history = let s = registers_of town history in map (depreciation s.closed) s.assets

abbrev pub bought : Entry
bought = drew 1 1 (on 2025 7 10)
    (act.Voucher (record {
      vendor = 77;
      back = false;
      items =
          record {
            account = record { fund = 1; dept = 10; object = 710; amount = 100000 };
            charge = Direct;
          } ∷ [];
    }))

-- 100000 over a life of three months; a void asset has none
abbrev pub DepreciatesByMonths : Type 0
DepreciatesByMonths =
    (worn (bought ∷ take 1 half_year) ≡ 33333 ∷ [])
    × (worn (bought ∷ take 2 half_year) ≡ 66666 ∷ [])
    × (worn (bought ∷ take 3 half_year) ≡ 100000 ∷ [])
    × (worn (bought ∷ take 4 half_year) ≡ 100000 ∷ [])
    × (worn (bought ∷ entry 0 (act.VoidVoucher 1) ∷ take 1 half_year) ≡ 0 ∷ [])

abbrev pub interest : List Entry → List ℕ
interest history = let s = registers_of town history in map (earned s.closed) s.bonds

-- 100000000 at 4.25 per cent in two payments half a year apart: a month of thirty days earns
-- 354166, and six of them the coupon
abbrev pub issued : Entry
issued = drew 1 0 (on 2025 7 1)
    (act.Issue (record {
      fund = 2;
      amount = 100000000;
      terms = record { rate_bp = 425; every = 6; principals = 50000000 ∷ 50000000 ∷ [] };
    }))

abbrev pub EarnsInterest : Type 0
EarnsInterest =
    (interest (issued ∷ take 1 half_year) ≡ 354166 ∷ [])
    × (interest (issued ∷ half_year) ≡ 2125000 ∷ [])
    × (debt_refusal town (registers_of town (issued ∷ half_year)) (on 2026 9 1) (closes 2026 1)
    ≡ Some (refusal.DebtDue 1 (on 2026 1 1)))

-- ---- leave

abbrev pub left : List Entry
left =
    entry 0 (act.Leave (Earn (record { fund = 1; dept = 10; amount = 900 })))
    ∷ entry 0 (act.Leave (Use (record { fund = 1; dept = 10; amount = 300 })))
    ∷ entry 0 (act.Leave (Mature (record { fund = 1; dept = 10; object = 510; amount = 600 })))
    ∷ []

abbrev pub KeepsLeave : Type 0
KeepsLeave =
    (leave_of 1 10 (registers_of town (take 2 left)).leave ≡ 600)
    × (leave_of 1 10 (registers_of town left).leave ≡ 0)
    × (debt_refusal town (registers_of town left) (on 2025 7 5)
    (act.Leave (Mature (record { fund = 1; dept = 10; object = 510; amount = 1 })))
    ≡ Some (refusal.LeaveShort 0))

-- ---- both bases, what joins them, and a statement

-- fund balances, the items in their order, net position
abbrev pub joined : List Entry → List ℤ
joined history =
    let s = registers_of town history in
    fund_balances town 2026 history ∷ capital town 2026 s ∷ right_to_use town 2026 s
    ∷ deferred 2026 s ∷ bonds town 2026 s ∷ leases town 2026 s ∷ accrued town 2026 s
    ∷ absences 2026 s
    ∷ net_position town 2026 history ∷ []

-- a gift of 90000, of which a month of three is charged, is sold for 50000
abbrev pub given : List Entry
given =
    drew 1 0 (on 2025 7 5) (act.Asset (Donate (record { dept = 10; object = 710; amount = 90000 })))
    ∷ closed 2025 7
    ∷ drew 0 0 (on 2025 8 5)
    (act.Asset (Dispose (record { asset = 1; fund = 1; proceeds = 50000 })))
    ∷ []

-- an asset of a life of three months is leased for twenty-four
abbrev pub leased : Entry
leased =
    drew 1 1 (on 2025 7 1)
    (act.Lease (record {
      vendor = 7;
      account = record { fund = 1; dept = 10; object = 710; amount = 36000 };
      terms = record { rate_bp = 0; every = 12; principals = 18000 ∷ 18000 ∷ [] };
    }))

-- 5000 are received, of which 2000 go to the other fund
abbrev pub moved : List Entry
moved =
    entry 0 (act.Receive (record { source = 1; amount = 5000 }))
    ∷ entry 0 (act.Interfund (record { what = move.Transfer; from = 1; to = 2; amount = 2000 }))
    ∷ []

abbrev pub JoinsBothBases : Type 0
JoinsBothBases =
    (joined (take 2 given)
    ≡ pos 0 ∷ pos 60000 ∷ pos 0 ∷ pos 0 ∷ pos 0 ∷ pos 0 ∷ pos 0 ∷ pos 0 ∷ pos 60000 ∷ [])
    × (joined given ≡ pos 50000 ∷ pos 0 ∷ pos 0 ∷ pos 0 ∷ pos 0 ∷ pos 0 ∷ pos 0 ∷ pos 0 ∷ pos 50000
    ∷ [])
    × (joined (issued ∷ take 1 half_year)
    ≡ pos 100000000 ∷ pos 0 ∷ pos 0 ∷ pos 0 ∷ pos 100000000 ∷ pos 0 ∷ pos 354166 ∷ pos 0
    ∷ negsuc 354165 ∷ [])
    × (joined (leased ∷ take 1 half_year)
    ≡ pos 0 ∷ pos 0 ∷ pos 24000 ∷ pos 0 ∷ pos 0 ∷ pos 36000 ∷ pos 0 ∷ pos 0 ∷ negsuc 11999 ∷ [])
    × (joined taxed ≡ pos 30000 ∷ pos 0 ∷ pos 0 ∷ pos 70000 ∷ pos 0 ∷ pos 0 ∷ pos 0 ∷ pos 0
    ∷ pos 100000 ∷ [])
    × (joined (take 1 left)
    ≡ pos 0 ∷ pos 0 ∷ pos 0 ∷ pos 0 ∷ pos 0 ∷ pos 0 ∷ pos 0 ∷ pos 900 ∷ negsuc 899 ∷ [])
    -- and what joins their changes: the gift, less what was charged of it and its book value when
    -- it was sold
    × (changes_of town 2026 (registers_of town given)
    ≡ record {
      outlay = pos 0;
      donated = pos 90000;
      right_to_use = pos 0;
      depreciation = negsuc 29999;
      amortization = pos 0;
      disposals = negsuc 59999;
      deferred = pos 0;
      proceeds = pos 0;
      leases_issued = pos 0;
      principal = pos 0;
      accrued = pos 0;
      absences = pos 0;
    })
    × (fund_balance town 2026 1 moved ≡ pos 3000)
    × (fund_balance town 2026 2 moved ≡ pos 2000)
    × (net_position town 2026 moved ≡ pos 5000)
    × (report_rows town given 2026 statement.Reconcile
    ≡ single (codes "Total fund balances") (pos 50000)
    ∷ single (codes "Capital assets, net") (pos 0)
    ∷ single (codes "Right-to-use assets, net") (pos 0)
    ∷ single (codes "Unavailable revenue") (pos 0) ∷ single (codes "Bonds payable") (pos 0)
    ∷ single (codes "Leases payable") (pos 0)
    ∷ single (codes "Accrued interest") (pos 0) ∷ single (codes "Compensated absences") (pos 0)
    ∷ single (codes "Net position") (pos 50000) ∷ [])

-- ---- verdicts

abbrev pub says : List Entry → Change → Verdict
says history c = verdict_of town history c

-- a call is accepted with the numbers that it draws as long as there is room, and else refused with
-- the line, what it asks, and what is left
abbrev pub TellsRoom : Type 0
TellsRoom =
    (says (take 2 all_spent) (calls 1 (on 2025 7 5) (spends 40000))
    ≡ Accept (record { number = 2; second = 1 }))
    × (says all_spent (calls 1 (on 2025 7 5) (spends 1))
    ≡ Refuse (refusal.Exceeds 0 (pos 1) (pos 0)))

-- the same call again is a repeat, by the same desk; another call with its key is refused
abbrev pub repeated : ℕ → ℕ → Change
repeated desk cents =
    record { desk = desk; key = 98 ∷ []; on = on 2025 7 5; after = None; act = adopts 1 0 cents }

abbrev pub TellsRepeats : Type 0
TellsRepeats =
    (says (take 1 all_spent) (repeated 1 100000) ≡ Repeat 1)
    × (says (take 1 all_spent) (repeated 1 90000) ≡ Refuse (refusal.KeyReused 1))
    × (says (take 1 all_spent) (repeated 4 100000) ≡ Refuse (refusal.NotThisDesk role.Council))

-- of the rules that a call breaks the first one speaks: each call here keeps the rule that the one
-- above it breaks, but for the two ends of an amount
abbrev pub faulty : Option ℕ → ℕ → Day → ℕ → ℕ → ℕ → Change
faulty after desk day year line cents =
    record {
      desk = desk;
      key = 107 ∷ [];
      on = day;
      after = after;
      act = act.Amend (record { fund = 1; year = year; line = line; by = pos cents });
    }

abbrev pub RefusesInOrder : Type 0
RefusesInOrder =
    (says (take 1 half_year) (faulty (Some 9) 99 (on 2025 7 1) 2029 1 0)
    ≡ Refuse (refusal.DeskUnknown 99))
    × (says (take 1 half_year) (faulty (Some 9) 4 (on 2025 7 1) 2029 1 0)
    ≡ Refuse (refusal.Ahead 9 1))
    × (says (take 1 half_year) (faulty (Some 1) 4 (on 2025 7 1) 2029 1 0)
    ≡ Refuse (refusal.NotThisDesk role.Council))
    × (says (take 1 half_year) (faulty None 1 (on 2025 7 1) 2029 1 0)
    ≡ Refuse (refusal.AmountRange 0))
    × (says (take 1 half_year) (faulty None 1 (on 2025 7 1) 2029 1 10000000000001)
    ≡ Refuse (refusal.AmountRange 10000000000001))
    × (says (take 1 half_year) (faulty None 1 (on 2025 7 1) 2029 1 10000000000000)
    ≡ Refuse (refusal.UnknownName kind.Line 1))
    × (says (take 1 half_year) (faulty None 1 (on 2025 7 1) 2029 0 1)
    ≡ Refuse (refusal.PeriodClosed (record { year = 2025; month = 7 })))
    × (says (take 1 half_year) (faulty None 1 (on 2025 8 1) 2029 0 1)
    ≡ Refuse (refusal.YearNotOpen 2029))
    × (says (take 1 half_year) (faulty None 1 (on 2025 8 1) 2028 0 1)
    ≡ Refuse (refusal.NotAdopted 1 2028))

-- months close in their order, and a year once its tax's window has passed
abbrev pub ended : ℕ → Act
ended y = act.Close (period.Year y)

abbrev pub ClosesInOrder : Type 0
ClosesInOrder =
    (says [] (calls 1 (on 2026 9 1) (closes 2025 8))
    ≡ Refuse (refusal.MonthOrder (record { year = 2025; month = 7 })))
    × (says year (calls 1 (on 2026 9 1) (ended 2026))
    ≡ Refuse (refusal.WindowOpen (record { year = 2026; month = 8 })))
    × (says (year ++ closed 2026 7 ∷ closed 2026 8 ∷ drew 0 0 (on 2026 9 1) (ended 2026) ∷ [])
    (calls 1 (on 2026 9 1) (ended 2026)) ≡ Refuse (refusal.YearClosed 2026))

-- ---- cash

-- a voucher of 500 isn't paid out of 400
abbrev pub received : ℕ → List Entry
received cents = entry 0 (adopts 1 0 100000) ∷ entry 1 (spends 500)
    ∷ entry 0 (act.Receive (record { source = 1; amount = cents })) ∷ []

abbrev pub PaysFromCash : Type 0
PaysFromCash =
    (cash_refusal town (received 400) (act.Pay (record { vouchers = 1 ∷ [] }))
    ≡ Some (refusal.CashShort 1 (pos 400) (pos 500)))
    × (cash_refusal town (received 500) (act.Pay (record { vouchers = 1 ∷ [] })) ≡ None)
