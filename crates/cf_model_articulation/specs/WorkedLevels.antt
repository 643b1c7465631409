-- A fund that is controlled at another level from a fiscal year on, on short histories, worked by
-- hand: what is carried into that
-- year goes onto lines of the later level, and lapses where there is none.
use Rattle.std.specs.Prelude.{◌≡◌, ℕ, true, false, List, [], ◌∷◌, Option, Some, None, pos}
use Rattle.cf_model.specs.Common.{Day, Act, Adopt, Amend, ChangeOrder, Order, Requisition, Close, Entry, AccountItem, Refusal, Refused, Line, documents_of, order_shown, numbers, name_refusal, blank_plan, line_shown, touches}
use Rattle.cf_calls.specs.declared.acts.Period.TheVariants as period
use Rattle.cf_calls.specs.declared.names.NameKind.TheVariants as kind
use Rattle.cf_calls.specs.declared.refusal.Refusal.TheVariants as refusal
use Rattle.cf_calls.specs.declared.shown.ItemState.TheVariants as state
use Rattle.cf_calls.specs.declared.shown.Shown.TheVariants as shown
use Rattle.cf_chart.specs.declared.rows.FundType.TheVariants as fund_type
use Rattle.cf_chart.specs.declared.rows.Level.TheVariants as level
use Rattle.cf_chart.specs.declared.rows.LinePart.TheVariants as part
use Rattle.cf_chart.specs.declared.rows.ObjectKind.TheVariants as object_kind
use Rattle.cf_chart.specs.declared.rows.Policy.TheVariants as policy
use Rattle.cf_chart.specs.Common.{Plan, line_of}

abbrev pub by_object : ℕ → ℕ → Line
by_object dept object = record { fund = 1; dept = dept; part = part.Object object; later = false }

-- Rivertown's general fund, which carries, and from 2027 on is controlled by department: line 8 is
-- the Streets department's then
abbrev pub city : Plan
city = record blank_plan {
  first_year = 2026;
  first_month = 7;
  funds = record {
    id = 1;
    name = [];
    fund_type = fund_type.General;
    level = level.Object;
    policy = policy.Carry;
    later = Some (record { level = level.Department; year = 2027 });
    balance_class = None;
  } ∷ [];
  departments = record { id = 10; name = []; function = 1 }
      ∷ record { id = 20; name = []; function = 2 } ∷ [];
  objects = record { id = 510; name = []; class = 5; kind = object_kind.Current }
      ∷ record { id = 520; name = []; class = 5; kind = object_kind.Current } ∷ [];
  lines = by_object 10 510 ∷ by_object 10 520 ∷ by_object 10 710 ∷ by_object 20 510
      ∷ by_object 20 520 ∷ by_object 20 710 ∷ by_object 10 810 ∷ by_object 10 820
      ∷ record { fund = 1; dept = 20; part = part.Department; later = true } ∷ [];
}

abbrev pub on : ℕ → ℕ → ℕ → Day
on y m d = record { year = y; month = m; day = d }

abbrev pub entry : ℕ → Day → Act → Entry
entry number day act =
    record {
      change = record { desk = 10; key = []; on = day; after = None; act = act };
      drawn = record { number = number; second = 0 };
    }

abbrev pub adopts : ℕ → ℕ → Entry
adopts line amount =
    entry 0 (on 2025 7 1)
    (Adopt (record {
      fund = 1;
      year = 2026;
      lines = record { line = line; amount = amount } ∷ [];
      estimates = [];
    }))

abbrev pub account : ℕ → ℕ → AccountItem
account dept amount = record { fund = 1; dept = dept; object = 510; amount = amount }

abbrev pub orders : ℕ → ℕ → Entry
orders dept amount =
    entry 1 (on 2025 7 1)
    (Order (record { vendor = 7; requisition = None; items = account dept amount ∷ [] }))

abbrev pub closes : ℕ → ℕ → Entry
closes year month =
    entry 0 (on 2026 9 1) (Close (period.Month (record { year = year; month = month })))

-- the twelve months of the fiscal year 2026
abbrev pub year_closes : List Entry
year_closes =
    closes 2025 7 ∷ closes 2025 8 ∷ closes 2025 9 ∷ closes 2025 10 ∷ closes 2025 11 ∷ closes 2025 12
    ∷ closes 2026 1 ∷ closes 2026 2 ∷ closes 2026 3 ∷ closes 2026 4 ∷ closes 2026 5 ∷ closes 2026 6
    ∷ []

-- ---- an order of the Streets department, which has a line in 2027

abbrev pub carried : List Entry
carried = adopts 3 10000 ∷ orders 20 4000 ∷ year_closes

-- after fourteen entries nothing of 2026 is encumbered, its appropriation stays as it was, and line
-- 8 has what was open, with as much appropriation
abbrev pub CarriesOntoItsLine : Type 0
CarriesOntoItsLine =
    (numbers city 3 2026 carried
    ≡ record {
      original = pos 10000;
      appropriated = pos 10000;
      held = pos 0;
      encumbered = pos 0;
      expended = pos 0;
      room = pos 10000;
    })
    × (numbers city 8 2027 carried
    ≡ record {
      original = pos 0;
      appropriated = pos 4000;
      held = pos 0;
      encumbered = pos 4000;
      expended = pos 0;
      room = pos 0;
    })
    × (numbers city 3 2027 carried
    ≡ record {
      original = pos 0;
      appropriated = pos 0;
      held = pos 0;
      encumbered = pos 0;
      expended = pos 0;
      room = pos 0;
    })

-- the order shows the line of its year, and there is no line 3 in 2027, nor line 8 in 2026
abbrev pub ShowsItsLine : Type 0
ShowsItsLine =
    (order_shown city 1 (documents_of city carried).items
    ≡ Some (shown.Order
    (record { line = 8; open_cents = 4000; state = state.Live; year = 2027 } ∷ []) 7))
    × (line_shown city carried 3 2027 ≡ Refused (refusal.UnknownName kind.Line 3))
    × (line_shown city carried 8 2026 ≡ Refused (refusal.UnknownName kind.Line 8))

-- ---- an order of the Administration department, which has none

abbrev pub lapsed : List Entry
lapsed = adopts 0 10000 ∷ orders 10 4000 ∷ year_closes

abbrev pub LapsesWithoutLine : Type 0
LapsesWithoutLine =
    (order_shown city 1 (documents_of city lapsed).items
    ≡ Some (shown.Order
    (record { line = 0; open_cents = 0; state = state.Lapsed; year = 2026 } ∷ []) 7))
    × (numbers city 0 2026 lapsed
    ≡ record {
      original = pos 10000;
      appropriated = pos 10000;
      held = pos 0;
      encumbered = pos 0;
      expended = pos 0;
      room = pos 10000;
    })
    × (numbers city 8 2027 lapsed
    ≡ record {
      original = pos 0;
      appropriated = pos 0;
      held = pos 0;
      encumbered = pos 0;
      expended = pos 0;
      room = pos 0;
    })

-- ---- names

abbrev pub names : List Entry → Day → Act → Option Refusal
names history day act = name_refusal city (documents_of city history) day act

abbrev pub amends : ℕ → ℕ → Act
amends line year = Amend (record { fund = 1; year = year; line = line; by = pos 1 })

abbrev pub changes : ℕ → Act
changes item = ChangeOrder
    (record { order = 1; item = item; fund = 1; dept = 20; object = 510; by = pos 1 })

abbrev pub asks : ℕ → Act
asks dept = Requisition (record { items = account dept 1 ∷ [] })

-- a line is one of the year that the act states, and an account has one in the year that the act
-- holds in
abbrev pub NamesLinesOfTheYear : Type 0
NamesLinesOfTheYear =
    (names [] (on 2025 7 1) (amends 3 2026) ≡ None)
    × (names [] (on 2025 7 1) (amends 3 2027) ≡ Some (refusal.UnknownName kind.Line 3))
    × (names [] (on 2025 7 1) (amends 8 2027) ≡ None)
    × (names [] (on 2025 7 1) (amends 8 2026) ≡ Some (refusal.UnknownName kind.Line 8))
    × (names [] (on 2026 6 30) (asks 10) ≡ None)
    × (names [] (on 2026 7 1) (asks 10) ≡ Some (refusal.UnknownName kind.Line 510))
    × (names [] (on 2026 7 1) (asks 20) ≡ None)

-- an order's change names its account in the item's year: a day of 2026 changes what is carried
-- into 2027; where there is no such item, in
-- the year of the day
abbrev pub NamesAccountsOfTheYear : Type 0
NamesAccountsOfTheYear =
    (names carried (on 2026 6 30) (changes 1) ≡ None)
    × (names (adopts 3 10000 ∷ orders 20 4000 ∷ []) (on 2026 7 1) (changes 1) ≡ None)
    × (line_of city 1 20 510 2026 ≡ Some 3)
    × (line_of city 1 20 510 2027 ≡ Some 8)
    × (line_of city 1 10 510 2027 ≡ None)

-- a call takes the stripes of its account's lines at both levels: those of lines 3 and 8
abbrev pub TakesBothLevels : Type 0
TakesBothLevels =
    (touches city 3 (asks 20) ≡ true) × (touches city 0 (asks 20) ≡ true)
    × (touches city 1 (asks 20) ≡ false)
    × (touches city 0 (asks 10) ≡ true) × (touches city 3 (asks 10) ≡ false)
