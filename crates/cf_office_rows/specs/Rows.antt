-- The rows of a ledger: what is moved of control lines (GASB Codification 1700: the legal level of
-- budgetary control) and of revenue sources.
use Rattle.std.specs.Prelude.{ℕ, ◌+◌, Bool, not, if◌then◌else◌, ◌==◌, ◌&&◌, ◌||◌, List, [], ◌∷◌, Option, Some, None, ℤ, pos, ◌+ℤ◌}
use Rattle.std.specs.List.{filter}
use Rattle.std.specs.Ordering.{int_eq}
use Rattle.cf_model.specs.Common.{AccountItem, Line, LinePart, is_line, Move}
use Rattle.cf_chart.specs.declared.rows.LinePart.TheVariants as part
use Rattle.cf_chart.specs.Common.{Plan, line_at, line_of}
use Rattle.cf_office_rows.specs.declared.rows.Amounts.{Amounts}
use Rattle.cf_office_rows.specs.declared.rows.LedgerRow.{LedgerRow}
use Rattle.cf_office_rows.specs.declared.rows.Origin.{Origin}

-- ---- amounts

abbrev pub nothing : Amounts
nothing = record {
  appropriated = pos 0;
  ordered = pos 0;
  held = pos 0;
  spent = pos 0;
  received = pos 0;
}

abbrev pub changes : Amounts → Bool
changes a =
    not (int_eq a.appropriated (pos 0)) || not (int_eq a.ordered (pos 0))
    || not (int_eq a.held (pos 0)) || not (int_eq a.spent (pos 0))
    || not (int_eq a.received (pos 0))

-- what a move of a document's item changes
abbrev pub amounts_of : ℤ → ℤ → ℤ → Amounts
amounts_of held ordered spent = record nothing { held = held; ordered = ordered; spent = spent }

abbrev pub appropriates : ℤ → Amounts
appropriates by = record nothing { appropriated = by }

-- ---- rows

-- rows that change nothing are left out
abbrev pub kept : List LedgerRow → List LedgerRow
kept rows = filter (λ r. changes r.by) rows

abbrev pub origin : ℕ → ℕ → ℕ → Origin
origin place document item = record { place = place; document = document; item = item }

abbrev pub line_number : Plan → AccountItem → ℕ → Option ℕ
line_number plan a year = line_of plan a.fund a.dept a.object year

-- the row of an account in a fiscal year, on the line that controls it in that year
abbrev pub on_account : Plan → Origin → AccountItem → ℕ → Amounts → LedgerRow
on_account plan of a year by =
    record {
      of = of;
      fund = a.fund;
      dept = a.dept;
      object = a.object;
      line = line_number plan a year;
      source = None;
      year = year;
      by = by;
    }

abbrev pub on_move : Plan → Origin → Move → LedgerRow
on_move plan of m = on_account plan of m.account m.year (amounts_of m.held m.encumbered m.expended)

abbrev pub part_object : LinePart → ℕ
part_object (part.Object id) = id
part_object _ = 0

abbrev pub on_line_if : Option Line → Origin → ℕ → ℕ → Amounts → LedgerRow
on_line_if None of number year by =
    record {
      of = of;
      fund = 0;
      dept = 0;
      object = 0;
      line = Some number;
      source = None;
      year = year;
      by = by;
    }
on_line_if (Some l) of number year by =
    record {
      of = of;
      fund = l.fund;
      dept = l.dept;
      object = part_object l.part;
      line = Some number;
      source = None;
      year = year;
      by = by;
    }

-- the row of a control line that is named by its number, with its object where it has one alone
abbrev pub on_line : Plan → Origin → ℕ → ℕ → Amounts → LedgerRow
on_line plan of number year by = on_line_if (line_at plan number) of number year by

-- ---- sums

-- whether a row is of a control line and fiscal year
abbrev pub is_of : ℕ → ℕ → LedgerRow → Bool
is_of line year r = (r.year == year) && is_line line r.line

-- what rows make of one number of a line and fiscal year
abbrev pub line_sum : (Amounts → ℤ) → ℕ → ℕ → List LedgerRow → ℤ
line_sum f line year [] = pos 0
line_sum f line year (r ∷ rows) =
    (if is_of line year r then f r.by else pos 0) +ℤ line_sum f line year rows

-- whether a row is of a revenue source and fiscal year
abbrev pub is_of_source : ℕ → ℕ → LedgerRow → Bool
is_of_source source year r = (r.year == year) && is_line source r.source

-- what rows receive of a source in a fiscal year
abbrev pub source_sum : ℕ → ℕ → List LedgerRow → ℤ
source_sum source year [] = pos 0
source_sum source year (r ∷ rows) =
    (if is_of_source source year r then r.by.received else pos 0) +ℤ source_sum source year rows
