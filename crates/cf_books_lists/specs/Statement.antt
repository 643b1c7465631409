-- A statement of a fiscal year as records: the rows that `report` prints, each with the section
-- that it stands in, and a control line with its names.
use Rattle.std.specs.Prelude.{◌≡◌, ⊤, ℕ, ℤ, Bool, false, ◌+◌, ◌==◌, ◌&&◌, if◌then◌else◌, List, [], ◌∷◌, ◌++◌, Option, Some, None, codes, flat_map, length, slice_get}
use Rattle.std.specs.Str.{bytes_eq}
use Rattle.cf_model.specs.Common.{Balance, Budget, Activities, Entry, Row, Line, RevenueSource, report_rows}
use Rattle.cf_chart.specs.Common.{Plan, department_at, fund_at, is_of_year}
use Rattle.cf_chart.specs.declared.rows.Fund.{Fund}
use Rattle.cf_classes.specs.Statements.{class_rows, component_rows, major_rows}
use Rattle.cf_statements.specs.Budget.{line_row}
use Rattle.cf_statements.specs.Sums.{Sums}
use Rattle.cf_text.specs.Records.{field_at}
use Rattle.cf_run_words.specs.declared.words.ReportKind.{ReportKind}
use Rattle.cf_run_words.specs.declared.words.ReportKind.TheVariants.{Look, Classes, Components, Major}
use Rattle.cf_books_lists.specs.LineNames.{later_of, part_and_years, part_name}
use Rattle.cf_books_lists.specs.Names.{department_name}
use Rattle.cf_books_lists.specs.Open.{line_of}
use Rattle.cf_books_lists.specs.Records.{head_text, number_text, record_text}

-- the rows of each of the ten statements, as `report` has them
abbrev pub rows_of : Plan → List Entry → ℕ → ReportKind → List Row
rows_of plan history year (Look kind) = report_rows plan history year kind
rows_of plan history year Classes = class_rows plan history year
rows_of plan history year Components = component_rows plan history year
rows_of plan history year Major = major_rows plan history year

-- ---- the control line of each row: only the budgetary comparison has rows that are of one

-- a revenue source is of no line
abbrev pub source_lines : ℕ → List RevenueSource → List (Option ℕ)
source_lines fund sources = flat_map (λ s. if s.fund == fund then None ∷ [] else []) sources

-- the lines of a fund at the year's level, by number from this one on
abbrev pub fund_lines : Plan → ℕ → ℕ → ℕ → List Line → List (Option ℕ)
fund_lines plan year fund number [] = []
fund_lines plan year fund number (l ∷ ls) =
    (if (l.fund == fund) && is_of_year plan year l then Some number ∷ [] else [])
    ++ fund_lines plan year fund (number + 1) ls

-- a fund's rows: its heading, its sources and its lines
abbrev pub section_lines : Plan → ℕ → ℕ → List (Option ℕ)
section_lines plan year fund =
    None ∷ (source_lines fund plan.sources ++ fund_lines plan year fund 0 plan.lines)

abbrev pub sections_lines : Plan → ℕ → List Fund → List (Option ℕ)
sections_lines plan year funds = flat_map (λ f. section_lines plan year f.id) funds

abbrev pub comparison_lines : Plan → ℕ → List (Option ℕ)
comparison_lines plan year = sections_lines plan year plan.funds

abbrev pub row_lines : Plan → ℕ → ReportKind → List (Option ℕ)
row_lines plan year (Look Budget) = comparison_lines plan year
row_lines plan year _ = []

abbrev pub line_or_none : Option (Option ℕ) → Option ℕ
line_or_none None = None
line_or_none (Some line) = line

-- that of the row at a place, from 0
abbrev pub line_at : List (Option ℕ) → ℕ → Option ℕ
line_at lines place = line_or_none (slice_get lines place)

-- each row that is said to be of a line has that line's label and numbers
abbrev pub AreOf : Sums → ℕ → List (Option ℕ) → List Row → Type 0
AreOf sums year [] [] = ⊤
AreOf sums year (None ∷ lines) (r ∷ rows) = AreOf sums year lines rows
AreOf sums year (Some n ∷ lines) (r ∷ rows) = (r ≡ line_row sums year n)
    × AreOf sums year lines rows
AreOf sums year _ _ = ⊥

-- ---- the section of each row

-- the total of all funds stands below the last of them, and in no section
abbrev pub is_total : ReportKind → Row → Bool
is_total (Look Balance) r = bytes_eq r.label (codes "Total fund balances")
is_total Classes r = bytes_eq r.label (codes "Total fund balances")
is_total _ r = false

abbrev pub section_of : ReportKind → List ℕ → Row → List ℕ
section_of kind section r = if is_total kind r then [] else section

-- a row without amounts is a heading, which begins a section
abbrev pub label_or : List ℕ → List ℕ → List ℤ → List ℕ
label_or section label [] = label
label_or section label (a ∷ amounts) = section

abbrev pub section_below : List ℕ → Row → List ℕ
section_below section r = label_or section r.label r.amounts

-- ---- the fields of a row

abbrev pub single_head : List (List ℕ)
single_head = codes "section" ∷ codes "name" ∷ codes "amount" ∷ []

abbrev pub single_fields : List ℕ → Row → List (List ℕ)
single_fields section r = section ∷ r.label ∷ field_at r.amounts 0 ∷ []

-- the budgetary comparison (GASB Codification 2400): a line has the name of its department, and
-- which part of that department's objects it has
abbrev pub comparison_head : List (List ℕ)
comparison_head =
    codes "section" ∷ codes "name" ∷ codes "line" ∷ codes "part" ∷ codes "part_name"
    ∷ codes "adopted" ∷ codes "final" ∷ codes "actual" ∷ codes "on_order" ∷ codes "left" ∷ []

abbrev pub row_name : Plan → Option Line → Row → List ℕ
row_name plan None r = r.label
row_name plan (Some l) r = department_name (department_at plan l.dept)

abbrev pub row_part : Plan → Option Line → List ℕ
row_part plan None = []
row_part plan (Some l) = part_and_years l (later_of (fund_at plan l.fund))

abbrev pub row_part_name : Plan → Option Line → List ℕ
row_part_name plan None = []
row_part_name plan (Some l) = part_name plan l.part

abbrev pub compared_fields : Plan → List ℕ → Option ℕ → Row → List (List ℕ)
compared_fields plan section line r =
    section ∷ row_name plan (line_of plan line) r ∷ number_text line
    ∷ row_part plan (line_of plan line) ∷ row_part_name plan (line_of plan line)
    ∷ field_at r.amounts 0 ∷ field_at r.amounts 1 ∷ field_at r.amounts 2 ∷ field_at r.amounts 3
    ∷ field_at r.amounts 4 ∷ []

-- the statement of activities: what has one amount, as a general revenue, has it in a column of its
-- own
abbrev pub activities_head : List (List ℕ)
activities_head =
    codes "section" ∷ codes "name" ∷ codes "expenses" ∷ codes "charges" ∷ codes "operating_grants"
    ∷ codes "capital_grants"
    ∷ codes "net_expense" ∷ codes "amount" ∷ []

abbrev pub program_amounts : List ℤ → List ℤ
program_amounts amounts = if length amounts == 1 then [] else amounts

abbrev pub single_amount : List ℤ → List ℤ
single_amount amounts = if length amounts == 1 then amounts else []

abbrev pub activity_fields : List ℕ → Row → List (List ℕ)
activity_fields section r =
    section ∷ r.label ∷ field_at (program_amounts r.amounts) 0
    ∷ field_at (program_amounts r.amounts) 1 ∷ field_at (program_amounts r.amounts) 2
    ∷ field_at (program_amounts r.amounts) 3 ∷ field_at (program_amounts r.amounts) 4
    ∷ field_at (single_amount r.amounts) 0 ∷ []

-- the names of the columns, and the fields under them
abbrev pub head_of : ReportKind → List (List ℕ)
head_of (Look Budget) = comparison_head
head_of (Look Activities) = activities_head
head_of _ = single_head

abbrev pub fields_of : Plan → ReportKind → List ℕ → Option ℕ → Row → List (List ℕ)
fields_of plan (Look Budget) section line r = compared_fields plan section line r
fields_of plan (Look Activities) section line r = activity_fields section r
fields_of plan _ section line r = single_fields section r

-- ---- all

-- a heading has no record: it is the section of those below it
abbrev pub unless_heading : List ℤ → List ℕ → List ℕ
unless_heading [] text = []
unless_heading (a ∷ amounts) text = text

abbrev pub row_text : Bool → Plan → ReportKind → List ℕ → Option ℕ → Row → List ℕ
row_text csv plan kind section line r =
    unless_heading r.amounts
    (record_text csv (fields_of plan kind (section_of kind section r) line r))

-- the rows from a place on, below the heading of a section
abbrev pub rows_text : Bool → Plan → ReportKind → List (Option ℕ) → List ℕ → ℕ → List Row → List ℕ
rows_text csv plan kind lines section place [] = []
rows_text csv plan kind lines section place (r ∷ rows) =
    row_text csv plan kind section (line_at lines place) r
    ++ rows_text csv plan kind lines (section_below section r) (place + 1) rows

-- the names of the columns, and rows
abbrev pub text_of : Bool → ℕ → ReportKind → Plan → List Row → List ℕ
text_of csv year kind plan rows =
    head_text csv (head_of kind) ++ rows_text csv plan kind (row_lines plan year kind) [] 0 rows

abbrev pub statement_text : Bool → ℕ → ReportKind → Plan → List Entry → List ℕ
statement_text csv year kind plan history =
    text_of csv year kind plan (rows_of plan history year kind)
