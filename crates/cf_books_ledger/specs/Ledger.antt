-- The ledger as records: the rows of a history that are asked for, each with its entry, and what
-- was spent and received so far.
use Rattle.std.specs.Prelude.{ℕ, ◌+◌, ◌-◌, Bool, true, false, not, if◌then◌else◌, ◌==◌, ◌&&◌, List, [], ◌∷◌, ◌++◌, Option, Some, None, codes, decimal, nat_lt, slice_get, ℤ, pos, ◌+ℤ◌, unsigned_abs}
use Rattle.cf_model.specs.Common.{Day, Entry, is_before}
use Rattle.cf_base.specs.Common.{money_of, day_text}
use Rattle.cf_books_lists.specs.Posts.{is_asked}
use Rattle.cf_books_lists.specs.Records.{drawn_text, head_text, money_if, number_text, record_text}
use Rattle.cf_json_calls.specs.CallText.{call_word}
use Rattle.cf_office_rows.specs.declared.rows.LedgerRow.{LedgerRow}
use Rattle.cf_books_words.specs.declared.words.LedgerFilter.{LedgerFilter}
use Rattle.cf_books_ledger.specs.declared.ledger.Totals.{Totals}
use Rattle.cf_books_ledger.specs.Parties.{PartyLists, parties_of, party_by}

-- ---- which rows are asked for

-- whether a number that may be wanting is the one that is asked for, or none is
abbrev pub is_named : Option ℕ → Option ℕ → Bool
is_named None n = true
is_named (Some m) None = false
is_named (Some m) (Some n) = m == n

abbrev pub is_from : Option Day → Day → Bool
is_from None on = true
is_from (Some day) on = not (is_before on day)

abbrev pub is_through : Option Day → Day → Bool
is_through None on = true
is_through (Some day) on = not (is_before day on)

-- whether the accounts, the line and the source of a row are asked for
abbrev pub is_there : LedgerFilter → LedgerRow → Bool
is_there f r = is_asked f.fund r.fund
    && (is_asked f.dept r.dept
    && (is_asked f.object r.object && (is_named f.line r.line && is_named f.source r.source)))

abbrev pub is_within : LedgerFilter → Day → Bool
is_within f on = is_from f.from on && is_through f.through on

-- .. and its party, its fiscal year and the day of its entry
abbrev pub is_wanted : LedgerFilter → PartyLists → Entry → LedgerRow → Bool
is_wanted f parties e r =
    is_there f r && (is_asked f.vendor (party_by parties e.change.act r)
    && (is_asked f.year r.year && is_within f e.change.on))

-- the entry that a row is of
abbrev pub entry_of : List Entry → LedgerRow → Option Entry
entry_of history r = slice_get history (r.of.place - 1)

abbrev pub wanted_if : LedgerFilter → PartyLists → Option Entry → LedgerRow → Option Entry
wanted_if f parties None r = None
wanted_if f parties (Some e) r = if is_wanted f parties e r then Some e else None

-- .. where the row is asked for
abbrev pub wanted : LedgerFilter → PartyLists → List Entry → LedgerRow → Option Entry
wanted f parties history r = wanted_if f parties (entry_of history r) r

-- ---- what was spent and received so far

-- sums of less than 2^126 cents, which is more than all amounts of a journal come to
abbrev pub is_small : ℤ → Bool
is_small z = nat_lt (unsigned_abs z) 85070591730234615865843651857942052864

abbrev pub plus_if : Option ℤ → ℤ → Option ℤ
plus_if None z = None
plus_if (Some y) z = if is_small y && is_small z then Some (y +ℤ z) else None

abbrev pub nothing : Totals
nothing = record { spent = Some (pos 0); received = Some (pos 0) }

abbrev pub with_row : Totals → LedgerRow → Totals
with_row t r = record
    { spent = plus_if t.spent r.by.spent; received = plus_if t.received r.by.received }

-- received in a row of a source, and spent in one of a line
abbrev pub running : Option ℕ → Totals → Option ℤ
running None t = t.spent
running (Some source) t = t.received

-- ---- the text

-- the names of the columns
abbrev pub head : List (List ℕ)
head =
    codes "place" ∷ codes "day" ∷ codes "desk" ∷ codes "key" ∷ codes "call" ∷ codes "document"
    ∷ codes "item" ∷ codes "party" ∷ codes "fund" ∷ codes "dept"
    ∷ codes "object" ∷ codes "line" ∷ codes "source" ∷ codes "year" ∷ codes "appropriated"
    ∷ codes "ordered" ∷ codes "held" ∷ codes "spent" ∷ codes "received"
    ∷ codes "running" ∷ []

-- a row of an entry, with the totals through it
abbrev pub row_fields : PartyLists → Totals → Entry → LedgerRow → List (List ℕ)
row_fields parties t e r =
    decimal r.of.place ∷ day_text e.change.on ∷ decimal e.change.desk ∷ e.change.key
    ∷ call_word e.change.act ∷ drawn_text r.of.document ∷ drawn_text r.of.item
    ∷ drawn_text (party_by parties e.change.act r) ∷ drawn_text r.fund ∷ drawn_text r.dept
    ∷ drawn_text r.object ∷ number_text r.line ∷ number_text r.source
    ∷ decimal r.year ∷ money_of r.by.appropriated ∷ money_of r.by.ordered ∷ money_of r.by.held
    ∷ money_of r.by.spent ∷ money_of r.by.received
    ∷ money_if (running r.source t) ∷ []

-- a row whose entry is asked for, where so much was spent and received before
abbrev pub asked_text : Bool → PartyLists → Totals → Option Entry → LedgerRow → List ℕ
asked_text csv parties t None r = []
asked_text csv parties t (Some e) r = record_text csv (row_fields parties (with_row t r) e r)

abbrev pub asked_totals : Totals → Option Entry → LedgerRow → Totals
asked_totals t None r = t
asked_totals t (Some e) r = with_row t r

abbrev pub asked_rows : Bool → LedgerFilter → PartyLists → List Entry → Totals → List LedgerRow
    → List ℕ
asked_rows csv f parties history t [] = []
asked_rows csv f parties history t (r ∷ rows) =
    asked_text csv parties t (wanted f parties history r) r
    ++ asked_rows csv f parties history (asked_totals t (wanted f parties history r) r) rows

-- the names of the columns, and the rows that are asked for
abbrev pub text_of : Bool → LedgerFilter → List Entry → List LedgerRow → List ℕ
text_of csv f history rows =
    head_text csv head ++ asked_rows csv f (parties_of history) history nothing rows
