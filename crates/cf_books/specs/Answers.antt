-- What each command answers: a function of the bytes of its file.
use Rattle.std.specs.Prelude.{◌≡◌, ⊤, ℕ, zero, suc, ◌+◌, ◌-◌, ◌&&◌, nat_le, Bool, true, false, if◌then◌else◌, List, [], ◌∷◌, ◌++◌, length, Option, Some, None, Result, Ok, Err}
use Rattle.std.specs.Io.KnownBytes.{Appends}
use Rattle.cf_base.specs.Common.{last_year}
use Rattle.cf_model.specs.Common.{Day, Month as MonthOfYear, Entry, ChartFault, OfficeState}
use Rattle.cf_journal_book.specs.DurableState.{DurableBook}
use Rattle.cf_journal_book.specs.Recovery.{recovered}
use Rattle.cf_journal_book.specs.declared.refused.BookRefused.{BookRefused}
use Rattle.cf_journal_book.specs.declared.refused.BookRefused.TheVariants.{NotFounded, Damaged, Disk, NoMemory}
use Rattle.cf_chart.specs.declared.fault.ChartFault.TheVariants as fault
use Rattle.cf_chart.specs.Common.{Plan, chart_of}
use Rattle.cf_claims.specs.Standing.{vouchers_of_grant}
use Rattle.cf_claims.specs.declared.standing.GrantVoucher.{GrantVoucher}
use Rattle.cf_base_lines.specs.Sinks.{Wrote}
use Rattle.cf_grants.specs.Faults.{Checked}
use Rattle.cf_grants.specs.Reading.{grants_of}
use Rattle.cf_grants.specs.declared.fault.GrantFault.{GrantFault}
use Rattle.cf_grants.specs.declared.grant.Grant.{Grant}
use Rattle.cf_journal.specs.Frames.{frames}
use Rattle.cf_journal.specs.Records.{record_len}
use Rattle.cf_journal.specs.declared.refused.OpenRefused.{OpenRefused}
use Rattle.cf_journal.specs.declared.refused.OpenRefused.TheVariants as open_refused
use Rattle.cf_run_words.specs.declared.words.ReportKind.{ReportKind}
use Rattle.cf_run_words.specs.declared.words.ReportKind.TheVariants.{Look}
use Rattle.cf_base.specs.declared.statement.Kind.TheVariants as kind
use Rattle.cf_books_words.specs.Words.{Asked}
use Rattle.cf_books_words.specs.declared.words.Command.{Command}
use Rattle.cf_books_words.specs.declared.words.DocumentFilter.{DocumentFilter}
use Rattle.cf_books_words.specs.declared.words.PostFilter.{PostFilter}
use Rattle.cf_books_words.specs.declared.words.Command.TheVariants.{CheckChart, CheckGrants, Check, Claims, List as Listing, Calls, Chart, Lines, Posts, Balances, Open, Statement, Ledger, Documents, Month, Paid}
use Rattle.cf_books_grants.specs.Documents.{document_text}
use Rattle.cf_books_grants.specs.FaultIds.{fault_id as grant_fault_id}
use Rattle.cf_books_grants.specs.Vouchers.{vouchers_text}
use Rattle.cf_books.specs.declared.answers.Answer.{Answer}
use Rattle.cf_books.specs.declared.status.Status.{Status}
use Rattle.cf_books.specs.declared.status.Status.TheVariants as status
use Rattle.cf_books.specs.Calls.{call_line, calls_text}
use Rattle.cf_books_days.specs.Balances.{balances_through}
use Rattle.cf_books_days.specs.Posts.{posts_text_through}
use Rattle.cf_books_days.specs.Statement.{through_text}
use Rattle.cf_books_days.specs.declared.statement.DatedKind.{DatedKind}
use Rattle.cf_books_days.specs.declared.statement.DatedKind.TheVariants as dated
use Rattle.cf_books_documents.specs.Text.{text as documents_of}
use Rattle.cf_books_ledger.specs.Ledger.{text_of as ledger_of}
use Rattle.cf_office_rows.specs.History.{history_rows}
use Rattle.cf_books_lists.specs.Balances.{balances_of}
use Rattle.cf_books_lists.specs.Open.{open_text}
use Rattle.cf_books_lists.specs.Posts.{posts_of}
use Rattle.cf_books_lists.specs.Statement.{statement_text}
use Rattle.cf_books_month.specs.Month.{month_text}
use Rattle.cf_books_year.specs.YearBalances.{year_text}
use Rattle.cf_books_year.specs.Paid.{paid_text}
use Rattle.cf_books.specs.FaultRows.{fault_id}
use Rattle.cf_books.specs.Lines.{lines_text}
use Rattle.cf_books.specs.Listing.{list_text}
use Rattle.cf_books.specs.Room.{room_text}
use Rattle.cf_books.specs.Summary.{chart_text, journal_text}
use Rattle.cf_books.specs.Unknown.{early, unknown_in}
use Rattle.cf_books.specs.declared.unknown.Unknown.{Unknown}
use Rattle.cf_books_front.specs.Front.{front_in}
use Rattle.cf_books_front.specs.Whole.{Parts, whole_of}
use Rattle.cf_books_front.specs.declared.front.FrontRefused.{FrontRefused}
use Rattle.cf_books_front.specs.declared.front.FrontRefused.TheVariants.{Fewer, Nothing}

-- what is printed, and how the run ends
pub record Said : Type 0 where
  pub out : List ℕ
  pub status : Status

abbrev pub nothing : Status → Said
nothing s = record { out = []; status = s }

-- ---- a chart

-- what the chart of these bytes has, or its fault with the id of the row that it is in
abbrev pub chart_said : List ℕ → Result Plan ChartFault → Said
chart_said bytes (Ok plan) = record { out = chart_text plan; status = status.Done }
chart_said bytes (Err f) = nothing (status.ChartRefused f (fault_id bytes f))

-- ---- a journal, as far as it is whole

abbrev pub lines_in : Result Plan ChartFault → List ℕ
lines_in (Ok plan) = lines_text plan
lines_in (Err f) = []

abbrev pub text_of : Command → Parts → List ℕ
text_of Calls p = calls_text p.entries
text_of (Listing csv) p = list_text csv p.entries
text_of Chart p = p.chart
text_of _ p = []

-- the bytes from the damage on are lost
abbrev pub end_of : Option ℕ → ℕ → Status
end_of None len = status.Done
end_of (Some at) len = status.Cut at (len - at)

-- why nothing of a journal is read; a disk in memory has no faults but want of memory
abbrev pub refusal_of : OpenRefused → Status
refusal_of (open_refused.NotFounded len byte) = status.NotFounded len
refusal_of (open_refused.Damaged at) = status.Damaged at None
refusal_of open_refused.Disk = status.NoMemory
refusal_of open_refused.NoMemory = status.NoMemory

abbrev pub whole_said : Command → ℕ → Result Parts OpenRefused → Said
whole_said command len (Ok p) = record { out = text_of command p; status = end_of p.damage len }
whole_said command len (Err e) = nothing (refusal_of e)

-- ---- the lines of a journal's chart, or of a chart

-- a file that is no journal is read as a chart, where it is a TOML document at all
abbrev pub chart_lines_said : List ℕ → Result Plan ChartFault → Said
chart_lines_said bytes (Ok plan) = record { out = lines_text plan; status = status.Done }
chart_lines_said bytes (Err fault.NotToml) = nothing (status.NotFounded (length bytes))
chart_lines_said bytes (Err (fault.TooLong limit)) = nothing (status.NotFounded (length bytes))
chart_lines_said bytes (Err f) = nothing (status.ChartRefused f (fault_id bytes f))

abbrev pub lines_said : List ℕ → Result Parts OpenRefused → Said
lines_said bytes (Ok p) =
    record { out = lines_in (chart_of p.chart); status = end_of p.damage (length bytes) }
lines_said bytes (Err (open_refused.NotFounded len byte)) = chart_lines_said bytes (chart_of bytes)
lines_said bytes (Err e) = nothing (refusal_of e)

-- ---- a journal, whose entries the office takes again

-- the first of the entries that stands so many bytes behind the first gate, or further, with its
-- place
abbrev pub entry_behind : ℕ → ℕ → List Entry → Option (ℕ × Entry)
entry_behind offset place [] = None
entry_behind zero place (e ∷ later) = Some (place, e)
entry_behind (suc n) place (e ∷ later) = entry_behind (suc n - record_len e) (place + 1) later

-- the entry whose gate stands at a place in the file, where the chart in front of the entries has
-- so many bytes
abbrev pub entry_at : ℕ → ℕ → List Entry → Option (ℕ × Entry)
entry_at offset chart_len entries = entry_behind (offset - 6 - chart_len) 1 entries

abbrev pub refused_entry : ℕ → ℕ → Option (ℕ × Entry) → Said
refused_entry offset number None = nothing (status.Damaged offset None)
refused_entry offset number (Some x) =
    record {
      out = call_line x.1;
      status = status.Damaged offset (Some (record { place = x.0; number = number }));
    }

abbrev pub refused_in : ℕ → ℕ → Result (List ℕ × List Entry) OpenRefused → Said
refused_in offset number (Ok x) = refused_entry offset number (entry_at offset (length x.0) x.1)
refused_in offset number (Err e) = nothing (refusal_of e)

-- why these bytes aren't those of an office: an entry that it refuses is named by its place, and
-- its call is printed
abbrev pub refused_said : List ℕ → BookRefused → Said
refused_said bytes (Damaged at (Some number)) = refused_in at number (frames bytes)
refused_said bytes (Damaged at None) = nothing (status.Damaged at None)
refused_said bytes (NotFounded len byte) = nothing (status.NotFounded len)
refused_said bytes Disk = nothing status.NoMemory
refused_said bytes NoMemory = nothing status.NoMemory

-- the posts, the balances, what is open and the statements are those of the history that the bytes
-- recover to
abbrev pub office_text : Command → List ℕ → OfficeState → List ℕ
office_text (Posts filter None csv) bytes s = posts_of csv filter s.plan s.entries
office_text (Posts filter (Some day) csv) bytes s =
    posts_text_through csv filter day s.plan s.entries
office_text (Balances year None false csv) bytes s = balances_of csv year s.plan s.entries
office_text (Balances year (Some day) false csv) bytes s =
    balances_through csv day year s.plan s.entries
office_text (Balances year None true csv) bytes s = year_text csv year s.plan s.entries
office_text (Paid year csv) bytes s = paid_text csv year s.entries
office_text (Open csv) bytes s = open_text csv s.plan s.entries
office_text (Ledger filter csv) bytes s =
    ledger_of csv filter s.entries (history_rows s.plan s.entries)
office_text (Statement year kind None csv) bytes s = statement_text csv year kind s.plan s.entries
office_text _ bytes s = journal_text s.entries ++ room_text bytes s.entries

-- what is told of the office of these bytes, or why there is none
abbrev pub over_office : (OfficeState → Said) → List ℕ → Result OfficeState BookRefused → Said
over_office told bytes (Ok s) = told s
over_office told bytes (Err e) = refused_said bytes e

-- what the words name that the chart doesn't have is told in place of a list
abbrev pub told_of : Option Unknown → List ℕ → Said
told_of None text = record { out = text; status = status.Done }
told_of (Some what) text = nothing (status.NotInChart what)

abbrev pub office_told : Command → List ℕ → OfficeState → Said
office_told command bytes s = told_of (unknown_in s.plan command) (office_text command bytes s)

abbrev pub office_said : Command → List ℕ → Result OfficeState BookRefused → Said
office_said command bytes x = over_office (office_told command bytes) bytes x

-- the documents that are wanted
abbrev pub documents_told : DocumentFilter → Option (List ℕ) → Bool → OfficeState → Said
documents_told filter key csv s =
    record { out = documents_of csv filter key s.plan s.entries; status = status.Done }

abbrev pub documents_said : DocumentFilter → Option (List ℕ) → Bool → List ℕ
    → Result OfficeState BookRefused → Said
documents_said filter key csv bytes x = over_office (documents_told filter key csv) bytes x

-- a statement is of a fiscal year from 1971 to 2199: words with another are refused
abbrev pub statement_said : ℕ → ReportKind → Bool → List ℕ → Said
statement_said year kind csv bytes =
    if nat_le 1971 year && nat_le year last_year
    then office_said (Statement year kind None csv) bytes (recovered bytes)
    else nothing status.BadWords

-- the statements that are made of sums alone can be made of the entries through a day
abbrev pub dated_kind : ReportKind → Option DatedKind
dated_kind (Look kind.Balance) = Some dated.Balance
dated_kind (Look kind.Operating) = Some dated.Operating
dated_kind (Look kind.Budget) = Some dated.Budget
dated_kind (Look kind.Position) = Some dated.Position
dated_kind (Look kind.Activities) = Some dated.Activities
dated_kind _ = None

-- a statement of the entries that are dated through a day
unfoldable pub dated_text : Bool → Day → ℕ → DatedKind → Plan → List Entry → List ℕ
dated_text csv day year k plan entries = through_text csv day year k plan entries

abbrev pub dated_told : Bool → Day → ℕ → DatedKind → OfficeState → Said
dated_told csv day year k s =
    told_of (early s.plan (Some day)) (dated_text csv day year k s.plan s.entries)

abbrev pub dated_said : ℕ → Option DatedKind → Day → Bool → List ℕ → Said
dated_said year None day csv bytes = nothing status.BadWords
dated_said year (Some k) day csv bytes =
    if nat_le 1971 year && nat_le year last_year
    then over_office (dated_told csv day year k) bytes (recovered bytes)
    else nothing status.BadWords

-- a month is one from 1971-01 to 2199-12: words with another are refused
abbrev pub is_asked_month : MonthOfYear → Bool
is_asked_month m = nat_le 1971 m.year
    && (nat_le m.year last_year && (nat_le 1 m.month && nat_le m.month 12))

unfoldable pub month_list : Bool → MonthOfYear → Plan → List Entry → List ℕ
month_list csv month plan entries = month_text csv month plan entries

abbrev pub month_told : Bool → MonthOfYear → OfficeState → Said
month_told csv month s =
    record { out = month_list csv month s.plan s.entries; status = status.Done }

abbrev pub month_said : MonthOfYear → Bool → List ℕ → Said
month_said month csv bytes =
    if is_asked_month month then over_office (month_told csv month) bytes (recovered bytes)
    else nothing status.BadWords

-- ---- a document of grants, under the chart or over the history of a journal

-- its first fault, with the id of the grant that it is in
abbrev pub refused_document : List ℕ → GrantFault → Said
refused_document bytes f = nothing (status.GrantsRefused f (grant_fault_id bytes f))

abbrev pub document_said : List ℕ → Checked (List Grant) → Said
document_said bytes (Ok grants) = record { out = document_text grants; status = status.Done }
document_said bytes (Err f) = refused_document bytes f

abbrev pub under_chart : List ℕ → List ℕ → Result Plan ChartFault → Said
under_chart bytes chart (Ok plan) = document_said bytes (grants_of plan bytes)
under_chart bytes chart (Err f) = nothing (status.ChartRefused f (fault_id chart f))

-- what the document has under the chart that the journal keeps
abbrev pub grants_said : List ℕ → Result Parts OpenRefused → Said
grants_said bytes (Ok p) = under_chart bytes p.chart (chart_of p.chart)
grants_said bytes (Err e) = nothing (refusal_of e)

abbrev pub rows_said : Bool → List ℕ → Checked (List GrantVoucher) → Said
rows_said csv bytes (Ok rows) = record { out = vouchers_text csv rows; status = status.Done }
rows_said csv bytes (Err f) = refused_document bytes f

-- how the vouchers of a grant stand in the office's history
abbrev pub vouchers_said : ℕ → Bool → List ℕ → OfficeState → Said
vouchers_said id csv bytes s = rows_said csv bytes (vouchers_of_grant s.plan s.entries bytes id)

-- ---- any command

abbrev pub posts_said : PostFilter → Option Day → Bool → List ℕ → Said
posts_said filter None csv bytes = office_said (Posts filter None csv) bytes (recovered bytes)
posts_said filter (Some day) csv bytes =
    office_said (Posts filter (Some day) csv) bytes (recovered bytes)

abbrev pub balances_said : ℕ → Option Day → Bool → Bool → List ℕ → Said
balances_said year None false csv bytes =
    office_said (Balances year None false csv) bytes (recovered bytes)
balances_said year None true csv bytes =
    office_said (Balances year None true csv) bytes (recovered bytes)
balances_said year (Some day) false csv bytes =
    office_said (Balances year (Some day) false csv) bytes (recovered bytes)
balances_said year (Some day) true csv bytes = nothing status.BadWords

abbrev pub statement_through_said : ℕ → ReportKind → Option Day → Bool → List ℕ → Said
statement_through_said year kind None csv bytes = statement_said year kind csv bytes
statement_through_said year kind (Some day) csv bytes =
    dated_said year (dated_kind kind) day csv bytes

abbrev pub said : Option (List ℕ) → Command → List ℕ → Said
said key CheckChart bytes = chart_said bytes (chart_of bytes)
said key Lines bytes = lines_said bytes (whole_of bytes)
said key Check bytes = office_said Check bytes (recovered bytes)
said key (Posts filter through csv) bytes = posts_said filter through csv bytes
said key (Balances year through alone csv) bytes = balances_said year through alone csv bytes
said key (Open csv) bytes = office_said (Open csv) bytes (recovered bytes)
said key (Statement year kind through csv) bytes =
    statement_through_said year kind through csv bytes
said key (Ledger filter csv) bytes = office_said (Ledger filter csv) bytes (recovered bytes)
said key (Documents filter csv) bytes = documents_said filter key csv bytes (recovered bytes)
said key (Month month csv) bytes = month_said month csv bytes
said key (Paid year csv) bytes = office_said (Paid year csv) bytes (recovered bytes)
said key command bytes = whole_said command (length bytes) (whole_of bytes)

-- ---- the first entries of a history

-- the same of a journal's front, or why it has none
abbrev pub said_first : ℕ → Option (List ℕ) → Command → Result (List ℕ) FrontRefused → Said
said_first n key command (Ok bytes) = said key command bytes
said_first n key command (Err (Fewer entries)) = nothing (status.EntriesRefused n entries)
said_first n key command (Err (Nothing e)) = nothing (refusal_of e)

-- what a command says of a journal's first entries, where a number of them is asked for, or of all
abbrev pub said_at : Option ℕ → Option (List ℕ) → Command → List ℕ → Said
said_at None key command bytes = said key command bytes
said_at (Some n) key command bytes = said_first n key command (front_in n bytes)

-- the commands that say of a journal with n entries the same as of its first n; `check` has counts
-- of the file's bytes too
abbrev pub is_of_entries : Command → Bool
is_of_entries CheckChart = false
is_of_entries CheckGrants = false
is_of_entries Check = false
is_of_entries (Claims grant csv) = false
is_of_entries command = true

-- where the journal is whole and has n entries, this is what is said of it without their number
abbrev pub IsToday : ℕ → Option (List ℕ) → Command → List ℕ → Said → Type 0
IsToday n key command bytes x = (p : Parts) → whole_of bytes ≡ Ok p → p.damage ≡ None
    → length p.entries ≡ n → is_of_entries command ≡ true → x ≡ said key command bytes

-- ---- any request

-- whether a command reads a journal beside its file
abbrev pub reads_journal : Command → Bool
reads_journal CheckGrants = true
reads_journal (Claims id csv) = true
reads_journal _ = false

abbrev pub said_by : Command → Option ℕ → Option (List ℕ) → List ℕ → List ℕ → Said
said_by CheckChart entries key bytes journal = said key CheckChart bytes
said_by CheckGrants entries key bytes journal = grants_said bytes (whole_of journal)
said_by (Claims id csv) entries key bytes journal =
    over_office (vouchers_said id csv bytes) journal (recovered journal)
said_by command entries key bytes journal = said_at entries key command bytes

-- what is said of the bytes of a request's file, and of those of the journal beside it
abbrev pub said_with : Asked → List ℕ → List ℕ → Said
said_with a bytes journal = said_by a.command a.entries a.key bytes journal

-- the answer is this one, or there was no memory for it
abbrev pub view : Answer → Said
view a = record { out = a.out.items; status = a.status }

abbrev pub Answers : {E : Type 0} → Result Answer E → Said → Type 0
Answers (Ok a) x = x ≡ view a
Answers (Err e) x = ⊤

-- the book is that of the bytes, or this is why there is none; want of memory is free
abbrev pub opened : {D : Type 0} → DurableBook D → OfficeState
opened b = record { plan = b.plan; entries = b.entries }

-- why there is none
abbrev pub Refuses : BookRefused → Result OfficeState BookRefused → Type 0
Refuses Disk x = ⊤
Refuses NoMemory x = ⊤
Refuses e x = x ≡ Err e

abbrev pub Opens : {D : Type 0} → Result (DurableBook D) BookRefused
    → Result OfficeState BookRefused → Type 0
Opens (Ok b) x = x ≡ Ok (opened b)
Opens (Err e) x = Refuses e x

-- the same of a book with what was gathered of its entries
abbrev pub OpensWith : {D T : Type 0} → Result (DurableBook D × T) BookRefused
    → Result OfficeState BookRefused → Type 0
OpensWith (Ok b) x = x ≡ Ok (opened b.0)
OpensWith (Err e) x = Refuses e x

-- ---- a run

-- the bytes that the source had left, where it tells them
abbrev pub AreLeft : Option (List ℕ) → List ℕ → Type 0
AreLeft None bytes = ⊤
AreLeft (Some left) bytes = left ≡ bytes

-- the bytes of the journal beside the file, where the command reads one
abbrev pub IsBeside : Bool → Option (List ℕ) → List ℕ → Type 0
IsBeside true left journal = AreLeft left journal
IsBeside false left journal = ⊤

-- the bytes that a request reads: those of its file, and of the journal beside it
pub record Inputs (asked : Asked) (left beside : Option (List ℕ)) : Type 0 where
  pub bytes : List ℕ
  pub journal : List ℕ
  pub all : AreLeft left bytes
  pub whole : IsBeside (reads_journal asked.command) beside journal

abbrev pub answered : {asked : Asked} {left beside : Option (List ℕ)} → Inputs asked left beside
    → Said
answered {asked = asked} i = said_with asked i.bytes i.journal

-- the output got the whole answer
pub record Gave (asked : Asked) (left beside held held' : Option (List ℕ))
    (s : Status) : Type 0 where
  pub inputs : Inputs asked left beside
  pub is : (answered inputs).status ≡ s
  pub put : Appends held held' (answered inputs).out

-- the output got a front of it
pub record GaveFront (asked : Asked) (left beside held held' : Option (List ℕ)) : Type 0 where
  pub inputs : Inputs asked left beside
  pub rest : List ℕ
  pub put : Wrote held held' (answered inputs).out rest

-- the output got nothing where a file can't be read or there is no memory
abbrev pub Ends : Asked → Option (List ℕ) → Option (List ℕ) → Option (List ℕ) → Option (List ℕ)
    → Status → Type 0
Ends asked left beside held held' status.ReadFault = Appends held held' []
Ends asked left beside held held' status.NoMemory = Appends held held' []
Ends asked left beside held held' status.WriteFault = GaveFront asked left beside held held'
Ends asked left beside held held' s = Gave asked left beside held held' s
