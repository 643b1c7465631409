-- The exit code of the program, and what it says on standard error.
use Rattle.std.specs.Prelude.{ℕ, zero, suc, ◌+◌, List, [], ◌∷◌, ◌++◌, slice_index_or, codes, decimal, Option, Some, None}
use Rattle.cf_chart.specs.Common.{table_word, word_of}
use Rattle.cf_model.specs.Common.{ChartFault, TableName}
use Rattle.cf_chart.specs.declared.fault.ChartFault.TheVariants as fault
use Rattle.cf_base.specs.Common.{day_text}
use Rattle.cf_calls.specs.Common.{refusal_names}
use Rattle.cf_books_grants.specs.FaultIds.{id_text}
use Rattle.cf_books_grants.specs.Faults.{fault_text as grant_fault_text}
use Rattle.cf_books.specs.declared.status.RefusedEntry.{RefusedEntry}
use Rattle.cf_books.specs.declared.status.Status.{Status}
use Rattle.cf_books.specs.declared.status.Status.TheVariants.{Done, BadWords, ChartRefused, GrantsRefused, ReadFault, WriteFault, NotFounded, Damaged, NoMemory, Cut, NoSuchDay, NotInChart, EntriesRefused}
use Rattle.cf_books.specs.declared.unknown.NameKind.{NameKind}
use Rattle.cf_books.specs.declared.unknown.NameKind.TheVariants as kind
use Rattle.cf_books.specs.declared.unknown.Unknown.{Unknown}
use Rattle.cf_books.specs.declared.unknown.Unknown.TheVariants.{Early, Name}

-- ---- a chart's fault, in the words of `docs/CHART.md`

-- a table, the place of a row in it, counted from 0, and the row's id
abbrev pub row_text : TableName → ℕ → Option ℕ → List ℕ
row_text t at id = (table_word t ++ 32 ∷ decimal at) ++ id_text id

-- a fault in a row of this id
abbrev pub fault_text : ChartFault → Option ℕ → List ℕ
fault_text (fault.TooLong limit) id = codes "longer than " ++ (decimal limit ++ codes " bytes")
fault_text fault.NotToml id = codes "no TOML document"
fault_text (fault.TooMany t) id = codes "too many rows in " ++ table_word t
fault_text (fault.Missing t at k) id = row_text t at id ++ (codes " has no " ++ word_of k)
fault_text (fault.Bad t at k) id = row_text t at id ++ (codes " has a bad " ++ word_of k)
fault_text (fault.Twice t at) id = row_text t at id ++ codes " stands twice"
fault_text (fault.Window source days) id =
    codes "source " ++ (decimal source
    ++ (codes " has a window of " ++ (decimal days ++ codes " days")))
fault_text (fault.General n) id = decimal n ++ codes " general funds"

-- ---- a journal's damage

-- why the office doesn't take an entry: the number and name of the refusal, or 0 for a repeat and
-- for other numbers
abbrev pub refusal_text : ℕ → List ℕ
refusal_text zero = codes " is a repeat, or draws other numbers"
refusal_text (suc n) =
    codes " is refused: " ++ (decimal (n + 1) ++ 32 ∷ slice_index_or refusal_names n [])

-- which entry it is, by its place, and why it isn't taken
abbrev pub damage_text : Option RefusedEntry → List ℕ
damage_text None = codes "no record of a journal stands there"
damage_text (Some e) = codes "entry " ++ (decimal e.place ++ refusal_text e.number)

abbrev pub at_text : ℕ → List ℕ
at_text offset = codes "damaged at " ++ (decimal offset ++ codes ": ")

abbrev pub asked_text : ℕ → List ℕ
asked_text asked = codes "entries refused: " ++ (decimal asked ++ codes " asked, the journal has ")

-- ---- what the chart doesn't have

abbrev pub kind_word : NameKind → List ℕ
kind_word kind.Fund = codes "fund"
kind_word kind.Department = codes "department"
kind_word kind.Line = codes "line"
kind_word kind.Object = codes "object"
kind_word kind.Source = codes "source"

abbrev pub unknown_text : Unknown → List ℕ
unknown_text (Name k n) = codes "no such " ++ (kind_word k ++ (codes ": " ++ decimal n))
unknown_text (Early day) = codes "before the first fiscal year: " ++ day_text day

-- ---- what is said of each end

abbrev pub code_of : Status → ℕ
code_of Done = 0
code_of BadWords = 2
code_of (ChartRefused f id) = 3
code_of ReadFault = 4
code_of WriteFault = 5
code_of (NotFounded len) = 7
code_of (Damaged offset entry) = 9
code_of NoMemory = 12
code_of (Cut offset lost) = 13
code_of (GrantsRefused f id) = 19
code_of NoSuchDay = 20
code_of (NotInChart (Name k n)) = 21
code_of (NotInChart (Early day)) = 23
code_of (EntriesRefused asked entries) = 22

abbrev pub status_text : Status → List ℕ
status_text Done = []
status_text BadWords = codes "bad words"
status_text (ChartRefused f id) = codes "chart refused: " ++ fault_text f id
status_text (GrantsRefused f id) = codes "grants refused: " ++ grant_fault_text f id
status_text ReadFault = codes "read fault"
status_text WriteFault = codes "write fault"
status_text (NotFounded len) = codes "not founded: the file has " ++ (decimal len ++ codes " bytes")
status_text (Damaged offset entry) = at_text offset ++ damage_text entry
status_text NoMemory = codes "no memory"
status_text (Cut offset lost) =
    at_text offset ++ (codes "what stands before is given, and "
    ++ (decimal lost ++ codes " bytes are lost"))
status_text NoSuchDay = codes "no such day"
status_text (NotInChart what) = unknown_text what
status_text (EntriesRefused asked entries) = asked_text asked ++ decimal entries

abbrev pub line_of : List ℕ → List ℕ
line_of text = codes "books: " ++ (text ++ 10 ∷ [])

-- nothing is said where all went well
abbrev pub notice_of : Status → List ℕ
notice_of Done = []
notice_of status = line_of (status_text status)
