-- The documents of a history as records, a row for each.
use Rattle.std.specs.Prelude.{ℕ, ◌+◌, Bool, if◌then◌else◌, List, [], ◌∷◌, ◌++◌, Option, Some, None, codes, decimal, flat_map}
use Rattle.cf_base.specs.Common.{money_of, day_text}
use Rattle.cf_model.specs.Common.{Entry, Registers, registers_of}
use Rattle.cf_chart.specs.Plan as plan
use Rattle.cf_chart.specs.Common.{Plan}
use Rattle.cf_books_documents.specs.Documents.{documents_by}
use Rattle.cf_books_documents.specs.Facts.{kind_word, state_word}
use Rattle.cf_books_documents.specs.Indexed.{Known}
use Rattle.cf_books_lists.specs.Records.{drawn_text, head_text, number_text, record_text}
use Rattle.cf_books_documents.specs.Texts.{events_text, paid_text, run_text}
use Rattle.cf_books_documents.specs.Told.{document_events, told_of}
use Rattle.cf_books_documents.specs.Wanted.{is_wanted, payment_of}
use Rattle.cf_books_documents.specs.declared.event.Event.{Event}
use Rattle.cf_books_documents.specs.declared.facts.Account.{Account}
use Rattle.cf_books_documents.specs.declared.facts.Facts.{Facts}
use Rattle.cf_books_words.specs.declared.words.DocumentFilter.{DocumentFilter}
use Rattle.cf_books_words.specs.declared.words.DocumentKind.{DocumentKind}
use Rattle.cf_books_words.specs.declared.words.DocumentKind.TheVariants as kind

-- the names of the columns
abbrev pub head : List (List ℕ)
head =
    codes "kind" ∷ codes "number" ∷ codes "item" ∷ codes "day" ∷ codes "desk" ∷ codes "key"
    ∷ codes "party" ∷ codes "fund" ∷ codes "dept"
    ∷ codes "object" ∷ codes "line" ∷ codes "source" ∷ codes "year" ∷ codes "amount" ∷ codes "left"
    ∷ codes "state" ∷ codes "paid"
    ∷ codes "run" ∷ codes "entries" ∷ []

-- the control line of a fund, a department and an object in a year, where there is each
abbrev pub line_if : Plan → Option ℕ → Option ℕ → Option ℕ → Option ℕ → Option ℕ
line_if chart (Some fund) (Some dept) (Some object) (Some year) =
    plan.line_of chart fund dept object year
line_if chart _ _ _ _ = None

abbrev pub line_by : Plan → Account → Option ℕ → Option ℕ
line_by chart a year = line_if chart a.fund a.dept a.object year

abbrev pub row : Plan → Entry → Option Entry → Facts → List Event → List (List ℕ)
row chart e payment f events =
    kind_word f.kind ∷ drawn_text f.number ∷ drawn_text f.item ∷ day_text e.change.on
    ∷ decimal e.change.desk ∷ e.change.key
    ∷ drawn_text f.party ∷ number_text f.account.fund ∷ number_text f.account.dept
    ∷ number_text f.account.object
    ∷ number_text (line_by chart f.account f.year) ∷ number_text f.source ∷ number_text f.year
    ∷ money_of f.amount ∷ money_of f.left
    ∷ state_word f.state ∷ paid_text payment ∷ run_text payment ∷ events_text 0 events ∷ []

-- a document to which entries did this, where it is wanted
abbrev pub wanted_text : Bool → DocumentFilter → Option (List ℕ) → Plan → List Entry → Entry → Facts
    → List Event → List ℕ
wanted_text csv filter key chart history e f events =
    if is_wanted filter key f e (payment_of history events)
    then record_text csv (row chart e (payment_of history events) f events) else []

abbrev pub document_text : Bool → DocumentFilter → Option (List ℕ) → Plan → Known → List Entry
    → Entry → Facts → List ℕ
document_text csv filter key chart told history e f =
    wanted_text csv filter key chart history e f (document_events told f)

abbrev pub documents_text : Bool → DocumentFilter → Option (List ℕ) → Plan → Known → List Entry
    → Entry → List Facts → List ℕ
documents_text csv filter key chart told history e documents =
    flat_map (document_text csv filter key chart told history e) documents

-- what the entry at a place entered of a kind, as it stands in these registers
abbrev pub entry_text : Bool → DocumentFilter → Option (List ℕ) → Plan → Registers → Known
    → List Entry → DocumentKind → ℕ → Entry → List ℕ
entry_text csv filter key chart s told history kind place e =
    documents_text csv filter key chart told history e
    (documents_by chart s kind place e e.change.act)

abbrev pub kind_text : Bool → DocumentFilter → Option (List ℕ) → Plan → Registers → Known
    → List Entry → DocumentKind → ℕ → List Entry → List ℕ
kind_text csv filter key chart s told history kind place [] = []
kind_text csv filter key chart s told history kind place (e ∷ later) =
    entry_text csv filter key chart s told history kind place e
    ++ kind_text csv filter key chart s told history kind (place + 1) later

abbrev pub kinds : List DocumentKind
kinds = kind.Requisition ∷ kind.Order ∷ kind.Voucher ∷ kind.Bill ∷ kind.Asset ∷ kind.Bond
    ∷ kind.Lease ∷ kind.Loan ∷ []

abbrev pub kinds_text : Bool → DocumentFilter → Option (List ℕ) → Plan → Registers → Known
    → List Entry → List Entry → List DocumentKind → List ℕ
kinds_text csv filter key chart s told history entries kinds =
    flat_map (λ k. kind_text csv filter key chart s told history k 1 entries) kinds

-- all: kind by kind, in the order of the entries
abbrev pub text : Bool → DocumentFilter → Option (List ℕ) → Plan → List Entry → List ℕ
text csv filter key chart history =
    head_text csv head ++ kinds_text csv filter key chart (registers_of chart history)
    (told_of chart history) history history kinds
