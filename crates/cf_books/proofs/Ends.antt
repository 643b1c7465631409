-- How a run ends.
use Rattle.std.proofs.Common.{◌≡◌, ◌<◌, ◌-◌, ◌^◌, ◌&&◌, nat_le, Bool, true, false, if◌then◌else◌, ℕ, List, [], ◌++◌, length, Option, Some, None, Result, Ok, Err, inl, inr, refl, sym, subst, ◌∙◌, append-nil, arith, Vec, Global}
use Rattle.cf_base.proofs.Common.{Appends, IsAtEnd}
use Rattle.cf_base.specs.Common.{last_year}
use Rattle.cf_model.specs.Common.{Day, Month, Entry, ChartFault, OfficeState}
use Rattle.cf_journal_book.specs.Recovery.{recovered}
use Rattle.cf_books_days.specs.declared.statement.DatedKind.{DatedKind}
use Rattle.cf_journal_book.specs.declared.refused.BookRefused.{BookRefused}
use Rattle.cf_journal_book.specs.declared.refused.BookRefused.TheVariants as book_refused
use Rattle.cf_books_front.specs.Front.{front_in}
use Rattle.cf_books_front.specs.Whole.{Parts, whole_of}
use Rattle.cf_books_front.specs.declared.front.FrontRefused.{FrontRefused}
use Rattle.cf_books_front.specs.declared.front.FrontRefused.TheVariants.{Fewer, Nothing}
use Rattle.cf_books_words.specs.Words.{Asked}
use Rattle.cf_books_words.specs.declared.words.Command.{Command}
use Rattle.cf_books_words.specs.declared.words.DocumentFilter.{DocumentFilter}
use Rattle.cf_books_words.specs.declared.words.Command.TheVariants as asked
use Rattle.cf_chart.specs.Common.{Plan, chart_of}
use Rattle.cf_chart.specs.declared.fault.ChartFault.TheVariants as chart_fault
use Rattle.cf_claims.specs.Standing.{vouchers_of_grant}
use Rattle.cf_claims.specs.declared.standing.GrantVoucher.{GrantVoucher}
use Rattle.cf_base_lines.specs.Reads.{IsRead}
use Rattle.cf_grants.specs.Faults.{Checked}
use Rattle.cf_grants.specs.Reading.{grants_of}
use Rattle.cf_grants.specs.declared.grant.Grant.{Grant}
use Rattle.cf_journal.specs.Frames.{frames}
use Rattle.cf_journal.specs.declared.refused.OpenRefused.{OpenRefused}
use Rattle.cf_journal.specs.declared.refused.OpenRefused.TheVariants as open_refused
use Rattle.cf_run_words.specs.declared.words.ReportKind.{ReportKind}
use Rattle.cf_books.specs.declared.status.Status.{Status}
use Rattle.cf_books.specs.declared.status.Status.TheVariants.{Done, BadWords, ChartRefused, GrantsRefused, ReadFault, WriteFault, NotFounded, Damaged, NoMemory, Cut, NoSuchDay, NotInChart, EntriesRefused}
use Rattle.cf_books.specs.Unknown.{early, unknown_in}
use Rattle.cf_books.specs.declared.unknown.Unknown.{Unknown}
use Rattle.cf_books.specs.Answers.{AreLeft, Ends, Gave, IsBeside, Said, answered, chart_lines_said, chart_said, dated_kind, dated_text, dated_said, dated_told, document_said, documents_said, end_of, entry_at, grants_said, lines_in, lines_said, nothing, office_said, office_text, over_office, refusal_of, refused_entry, refused_in, refused_said, rows_said, said, said_at, said_by, said_first, said_with, statement_said, text_of, told_of, under_chart, vouchers_said, whole_said, is_asked_month, month_said, month_told}

-- bytes that are fewer than could have been taken were read to the end
whole : (most : ℕ) (left left' : Option (List ℕ)) (bytes : List ℕ) → IsRead most left left' bytes → length bytes < most → IsAtEnd left'
whole most left left' bytes r few = elim r.whole [
  | inl end ↦ end
  | inr as_many ↦ absurd (omega (arith, as_many, few))
]

-- so they are all that was left
pub are_left : (most : ℕ) (left left' : Option (List ℕ)) (bytes : List ℕ) → IsRead most left left' bytes → length bytes < most → AreLeft left bytes
are_left most None left' bytes r few = tt
are_left most (Some xs) None bytes r few = absurd r.took
are_left most (Some xs) (Some ys) bytes r few =
    let P : List ℕ → Type 0 = λ rest. xs ≡ bytes ++ rest in subst P (whole most (Some xs) (Some ys) bytes r few) r.took ∙ append-nil bytes

-- what was read of the journal beside a file is all of it, where the command reads one
pub beside_read : (most : ℕ) (reads : Bool) (left left' : Option (List ℕ)) (bytes : List ℕ) → IsRead most left left' bytes → length bytes < most → IsBeside reads left bytes
beside_read most true left left' bytes r small = are_left most left left' bytes r small
beside_read most false left left' bytes r small = tt

-- a vector is shorter than the largest number of its length's type
pub few : (v : Vec ℕ Global) → length v.items < 2 ^ 64 - 1
few v = omega (arith, v.ok.0, v.ok.1, v.small)

-- ---- which statuses an answer has

-- neither the file nor the output failed, and where memory was wanting nothing is printed
abbrev pub Fits : List ℕ → Status → Type 0
Fits out ReadFault = ⊥
Fits out WriteFault = ⊥
Fits out NoMemory = out ≡ []
Fits out s = Unit {0}

abbrev pub IsFit : Said → Type 0
IsFit s = Fits s.out s.status

chart_fit : (bytes : List ℕ) (r : Result Plan ChartFault) → IsFit (chart_said bytes r)
chart_fit bytes (Ok plan) = tt
chart_fit bytes (Err f) = tt

end_fit : (out : List ℕ) (damage : Option ℕ) (len : ℕ) → Fits out (end_of damage len)
end_fit out None len = tt
end_fit out (Some at) len = tt

open_fit : (e : OpenRefused) → IsFit (nothing (refusal_of e))
open_fit (open_refused.NotFounded len byte) = tt
open_fit (open_refused.Damaged at) = tt
open_fit open_refused.Disk = refl
open_fit open_refused.NoMemory = refl

whole_fit : (command : Command) (len : ℕ) (r : Result Parts OpenRefused) → IsFit (whole_said command len r)
whole_fit command len (Ok p) = end_fit (text_of command p) p.damage len
whole_fit command len (Err e) = open_fit e

chart_lines_fit : (bytes : List ℕ) (r : Result Plan ChartFault) → IsFit (chart_lines_said bytes r)
chart_lines_fit bytes (Ok plan) = tt
chart_lines_fit bytes (Err (chart_fault.TooLong limit)) = tt
chart_lines_fit bytes (Err chart_fault.NotToml) = tt
chart_lines_fit bytes (Err f) = tt

lines_fit : (bytes : List ℕ) (r : Result Parts OpenRefused) → IsFit (lines_said bytes r)
lines_fit bytes (Ok p) = end_fit (lines_in (chart_of p.chart)) p.damage (length bytes)
lines_fit bytes (Err (open_refused.NotFounded len byte)) = chart_lines_fit bytes (chart_of bytes)
lines_fit bytes (Err (open_refused.Damaged at)) = tt
lines_fit bytes (Err open_refused.Disk) = refl
lines_fit bytes (Err open_refused.NoMemory) = refl

entry_fit : (offset number : ℕ) (found : Option (ℕ × Entry)) → IsFit (refused_entry offset number found)
entry_fit offset number None = tt
entry_fit offset number (Some x) = tt

refused_in_fit : (offset number : ℕ) (r : Result (List ℕ × List Entry) OpenRefused) → IsFit (refused_in offset number r)
refused_in_fit offset number (Ok x) = entry_fit offset number (entry_at offset (length x.0) x.1)
refused_in_fit offset number (Err e) = open_fit e

refused_fit : (bytes : List ℕ) (e : BookRefused) → IsFit (refused_said bytes e)
refused_fit bytes (book_refused.NotFounded len byte) = tt
refused_fit bytes (book_refused.Damaged at None) = tt
refused_fit bytes (book_refused.Damaged at (Some number)) = refused_in_fit at number (frames bytes)
refused_fit bytes book_refused.Disk = refl
refused_fit bytes book_refused.NoMemory = refl

told_fit : (unknown : Option Unknown) (text : List ℕ) → IsFit (told_of unknown text)
told_fit None text = tt
told_fit (Some what) text = tt

office_fit : (command : Command) (bytes : List ℕ) (r : Result OfficeState BookRefused) → IsFit (office_said command bytes r)
office_fit command bytes (Ok s) = told_fit (unknown_in s.plan command) (office_text command bytes s)
office_fit command bytes (Err e) = refused_fit bytes e

either_fit : (here : Bool) (one other : Said) → IsFit one → IsFit other → IsFit (if here then one else other)
either_fit true one other first second = first
either_fit false one other first second = second

statement_fit : (year : ℕ) (kind : ReportKind) (csv : Bool) (bytes : List ℕ) → IsFit (statement_said year kind csv bytes)
statement_fit year kind csv bytes =
    either_fit (nat_le 1971 year && nat_le year last_year) (office_said (asked.Statement year kind None csv) bytes (recovered bytes)) (nothing BadWords)
    (office_fit (asked.Statement year kind None csv) bytes (recovered bytes)) tt

month_office_fit : (csv : Bool) (month : Month) (bytes : List ℕ) (r : Result OfficeState BookRefused) → IsFit (over_office (month_told csv month) bytes r)
month_office_fit csv month bytes (Ok s) = tt
month_office_fit csv month bytes (Err e) = refused_fit bytes e

month_fit : (month : Month) (csv : Bool) (bytes : List ℕ) → IsFit (month_said month csv bytes)
month_fit month csv bytes =
    either_fit (is_asked_month month) (over_office (month_told csv month) bytes (recovered bytes)) (nothing BadWords)
    (month_office_fit csv month bytes (recovered bytes)) tt

document_fit : (bytes : List ℕ) (r : Checked (List Grant)) → IsFit (document_said bytes r)
document_fit bytes (Ok grants) = tt
document_fit bytes (Err f) = tt

under_fit : (bytes chart : List ℕ) (r : Result Plan ChartFault) → IsFit (under_chart bytes chart r)
under_fit bytes chart (Ok plan) = document_fit bytes (grants_of plan bytes)
under_fit bytes chart (Err f) = tt

grants_fit : (bytes : List ℕ) (r : Result Parts OpenRefused) → IsFit (grants_said bytes r)
grants_fit bytes (Ok p) = under_fit bytes p.chart (chart_of p.chart)
grants_fit bytes (Err e) = open_fit e

rows_fit : (csv : Bool) (bytes : List ℕ) (r : Checked (List GrantVoucher)) → IsFit (rows_said csv bytes r)
rows_fit csv bytes (Ok rows) = tt
rows_fit csv bytes (Err f) = tt

claims_fit : (id : ℕ) (csv : Bool) (bytes journal : List ℕ) (r : Result OfficeState BookRefused) → IsFit (over_office (vouchers_said id csv bytes) journal r)
claims_fit id csv bytes journal (Ok s) = rows_fit csv bytes (vouchers_of_grant s.plan s.entries bytes id)
claims_fit id csv bytes journal (Err e) = refused_fit journal e

dated_office_fit : (csv : Bool) (day : Day) (year : ℕ) (k : DatedKind) (bytes : List ℕ) (r : Result OfficeState BookRefused) → IsFit (over_office (dated_told csv day year k) bytes r)
dated_office_fit csv day year k bytes (Ok s) = told_fit (early s.plan (Some day)) (dated_text csv day year k s.plan s.entries)
dated_office_fit csv day year k bytes (Err e) = refused_fit bytes e

dated_fit : (year : ℕ) (k : Option DatedKind) (day : Day) (csv : Bool) (bytes : List ℕ) → IsFit (dated_said year k day csv bytes)
dated_fit year None day csv bytes = tt
dated_fit year (Some k) day csv bytes =
    either_fit (nat_le 1971 year && nat_le year last_year) (over_office (dated_told csv day year k) bytes (recovered bytes)) (nothing BadWords)
    (dated_office_fit csv day year k bytes (recovered bytes)) tt

documents_fit : (filter : DocumentFilter) (key : Option (List ℕ)) (csv : Bool) (bytes : List ℕ) (r : Result OfficeState BookRefused) → IsFit (documents_said filter key csv bytes r)
documents_fit filter key csv bytes (Ok s) = tt
documents_fit filter key csv bytes (Err e) = refused_fit bytes e

fit : (key : Option (List ℕ)) (command : Command) (bytes : List ℕ) → IsFit (said key command bytes)
fit key asked.CheckChart bytes = chart_fit bytes (chart_of bytes)
fit key asked.CheckGrants bytes = whole_fit asked.CheckGrants (length bytes) (whole_of bytes)
fit key asked.Check bytes = office_fit asked.Check bytes (recovered bytes)
fit key (asked.List csv) bytes = whole_fit (asked.List csv) (length bytes) (whole_of bytes)
fit key asked.Calls bytes = whole_fit asked.Calls (length bytes) (whole_of bytes)
fit key asked.Chart bytes = whole_fit asked.Chart (length bytes) (whole_of bytes)
fit key asked.Lines bytes = lines_fit bytes (whole_of bytes)
fit key (asked.Claims grant csv) bytes = whole_fit (asked.Claims grant csv) (length bytes) (whole_of bytes)
fit key (asked.Posts filter None csv) bytes = office_fit (asked.Posts filter None csv) bytes (recovered bytes)
fit key (asked.Posts filter (Some day) csv) bytes = office_fit (asked.Posts filter (Some day) csv) bytes (recovered bytes)
fit key (asked.Balances year None false csv) bytes = office_fit (asked.Balances year None false csv) bytes (recovered bytes)
fit key (asked.Balances year None true csv) bytes = office_fit (asked.Balances year None true csv) bytes (recovered bytes)
fit key (asked.Balances year (Some day) false csv) bytes = office_fit (asked.Balances year (Some day) false csv) bytes (recovered bytes)
fit key (asked.Balances year (Some day) true csv) bytes = tt
fit key (asked.Open csv) bytes = office_fit (asked.Open csv) bytes (recovered bytes)
fit key (asked.Statement year kind None csv) bytes = statement_fit year kind csv bytes
fit key (asked.Statement year kind (Some day) csv) bytes = dated_fit year (dated_kind kind) day csv bytes
fit key (asked.Ledger filter csv) bytes = office_fit (asked.Ledger filter csv) bytes (recovered bytes)
fit key (asked.Documents filter csv) bytes = documents_fit filter key csv bytes (recovered bytes)
fit key (asked.Month month csv) bytes = month_fit month csv bytes
fit key (asked.Paid year csv) bytes = office_fit (asked.Paid year csv) bytes (recovered bytes)

first_fit : (n : ℕ) (key : Option (List ℕ)) (command : Command) (r : Result (List ℕ) FrontRefused) → IsFit (said_first n key command r)
first_fit n key command (Ok bytes) = fit key command bytes
first_fit n key command (Err (Fewer entries)) = tt
first_fit n key command (Err (Nothing e)) = open_fit e

at_fit : (entries : Option ℕ) (key : Option (List ℕ)) (command : Command) (bytes : List ℕ) → IsFit (said_at entries key command bytes)
at_fit None key command bytes = fit key command bytes
at_fit (Some n) key command bytes = first_fit n key command (front_in n bytes)

by_fit : (command : Command) (entries : Option ℕ) (key : Option (List ℕ)) (bytes journal : List ℕ) → IsFit (said_by command entries key bytes journal)
by_fit asked.CheckChart entries key bytes journal = chart_fit bytes (chart_of bytes)
by_fit asked.CheckGrants entries key bytes journal = grants_fit bytes (whole_of journal)
by_fit (asked.Claims grant csv) entries key bytes journal = claims_fit grant csv bytes journal (recovered journal)
by_fit asked.Check entries key bytes journal = at_fit entries key asked.Check bytes
by_fit (asked.List csv) entries key bytes journal = at_fit entries key (asked.List csv) bytes
by_fit asked.Calls entries key bytes journal = at_fit entries key asked.Calls bytes
by_fit asked.Chart entries key bytes journal = at_fit entries key asked.Chart bytes
by_fit asked.Lines entries key bytes journal = at_fit entries key asked.Lines bytes
by_fit (asked.Posts filter through csv) entries key bytes journal = at_fit entries key (asked.Posts filter through csv) bytes
by_fit (asked.Balances year through alone csv) entries key bytes journal = at_fit entries key (asked.Balances year through alone csv) bytes
by_fit (asked.Open csv) entries key bytes journal = at_fit entries key (asked.Open csv) bytes
by_fit (asked.Statement year kind through csv) entries key bytes journal = at_fit entries key (asked.Statement year kind through csv) bytes
by_fit (asked.Ledger filter csv) entries key bytes journal = at_fit entries key (asked.Ledger filter csv) bytes
by_fit (asked.Documents filter csv) entries key bytes journal = at_fit entries key (asked.Documents filter csv) bytes
by_fit (asked.Month month csv) entries key bytes journal = at_fit entries key (asked.Month month csv) bytes
by_fit (asked.Paid year csv) entries key bytes journal = at_fit entries key (asked.Paid year csv) bytes

pub fit_with : (a : Asked) (bytes journal : List ℕ) → IsFit (said_with a bytes journal)
fit_with a bytes journal = by_fit a.command a.entries a.key bytes journal

-- ---- how an answer ends a run

-- the whole answer ends a run as the answer says
pub gave_ends : (a : Asked) (left beside held held' : Option (List ℕ)) (s : Status) → Gave a left beside held held' s → Ends a left beside held held' s
gave_ends a left beside held held' Done g = g
gave_ends a left beside held held' BadWords g = g
gave_ends a left beside held held' (ChartRefused f id) g = g
gave_ends a left beside held held' (GrantsRefused f id) g = g
gave_ends a left beside held held' ReadFault g = absurd (subst (Fits (answered g.inputs).out) g.is (fit_with a g.inputs.bytes g.inputs.journal))
gave_ends a left beside held held' WriteFault g = record {
  inputs = g.inputs;
  rest = [];
  put = record { done = (answered g.inputs).out; joins = sym (append-nil (answered g.inputs).out); put = g.put };
}
gave_ends a left beside held held' (NotFounded len) g = g
gave_ends a left beside held held' (Damaged at entry) g = g
gave_ends a left beside held held' NoMemory g = subst (Appends held held') (subst (Fits (answered g.inputs).out) g.is (fit_with a g.inputs.bytes g.inputs.journal)) g.put
gave_ends a left beside held held' (Cut at lost) g = g
gave_ends a left beside held held' NoSuchDay g = g
gave_ends a left beside held held' (NotInChart what) g = g
gave_ends a left beside held held' (EntriesRefused n entries) g = g
