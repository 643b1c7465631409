-- What is said of the front of a journal that has no more entries.
use Rattle.std.proofs.Common.{◌≡◌, ◌∙◌, ℕ, ◌≤◌, Bool, true, false, if◌then◌else◌, nat_le, List, length, Option, Some, None, Result, Ok, Err, refl, sym, ap, arith, ◌&&◌, IfOk}
use Rattle.cf_base.proofs.Common.{nat_tests}
use Rattle.cf_base.specs.Common.{last_year}
use Rattle.cf_model.specs.Common.{Day, Entry, OfficeState}
use Rattle.cf_books_days.specs.declared.statement.DatedKind.{DatedKind}
use Rattle.cf_journal_book.specs.Recovery.{of_frames, recovered}
use Rattle.cf_journal_book.specs.declared.refused.BookRefused.{BookRefused}
use Rattle.cf_journal_book.specs.declared.refused.BookRefused.TheVariants as book_refused
use Rattle.cf_books_front.specs.Front.{GivesFront, HasAll, front, front_by, front_in}
use Rattle.cf_books_front.specs.Whole.{Parts, before, or_before, parts_or, whole_of}
use Rattle.cf_books_front.specs.declared.front.FrontRefused.{FrontRefused}
use Rattle.cf_books_front.specs.declared.front.FrontRefused.TheVariants.{Fewer}
use Rattle.cf_books_words.specs.declared.words.Command.{Command}
use Rattle.cf_books_words.specs.declared.words.Command.TheVariants as asked
use Rattle.cf_journal.specs.Frames.{frames}
use Rattle.cf_journal.specs.declared.refused.OpenRefused.{OpenRefused}
use Rattle.cf_journal.specs.declared.refused.OpenRefused.TheVariants.{Damaged, Disk, NoMemory, NotFounded}
use Rattle.cf_books.specs.Answers.{Answers, IsToday, Said, dated_kind, dated_said, dated_told, is_of_entries, lines_said, nothing, office_said, over_office, refused_in, refused_said, said, view, whole_said, is_asked_month, month_told}
use Rattle.cf_books.specs.declared.answers.Answer.{Answer}
use Rattle.cf_books.specs.declared.status.Status.TheVariants.{BadWords}

abbrev parts_with : List ℕ × List Entry → Option ℕ → Parts
parts_with x damage = record { chart = x.0; entries = x.1; damage = damage }

abbrev framed : Parts → List ℕ × List Entry
framed p = (p.chart, p.entries)

damaged_part : (at : ℕ) (r : Result (List ℕ × List Entry) OpenRefused) (p : Parts) → parts_or (Some at) (Damaged at) r ≡ Ok p → p.damage ≡ None → ⊥
damaged_part at (Ok x) p is none =
    let same : parts_with x (Some at) ≡ p = cc is in
    let some : Some at ≡ None = ap (λ (q : Parts). q.damage) same ∙ none in
    absurd (cc some)
damaged_part at (Err e) p is none = absurd (cc is)

-- where nothing is damaged, what is whole is what the frames are
undamaged : (bytes : List ℕ) (r : Result (List ℕ × List Entry) OpenRefused) (p : Parts) → or_before bytes r ≡ Ok p → p.damage ≡ None → r ≡ Ok (framed p)
undamaged bytes (Ok x) p is none =
    let same : parts_with x None ≡ p = cc is in
    let whole : List ℕ × List Entry → Result (List ℕ × List Entry) OpenRefused = λ y. Ok y in
    ap whole (ap framed same)
undamaged bytes (Err (Damaged at)) p is none = absurd (damaged_part at (frames (before at bytes)) p is none)
undamaged bytes (Err (NotFounded len byte)) p is none = absurd (cc is)
undamaged bytes (Err Disk) p is none = absurd (cc is)
undamaged bytes (Err NoMemory) p is none = absurd (cc is)

-- ---- bytes with the same frames, all of them whole

module _ (a b : List ℕ) (x : List ℕ × List Entry) (first : frames a ≡ Ok x) (second : frames b ≡ Ok x) where
  same_frames : frames a ≡ frames b
  same_frames = first ∙ sym second

  abbrev all : Parts
  all = parts_with x None

  whole_a : whole_of a ≡ Ok all
  whole_a = ap (or_before a) first

  whole_b : whole_of b ≡ Ok all
  whole_b = ap (or_before b) second

  same_whole : (command : Command) → whole_said command (length a) (whole_of a) ≡ whole_said command (length b) (whole_of b)
  same_whole command = ap (whole_said command (length a)) whole_a ∙ sym (ap (whole_said command (length b)) whole_b)

  same_lines : lines_said a (whole_of a) ≡ lines_said b (whole_of b)
  same_lines = ap (lines_said a) whole_a ∙ sym (ap (lines_said b) whole_b)

  same_refusal : (e : BookRefused) → refused_said a e ≡ refused_said b e
  same_refusal (book_refused.Damaged at (Some number)) = ap (refused_in at number) same_frames
  same_refusal (book_refused.Damaged at None) = refl
  same_refusal (book_refused.NotFounded len byte) = refl
  same_refusal book_refused.Disk = refl
  same_refusal book_refused.NoMemory = refl

  same_office : (told other : OfficeState → Said) → ((s : OfficeState) → told s ≡ other s) → (r : Result OfficeState BookRefused) → over_office told a r ≡ over_office other b r
  same_office told other same (Ok s) = same s
  same_office told other same (Err e) = same_refusal e

  same_book : (told other : OfficeState → Said) → ((s : OfficeState) → told s ≡ other s) → over_office told a (recovered a) ≡ over_office other b (recovered b)
  same_book told other same = ap (λ r. over_office told a (of_frames r)) same_frames ∙ same_office told other same (recovered b)

  same_statement : (here : Bool) (one other none : Said) → one ≡ other → (if here then one else none) ≡ (if here then other else none)
  same_statement true one other none same = same
  same_statement false one other none same = refl

  same_dated : (year : ℕ) (k : Option DatedKind) (day : Day) (csv : Bool) → dated_said year k day csv a ≡ dated_said year k day csv b
  same_dated year None day csv = refl
  same_dated year (Some k) day csv =
      same_statement (nat_le 1971 year && nat_le year last_year) (over_office (dated_told csv day year k) a (recovered a)) (over_office (dated_told csv day year k) b (recovered b)) (nothing BadWords) (same_book _ _ (λ s. refl))

  -- what is said of the entries is the same
  same_said : (key : Option (List ℕ)) (command : Command) → is_of_entries command ≡ true → said key command a ≡ said key command b
  same_said key asked.CheckChart is = absurd (cc is)
  same_said key asked.CheckGrants is = absurd (cc is)
  same_said key asked.Check is = absurd (cc is)
  same_said key (asked.Claims grant csv) is = absurd (cc is)
  same_said key (asked.List csv) is = same_whole (asked.List csv)
  same_said key asked.Calls is = same_whole asked.Calls
  same_said key asked.Chart is = same_whole asked.Chart
  same_said key asked.Lines is = same_lines
  same_said key (asked.Posts filter None csv) is = same_book _ _ (λ s. refl)
  same_said key (asked.Posts filter (Some day) csv) is = same_book _ _ (λ s. refl)
  same_said key (asked.Balances year None false csv) is = same_book _ _ (λ s. refl)
  same_said key (asked.Balances year None true csv) is = same_book _ _ (λ s. refl)
  same_said key (asked.Balances year (Some day) false csv) is = same_book _ _ (λ s. refl)
  same_said key (asked.Balances year (Some day) true csv) is = refl
  same_said key (asked.Open csv) is = same_book _ _ (λ s. refl)
  same_said key (asked.Statement year kind None csv) is =
      same_statement (nat_le 1971 year && nat_le year last_year) (office_said (asked.Statement year kind None csv) a (recovered a)) (office_said (asked.Statement year kind None csv) b (recovered b)) (nothing BadWords) (same_book _ _ (λ s. refl))
  same_said key (asked.Statement year kind (Some day) csv) is = same_dated year (dated_kind kind) day csv
  same_said key (asked.Ledger filter csv) is = same_book _ _ (λ s. refl)
  same_said key (asked.Documents filter csv) is = same_book _ _ (λ s. refl)
  same_said key (asked.Month month csv) is =
      same_statement (is_asked_month month) (over_office (month_told csv month) a (recovered a)) (over_office (month_told csv month) b (recovered b)) (nothing BadWords) (same_book _ _ (λ s. refl))
  same_said key (asked.Paid year csv) is = same_book _ _ (λ s. refl)

-- ---- the front of all entries

-- the front that was made says what the journal says
pub front_today : (n : ℕ) (key : Option (List ℕ)) (command : Command) (bytes made : List ℕ) → HasAll n bytes made → IsToday n key command bytes (said key command made)
front_today n key command bytes made has p whole none count is =
    let second = undamaged bytes (frames bytes) p whole none in
    same_said made bytes (framed p) (has p whole none count ∙ second) second key command is

-- a journal that is whole has a front with all of its entries
pub has_front : (n : ℕ) (bytes : List ℕ) (why : FrontRefused) → front_in n bytes ≡ Err why → (p : Parts) → whole_of bytes ≡ Ok p → length p.entries ≡ n → ⊥
has_front n bytes why refused p whole count =
    let all : nat_le n (length p.entries) ≡ true = let le : n ≤ length p.entries = omega (arith, count) in grind (arith, nat_tests) in
    let made = ap (λ (b : Bool). if b then Ok (front n p bytes) else Err (Fewer (length p.entries))) all in
    absurd (cc (sym made ∙ sym (ap (front_by n bytes) whole) ∙ refused))

-- ---- what is answered

pub today_answer : {E : Type 0} (r : Result Answer E) (n : ℕ) (key : Option (List ℕ)) (command : Command) (bytes made : List ℕ) → Answers r (said key command made) → HasAll n bytes made
    → IfOk r (λ a. IsToday n key command bytes (view a))
today_answer (Ok a) n key command bytes made is has = λ p whole none count entries. sym is ∙ front_today n key command bytes made has p whole none count entries
today_answer (Err e) n key command bytes made is has = tt

pub none_answer : {E : Type 0} (r : Result Answer E) (n : ℕ) (key : Option (List ℕ)) (command : Command) (bytes : List ℕ) (why : FrontRefused)
    → IfOk r (λ a. (x : Result (List ℕ) FrontRefused) → GivesFront (Err why) x → x ≡ Err why) → GivesFront (Err why) (front_in n bytes) → IfOk r (λ a. IsToday n key command bytes (view a))
none_answer (Ok a) n key command bytes why known gives = λ p whole none count entries. absurd (has_front n bytes why (known (front_in n bytes) gives) p whole count)
none_answer (Err e) n key command bytes why known gives = tt
