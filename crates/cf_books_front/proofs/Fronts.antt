-- What the front of a journal reads as.
use Rattle.std.proofs.Common.{◌≡◌, ◌∙◌, ℕ, ◌+◌, ◌≤◌, List, [], ◌∷◌, ◌++◌, length, take, drop, Option, Some, None, Ok, refl, sym, subst, ap, arith, append_assoc, length-append, take-append-drop, All, w32}
use Rattle.cf_base.proofs.Common.{to_be_bytes, take_at, take_all, take-take, take-append-le, length-take, All-take}
use Rattle.cf_calls.specs.declared.entry.Entry.{Entry}
use Rattle.cf_codec.specs.Entries.{IsOf}
use Rattle.cf_journal.specs.Frames.{frames}
use Rattle.cf_journal.specs.Layout.{IsValid, front_of, head_of}
use Rattle.cf_journal.specs.Records.{HasRecord, gate_after, record_of, records_of}
use Rattle.cf_journal.proofs.Layouts.{at_rest}
use Rattle.cf_journal.proofs.RecordLaws.{gate_after-length}
use Rattle.cf_books_front.specs.Front.{HasAll, HasFirst, front}
use Rattle.cf_books_front.specs.Whole.{Lies, LiesWhole, Parts, before, parts, whole_bytes, whole_of}
use Rattle.cf_books_front.specs.declared.whole.Whole.{Whole}

-- the records of a history's first entries stand in front of the others
records_split : (es later : List Entry) → records_of (es ++ later) ≡ records_of es ++ records_of later
unfolding records_of
records_split [] later = refl
records_split (e ∷ es) later =
    ap (λ (l : List ℕ). 1 ∷ (record_of e ++ l)) (records_split es later) ∙ ap (λ (l : List ℕ). 1 ∷ l) (sym (append_assoc (record_of e) (records_of es) (records_of later)))

split_front : (byte : ℕ) (chart : List ℕ) (es later : List Entry) → front_of byte chart (es ++ later) ≡ front_of byte chart es ++ records_of later
split_front byte chart es later =
    ap (λ (l : List ℕ). 1 ∷ (head_of byte chart ++ l)) (records_split es later)
    ∙ ap (λ (l : List ℕ). 1 ∷ l) (sym (append_assoc (head_of byte chart) (records_of es) (records_of later)))

front_size : (byte : ℕ) (chart : List ℕ) (es : List Entry) → All HasRecord es → length (front_of byte chart es) ≡ gate_after (6 + length chart) es
front_size byte chart es records =
    omega (arith, length-append (head_of byte chart) (records_of es), length-append (to_be_bytes w32 (length chart)) chart, gate_after-length (6 + length chart) es records)

-- what is whole stands in front of the bytes
in_front : (damage : Option ℕ) (bytes whole : List ℕ) (gate : ℕ) (behind : List ℕ) → whole_bytes damage bytes ≡ whole ++ gate ∷ behind → take (length whole) bytes ≡ whole
in_front None bytes whole gate behind is = ap (take (length whole)) is ∙ take_at whole (gate ∷ behind) (length whole) refl
in_front (Some at) bytes whole gate behind is =
    let n = length whole in
    let sizes = ap length is in
    let within : n ≤ length (take at bytes) = omega (arith, sizes, length-append (take at bytes) (0 ∷ []), length-append whole (gate ∷ behind)) in
    let early : n ≤ at = omega (arith, within, length-take at bytes) in
    sym (take-take n at bytes early) ∙ sym (take-append-le n (take at bytes) (0 ∷ []) within) ∙ ap (take n) is ∙ take_at whole (gate ∷ behind) n refl

-- the bytes before the gate behind the first entries
front_bytes : (byte : ℕ) (chart : List ℕ) (entries : List Entry) (bytes : List ℕ) (n : ℕ) → All HasRecord entries → take (length (front_of byte chart entries)) bytes ≡ front_of byte chart entries
    → take (gate_after (6 + length chart) (take n entries)) bytes ≡ front_of byte chart (take n entries)
front_bytes byte chart entries bytes n records lie =
    let es = take n entries in
    let later = drop n entries in
    let whole = front_of byte chart entries in
    let some = front_of byte chart es in
    let split : whole ≡ some ++ records_of later = ap (front_of byte chart) (sym (take-append-drop n entries)) ∙ split_front byte chart es later in
    let size = front_size byte chart es (All-take HasRecord n entries records) in
    let within : length some ≤ length whole = omega (arith, ap length split, length-append some (records_of later)) in
    ap (λ (k : ℕ). take k bytes) (sym size) ∙ sym (take-take (length some) (length whole) bytes within) ∙ ap (take (length some)) (lie ∙ split)
    ∙ take_at some (records_of later) (length some) refl

front_reads : (damage : Option ℕ) (chart : List ℕ) (entries : List Entry) (bytes : List ℕ) (n : ℕ) → Lies chart entries (whole_bytes damage bytes)
    → frames (before (gate_after (6 + length chart) (take n entries)) bytes) ≡ Ok (chart, take n entries)
front_reads damage chart entries bytes n lies =
    let rest = lies.rest in
    let valid = lies.valid in
    let byte = rest.byte in
    let made = front_bytes byte chart entries bytes n valid.records (in_front damage bytes (front_of byte chart entries) rest.gate rest.behind rest.layout) in
    let some : IsValid lies.version chart (take n entries) = record {
      accepted = valid.accepted;
      records = All-take HasRecord n entries valid.records;
      of = All-take (IsOf lies.version) n entries valid.of;
    } in
    (at_rest lies.version byte rest.first chart (take n entries) 0 [] (before (gate_after (6 + length chart) (take n entries)) bytes) some (λ e. cc e)
    (ap (λ (l : List ℕ). l ++ 0 ∷ []) made)).recovers

-- ---- the laws of the front that was made

pub has_first : (n : ℕ) (bytes made : List ℕ) (w : Whole) → whole_of bytes ≡ Ok (parts w) → LiesWhole w bytes → made ≡ front n (parts w) bytes → HasFirst n bytes made
has_first n bytes made w whole lies is p told =
    let same : parts w ≡ p = cc (sym whole ∙ told) in
    subst (λ (q : Parts). frames made ≡ Ok (q.chart, take n q.entries)) same (ap frames is ∙ front_reads w.damage w.chart.items w.entries.items bytes n lies)

whole_frames : (w : Whole) (bytes : List ℕ) → w.damage ≡ None → LiesWhole w bytes → frames bytes ≡ Ok (w.chart.items, w.entries.items)
whole_frames w bytes none lies = subst (λ (d : Option ℕ). frames (whole_bytes d bytes) ≡ Ok (w.chart.items, w.entries.items)) none lies.rest.recovers

pub has_all : (n : ℕ) (bytes made : List ℕ) (w : Whole) → whole_of bytes ≡ Ok (parts w) → LiesWhole w bytes → made ≡ front n (parts w) bytes → HasAll n bytes made
has_all n bytes made w whole lies is p told none count =
    let same : parts w ≡ p = cc (sym whole ∙ told) in
    let first = has_first n bytes made w whole lies is p told in
    let all : take n p.entries ≡ p.entries = take_all n p.entries (omega (arith, count)) in
    let undamaged : w.damage ≡ None = ap (λ (q : Parts). q.damage) same ∙ none in
    first ∙ ap (λ (es : List Entry). Ok (p.chart, es)) all ∙ ap (λ (q : Parts). Ok (q.chart, q.entries)) (sym same) ∙ sym (whole_frames w bytes undamaged lies)
