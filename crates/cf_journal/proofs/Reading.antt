-- One step of reading records.
use Rattle.std.proofs.Common.{◌≡◌, ◌≢◌, inl, inr, ℕ, ◌+◌, ◌<◌, ◌≤◌, ◌^◌, List, [], ◌∷◌, ◌++◌, length, take, drop, get_or, refl, sym, ◌∙◌, ap, arith, append_assoc, take-append-drop, Bool, true, false, All, Some, None, Ok, Err, Option, Result, ◌==◌, nat_lt, if◌then◌else◌, w32}
use Rattle.cf_base.proofs.Common.{to_be_bytes, be_bytes_4, take_at, take-take, drop-drop, drop_more, append-nil, get_or-take, get_or-drop, get_or_past, length-take-le, length-take, cases_lt, cases_eq, nat_tests}
use Rattle.cf_calls.specs.declared.entry.Entry.{Entry}
use Rattle.cf_codec.specs.Entries.{payload, read_of, IsOf}
use Rattle.cf_journal.specs.Records.{HasRecord, of_length, stated_len, entry_behind, in_front, entries_from, record_of, records_of}
use Rattle.cf_codec.proofs.EntriesExact.{was_written}
use Rattle.cf_journal.proofs.RecordLaws.{skipped, at_closed, at_open, records_none, records_push, length-records_push}
use Rattle.cf_journal.specs.Answers.{GivesEntry, GivesEntries, EndsAt}
use Rattle.cf_journal.specs.declared.refused.OpenRefused.{OpenRefused}
use Rattle.cf_journal.specs.declared.refused.OpenRefused.TheVariants.{Disk, NotFounded, Damaged, NoMemory}

-- entries that were read before those that the rest gives
abbrev pub with_front : List Entry → Result (List Entry) ℕ → Result (List Entry) ℕ
with_front es (Ok later) = Ok (es ++ later)
with_front es (Err at) = Err at

pub front_none : (r : Result (List Entry) ℕ) → with_front [] r ≡ r
front_none (Ok es) = refl
front_none (Err at) = refl

pub front_push : (es : List Entry) (e : Entry) (at : ℕ) (r : Result (List Entry) ℕ) → with_front es (in_front (Some e) at r) ≡ with_front (es ++ e ∷ []) r
front_push es e at (Ok later) = ap (λ (l : List Entry). Ok l) (sym (append_assoc es (e ∷ []) later))
front_push es e at (Err place) = refl

-- an open gate with an entry behind it
pub steps_on : (version : ℕ) (records : List ℕ) (place at n : ℕ) (e : Entry) → place < length records → get_or records place 0 ≡ 1 → entry_behind version (drop (place + 1) records) ≡ Some e → n ≡ stated_len (drop (place + 1) records)
    → entries_from version 0 at (drop place records) ≡ in_front (Some e) at (entries_from version 0 (5 + n + at) (drop (place + (5 + n)) records))
steps_on version records place at n e within is_open is_entry n_is =
    let behind = drop (place + 1) records in
    let here : drop place records ≡ 1 ∷ behind = drop_more records place 0 within ∙ ap (λ (g : ℕ). g ∷ behind) is_open in
    let where_ : place + 1 + (4 + n) ≡ place + (5 + n) = omega arith in
    let rest : drop (4 + n) behind ≡ drop (place + (5 + n)) records = drop-drop (4 + n) (place + 1) records ∙ ap (λ (k : ℕ). drop k records) where_ in
    ap (λ (l : List ℕ). entries_from version 0 at l) here ∙ at_open version at behind
    ∙ ap (λ (o : Option Entry). in_front o at (entries_from version (4 + stated_len behind) (5 + stated_len behind + at) behind)) is_entry
    ∙ ap (λ (k : ℕ). in_front (Some e) at (entries_from version (4 + k) (5 + k + at) behind)) (sym n_is)
    ∙ ap (λ (r : Result (List Entry) ℕ). in_front (Some e) at r) (skipped version (4 + n) (5 + n + at) behind ∙ ap (λ (l : List ℕ). entries_from version 0 (5 + n + at) l) rest)

-- one without
pub stops_at : (version : ℕ) (records : List ℕ) (place at : ℕ) → place < length records → get_or records place 0 ≡ 1 → entry_behind version (drop (place + 1) records) ≡ None → entries_from version 0 at (drop place records) ≡ Err at
stops_at version records place at within is_open none =
    let behind = drop (place + 1) records in
    let here : drop place records ≡ 1 ∷ behind = drop_more records place 0 within ∙ ap (λ (g : ℕ). g ∷ behind) is_open in
    ap (λ (l : List ℕ). entries_from version 0 at l) here ∙ at_open version at behind
    ∙ ap (λ (o : Option Entry). in_front o at (entries_from version (4 + stated_len behind) (5 + stated_len behind + at) behind)) none

-- a closed gate
pub ends_at : (version : ℕ) (records : List ℕ) (place at : ℕ) → place < length records → get_or records place 0 ≢ 1 → entries_from version 0 at (drop place records) ≡ Ok []
ends_at version records place at within shut = ap (λ (l : List ℕ). entries_from version 0 at l) (drop_more records place 0 within) ∙ at_closed version at (get_or records place 0) (drop (place + 1) records) shut

-- ---- what an entry that was read says of the bytes

of_length-some : (n : ℕ) (r : Result (Entry × ℕ) ℕ) (e : Entry) → of_length n r ≡ Some e → r ≡ Ok (e, n)
of_length-some n (Err offset) e is = absurd (cc is)
of_length-some n (Ok x) e is = elim (cases_eq x.1 n) [
  | inl same ↦
      let passes : (x.1 == n) ≡ true = grind (arith, nat_tests) in
      let kept : Some x.0 ≡ Some e = sym (ap (λ (b : Bool). if b then Some x.0 else None) passes) ∙ is in
      let entry : x.0 ≡ e = cc kept in
      λ i. Ok (entry i, same i)
  | inr other ↦
      let fails : (x.1 == n) ≡ false = grind (arith, nat_tests) in
      let gone : None ≡ Some e = sym (ap (λ (b : Bool). if b then Some x.0 else None) fails) ∙ is in
      absurd (cc gone)
]

not_short : (b : Bool) (o : Option Entry) (e : Entry) → (if b then None else o) ≡ Some e → (b ≡ false) × (o ≡ Some e)
not_short true o e is = absurd (cc is)
not_short false o e is = (refl, is)

front_bytes : (n : ℕ) (bytes : List ℕ) → ((i : ℕ) → get_or bytes i 0 < 256) → (i : ℕ) → get_or (take n bytes) i 0 < 256
front_bytes n bytes are i = elim (cases_lt i n) [
  | inl lt ↦ let same = get_or-take n bytes i 0 lt in omega (arith, same, are i)
  | inr le ↦ let none = get_or_past (take n bytes) i 0 (omega (arith, length-take n bytes)) in omega (arith, none)
]

pub back_bytes : (n : ℕ) (bytes : List ℕ) → ((i : ℕ) → get_or bytes i 0 < 256) → (i : ℕ) → get_or (drop n bytes) i 0 < 256
back_bytes n bytes are i = let same = get_or-drop n bytes i 0 in omega (arith, same, are (n + i))

-- the length that is stated fits four bytes
pub stated_small : (behind : List ℕ) → ((i : ℕ) → get_or behind i 0 < 256) → stated_len behind < 2 ^ 32
stated_small behind are = omega (arith, front_bytes 4 behind are 0, front_bytes 4 behind are 1, front_bytes 4 behind are 2, front_bytes 4 behind are 3)

pub record Lies (version : ℕ) (behind : List ℕ) (e : Entry) : Type 0 where
  pub form : HasRecord e
  pub of : IsOf version e
  pub size : stated_len behind ≡ length (payload e)
  pub bytes : behind ≡ record_of e ++ drop (4 + stated_len behind) behind

pub lies : (version : ℕ) (behind : List ℕ) (e : Entry) → ((i : ℕ) → get_or behind i 0 < 256) → entry_behind version behind ≡ Some e → Lies version behind e
lies version behind e are_bytes is =
    let n = stated_len behind in
    let tests = not_short (nat_lt (length behind) (5 + n)) (of_length n (read_of version (take n (drop 4 behind)))) e is in
    let long : 5 + n ≤ length behind = let t = tests.0 in grind (arith, nat_tests) in
    let read = of_length-some n (read_of version (take n (drop 4 behind))) e tests.1 in
    let are : (i : ℕ) → get_or (take n (drop 4 behind)) i 0 < 256 = front_bytes n (drop 4 behind) (back_bytes 4 behind are_bytes) in
    let was = was_written version (take n (drop 4 behind)) e n are read in
    let is_read = was.0 in
    let text : take n (drop 4 behind) ≡ payload e = sym (take-take n n (drop 4 behind) (omega arith)) ∙ is_read.front in
    let number : to_be_bytes w32 n ≡ take 4 behind = be_bytes_4 (take 4 behind) n (length-take-le 4 behind (omega (arith, long))) (front_bytes 4 behind are_bytes) refl in
    let sized : to_be_bytes w32 (length (payload e)) ≡ take 4 behind = ap (λ (k : ℕ). to_be_bytes w32 k) (sym is_read.count) ∙ number in
    record {
      form = record { has = is_read.entry; short = omega (arith, is_read.count, stated_small behind are_bytes) };
      of = was.1;
      size = is_read.count;
      bytes =
          sym (take-append-drop 4 behind)
          ∙ ap (λ (l : List ℕ). l ++ drop 4 behind) (sym sized)
          ∙ ap (λ (l : List ℕ). to_be_bytes w32 (length (payload e)) ++ l) (sym (take-append-drop n (drop 4 behind)) ∙ ap (λ (l : List ℕ). l ++ drop n (drop 4 behind)) text ∙ ap (λ (l : List ℕ). payload e ++ l) (drop-drop n 4 behind))
          ∙ sym (append_assoc (to_be_bytes w32 (length (payload e))) (payload e) (drop (4 + n) behind));
    }

-- ---- a payload of another length

pub none_behind : (version : ℕ) (behind : List ℕ) (n len : ℕ) (e : Entry) → n ≡ stated_len behind → read_of version (take n (drop 4 behind)) ≡ Ok (e, len) → (len ≡ n → ⊥) → entry_behind version behind ≡ None
none_behind version behind n len e n_is read other =
    ap (λ (k : ℕ). if nat_lt (length behind) (5 + k) then None else of_length k (read_of version (take k (drop 4 behind)))) (sym n_is)
    ∙ either (nat_lt (length behind) (5 + n)) (of_length n (read_of version (take n (drop 4 behind)))) (ap (of_length n) read ∙ ap (λ (b : Bool). if b then Some e else None) unequal)
  where
    unequal : (len == n) ≡ false
    unequal = grind (arith, nat_tests)

    either : (b : Bool) (o : Option Entry) → o ≡ None → (if b then None else o) ≡ None
    either true o is = refl
    either false o is = is

-- ---- the loop over records

pub nothing_read : records_of [] ≡ []
nothing_read = sym (append-nil (records_of [])) ∙ records_none []

-- the front that was read has a record more
pub front_more : (version : ℕ) (records : List ℕ) (place n : ℕ) (es : List Entry) (e : Entry) → place < length records → get_or records place 0 ≡ 1 → n ≡ stated_len (drop (place + 1) records) → Lies version (drop (place + 1) records) e
    → take place records ≡ records_of es → take (place + (5 + n)) records ≡ records_of (es ++ e ∷ [])
front_more version records place n es e within is_open n_is lie front =
    let behind = drop (place + 1) records in
    let rest = drop (4 + stated_len behind) behind in
    let here : drop place records ≡ 1 ∷ (record_of e ++ rest) = drop_more records place 0 within ∙ ap (λ (g : ℕ). g ∷ behind) is_open ∙ ap (λ (l : List ℕ). 1 ∷ l) lie.bytes in
    let whole : records ≡ records_of (es ++ e ∷ []) ++ rest =
    sym (take-append-drop place records) ∙ ap (λ (l : List ℕ). l ++ drop place records) front ∙ ap (λ (l : List ℕ). records_of es ++ l) here ∙ sym (records_push es e rest) in
    let so_far : length (records_of es) ≡ place = sym (ap length front) ∙ length-take-le place records (omega arith) in
    let size : length (records_of (es ++ e ∷ [])) ≡ place + (5 + n) = length-records_push es e lie.form ∙ omega (arith, so_far, n_is, lie.size) in
    ap (λ (l : List ℕ). take (place + (5 + n)) l) whole ∙ take_at (records_of (es ++ e ∷ [])) rest (place + (5 + n)) size

-- a refusal of one entry is that of all
pub refuses_all : (e : OpenRefused) (version at first : ℕ) (behind records : List ℕ) → GivesEntry (Err e) version at behind → (entry_behind version behind ≡ None → entries_from version 0 first records ≡ Err at) → GivesEntries (Err e) version first records
refuses_all NoMemory version at first behind records gives stops = tt
refuses_all Disk version at first behind records gives stops = absurd (cc (gives.0))
refuses_all (NotFounded len byte) version at first behind records gives stops = absurd (cc (gives.0))
refuses_all (Damaged offset) version at first behind records gives stops = let same : offset ≡ at = cc (gives.0) in stops gives.1 ∙ ap (λ (k : ℕ). Err k) (sym same)

-- the first gate that isn't open
pub ends : (version : ℕ) (records : List ℕ) (place first : ℕ) (es : List Entry) → place < length records → (get_or records place 0 ≡ 1 → ⊥) → All HasRecord es → All (IsOf version) es → take place records ≡ records_of es
    → EndsAt version first records es (first + place)
ends version records place first es within shut all of_version front =
    let so_far : length (records_of es) ≡ place = sym (ap length front) ∙ length-take-le place records (omega arith) in
    record {
      all = all;
      of = of_version;
      gate = get_or records place 0;
      behind = drop (place + 1) records;
      closed = shut;
      layout = sym (take-append-drop place records) ∙ ap (λ (l : List ℕ). l ++ drop place records) front ∙ ap (λ (l : List ℕ). records_of es ++ l) (drop_more records place 0 within);
      at = omega (arith, so_far);
    }
