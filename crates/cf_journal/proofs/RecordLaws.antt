-- What records read as.
use Rattle.std.proofs.Common.{◌≡◌, ◌≢◌, ℕ, zero, suc, ◌+◌, ◌<◌, ◌≤◌, ◌^◌, List, [], ◌∷◌, ◌++◌, length, take, drop, refl, sym, ◌∙◌, ap, arith, append_assoc, length-append, Bool, false, All, Some, None, Ok, Option, Result, nat_lt, if◌then◌else◌, w32}
use Rattle.cf_base.proofs.Common.{to_be_bytes, from_be_bytes, from_be_bytes-to_be_bytes_4, take_at, drop_at, append-nil, All-head, All-tail, nat_tests}
use Rattle.cf_calls.specs.declared.entry.Entry.{Entry}
use Rattle.cf_codec.specs.Entries.{payload, read_of, IsOf}
use Rattle.cf_journal.specs.Records.{HasRecord, of_length, stated_len, entry_behind, in_front, entries_from, record_of, records_of, record_len, gate_after}
use Rattle.cf_codec.proofs.EntriesExact.{reads_back}

-- ---- steps of the reading

module _ (version : ℕ) where
  pub skipped : (k at : ℕ) (bytes : List ℕ) → entries_from version k at bytes ≡ entries_from version 0 at (drop k bytes)
  unfolding entries_from
  skipped zero at bytes = refl
  skipped (suc k) at [] = refl
  skipped (suc k) at (b ∷ bytes) = skipped k at bytes

  pub at_closed : (at gate : ℕ) (behind : List ℕ) → gate ≢ 1 → entries_from version 0 at (gate ∷ behind) ≡ Ok []
  unfolding entries_from
  at_closed at gate behind shut = grind (arith, nat_tests)

  pub at_open : (at : ℕ) (behind : List ℕ) → entries_from version 0 at (1 ∷ behind) ≡ in_front (entry_behind version behind) at (entries_from version (4 + stated_len behind) (5 + stated_len behind + at) behind)
  unfolding entries_from
  at_open at behind = refl

-- ---- one record

module _ (e : Entry) (form : HasRecord e) where
  abbrev size : ℕ
  size = length (payload e)

  abbrev stated : List ℕ
  stated = to_be_bytes w32 size

  small_size : size < 2 ^ 32
  small_size = form.short

  stated_back : from_be_bytes w32 stated ≡ size
  stated_back = from_be_bytes-to_be_bytes_4 size small_size

  pub length-record_of : length (record_of e) ≡ 4 + size
  length-record_of = length-append stated (payload e)

  module _ (tail : List ℕ) where
    abbrev behind : List ℕ
    behind = record_of e ++ tail

    apart : behind ≡ stated ++ (payload e ++ tail)
    apart = append_assoc stated (payload e) tail

    stated_is : stated_len behind ≡ size
    stated_is = ap (λ (l : List ℕ). from_be_bytes w32 (take 4 l)) apart ∙ stated_back

    payload_is : take size (drop 4 behind) ≡ payload e
    payload_is = ap (λ (l : List ℕ). take size (drop 4 l)) apart ∙ take_at (payload e) tail size refl

    pub tail_is : drop (4 + size) behind ≡ tail
    tail_is = drop_at (record_of e) tail (4 + size) length-record_of

    long_enough : 0 < length tail → nat_lt (length behind) (5 + size) ≡ false
    long_enough some = let le : 5 + size ≤ length behind = omega (arith, length-append (record_of e) tail, length-record_of) in grind (arith, nat_tests)

    module _ (version : ℕ) (of_version : IsOf version e) where
      exact : of_length size (read_of version (payload e)) ≡ Some e
      exact = ap (λ (l : List ℕ). of_length size (read_of version l)) (sym (append-nil (payload e))) ∙ ap (of_length size) (reads_back version e [] form.has of_version) ∙ grind (arith, nat_tests)

      entry_is : 0 < length tail → entry_behind version behind ≡ Some e
      entry_is some =
          ap (λ (n : ℕ). if nat_lt (length behind) (5 + n) then None else of_length n (read_of version (take n (drop 4 behind)))) stated_is
          ∙ ap (λ (b : Bool). if b then None else of_length size (read_of version (take size (drop 4 behind)))) (long_enough some)
          ∙ ap (λ (l : List ℕ). of_length size (read_of version l)) payload_is
          ∙ exact

      -- an open record, and then what the rest reads as
      pub read_one : (at : ℕ) → 0 < length tail → entries_from version 0 at (1 ∷ behind) ≡ in_front (Some e) at (entries_from version 0 (5 + size + at) tail)
      read_one at some =
          at_open version at behind
          ∙ ap (λ (o : Option Entry). in_front o at (entries_from version (4 + stated_len behind) (5 + stated_len behind + at) behind)) (entry_is some)
          ∙ ap (λ (n : ℕ). in_front (Some e) at (entries_from version (4 + n) (5 + n + at) behind)) stated_is
          ∙ ap (λ (r : Result (List Entry) ℕ). in_front (Some e) at r) (skipped version (4 + size) (5 + size + at) behind ∙ ap (λ (l : List ℕ). entries_from version 0 (5 + size + at) l) tail_is)

-- ---- all records

pub records_front : (e : Entry) (es : List Entry) (rest : List ℕ) → records_of (e ∷ es) ++ rest ≡ 1 ∷ (record_of e ++ (records_of es ++ rest))
unfolding records_of
records_front e es rest = ap (λ (l : List ℕ). 1 ∷ l) (append_assoc (record_of e) (records_of es) rest)

pub records_none : (rest : List ℕ) → records_of [] ++ rest ≡ rest
unfolding records_of
records_none rest = refl

-- open records before a closed gate read as their entries, in a version that all of them are of
pub read_records : (version at : ℕ) (es : List Entry) (gate : ℕ) (behind : List ℕ) → All HasRecord es → All (IsOf version) es → gate ≢ 1 → entries_from version 0 at (records_of es ++ gate ∷ behind) ≡ Ok es
read_records version at [] gate behind forms of_version shut = ap (λ (l : List ℕ). entries_from version 0 at l) (records_none (gate ∷ behind)) ∙ at_closed version at gate behind shut
read_records version at (e ∷ es) gate behind forms of_version shut =
    let rest = records_of es ++ gate ∷ behind in
    let some : 0 < length rest = omega (arith, length-append (records_of es) (gate ∷ behind)) in
    ap (λ (l : List ℕ). entries_from version 0 at l) (records_front e es (gate ∷ behind))
    ∙ read_one e (All-head HasRecord e es forms) rest version (All-head (IsOf version) e es of_version) at some
    ∙ ap (λ (r : Result (List Entry) ℕ). in_front (Some e) at r)
    (read_records version (5 + length (payload e) + at) es gate behind (All-tail HasRecord e es forms) (All-tail (IsOf version) e es of_version) shut)

pub records_push : (es : List Entry) (e : Entry) (rest : List ℕ) → records_of (es ++ e ∷ []) ++ rest ≡ records_of es ++ 1 ∷ (record_of e ++ rest)
records_push [] e rest = records_front e [] rest ∙ ap (λ (l : List ℕ). 1 ∷ (record_of e ++ l)) (records_none rest) ∙ sym (records_none (1 ∷ (record_of e ++ rest)))
records_push (x ∷ es) e rest =
    records_front x (es ++ e ∷ []) rest ∙ ap (λ (l : List ℕ). 1 ∷ (record_of x ++ l)) (records_push es e rest) ∙ sym (records_front x es (1 ∷ (record_of e ++ rest)))

pub length-records_push : (es : List Entry) (e : Entry) → HasRecord e → length (records_of (es ++ e ∷ [])) ≡ length (records_of es) + record_len e
length-records_push es e form =
    ap length (sym (append-nil (records_of (es ++ e ∷ []))) ∙ records_push es e []) ∙ length-append (records_of es) (1 ∷ (record_of e ++ []))
    ∙ omega (arith, length-append (record_of e) [], length-record_of e form)

-- ---- the places of gates

pub gate_after-length : (first : ℕ) (es : List Entry) → All HasRecord es → gate_after first es ≡ first + length (records_of es)
unfolding gate_after records_of
gate_after-length first [] forms = omega arith
gate_after-length first (e ∷ es) forms = gate_after-length (first + record_len e) es (All-tail HasRecord e es forms) ∙ omega (arith, length-append (payload e) (records_of es))

pub gate_after-push : (first : ℕ) (es : List Entry) (e : Entry) → gate_after first (es ++ e ∷ []) ≡ gate_after first es + record_len e
unfolding gate_after
gate_after-push first [] e = refl
gate_after-push first (x ∷ es) e = gate_after-push (first + record_len x) es e
