-- What the layout of a journal recovers to.
use Rattle.std.proofs.Common.{◌≡◌, ◌≢◌, inl, inr, ℕ, ◌+◌, ◌<◌, ◌≤◌, ◌^◌, List, [], ◌∷◌, ◌++◌, length, take, drop, get_or, refl, sym, ◌∙◌, ap, subst, arith, append_assoc, length-append, Bool, true, false, Ok, Err, Result, IsOk, is_ok, nat_lt, nat_le, not, ◌&&◌, if◌then◌else◌, w32}
use Rattle.std.specs.Prelude.{⊤}
use Rattle.cf_base.proofs.Common.{to_be_bytes, from_be_bytes, from_be_bytes-to_be_bytes_4, take_at, drop_at, drop-drop, All-push, All-weaker, cases_eq, nat_tests}
use Rattle.cf_calls.specs.declared.entry.Entry.{Entry}
use Rattle.cf_chart.specs.Common.{chart_of, Checked, must, ◌>>=◌}
use Rattle.cf_chart.specs.declared.fault.ChartFault.{ChartFault}
use Rattle.cf_chart.specs.declared.fault.ChartFault.TheVariants.{TooLong}
use Rattle.cf_codec.specs.Entries.{IsOf}
use Rattle.cf_codec.proofs.EntriesExact.{is_of_two}
use Rattle.cf_journal.specs.Records.{HasRecord, entries_from, record_of, records_of}
use Rattle.cf_journal.specs.Frames.{version_by, stated_head, with_chart, behind_head, frames}
use Rattle.cf_journal.specs.Layout.{front_of, RecoversTo, RecoversToEither, IsValid, IsAtRest, IsStaged}
use Rattle.cf_journal.specs.declared.refused.OpenRefused.{OpenRefused}
use Rattle.cf_journal.specs.declared.refused.OpenRefused.TheVariants.{Damaged}
use Rattle.cf_journal.proofs.RecordLaws.{read_records, records_push}

must_pass : {A : Type 0} (b : Bool) (f : ChartFault) (next : ⊤ → Checked A) → IsOk (must b f >>= next) → b ≡ true
must_pass true f next ok = refl
must_pass false f next ok = absurd (cc ok)

-- a chart that is accepted has at most 1,048,576 bytes
pub chart_short : (chart : List ℕ) → IsOk (chart_of chart) → length chart ≤ 1048576
chart_short chart accepted = let passed = must_pass (nat_le (length chart) 1048576) (TooLong 1048576) _ accepted in grind (arith, nat_tests)

-- the tests of a head that passes
chosen : {A : Type 0} (a b c : Bool) (x e0 e1 e2 : A) → a ≡ true → b ≡ false → c ≡ false → (if not (a && true) then e0 else (if b then e1 else (if c then e2 else x))) ≡ x
chosen true false false x e0 e1 e2 p q r = refl
chosen false b c x e0 e1 e2 p q r = absurd (cc p)
chosen true true c x e0 e1 e2 p q r = absurd (cc q)
chosen true false true x e0 e1 e2 p q r = absurd (cc r)

module _ (byte : ℕ) (chart : List ℕ) (short : length chart < 2 ^ 32) (records : List ℕ) (some : 0 < length records) where
  abbrev size : ℕ
  size = length chart

  abbrev image : List ℕ
  image = 1 ∷ byte ∷ (to_be_bytes w32 size ++ (chart ++ records))

  abbrev first_six : List ℕ
  first_six = 1 ∷ byte ∷ to_be_bytes w32 size

  length-image : length image ≡ 6 + size + length records
  length-image = omega (arith, length-append chart records)

  stated : from_be_bytes w32 (take 4 (drop 2 first_six)) ≡ size
  stated = from_be_bytes-to_be_bytes_4 size short

  two : nat_lt 1 (length image) ≡ true
  two = let lt : 1 < length image = omega (arith, length-image) in grind (arith, nat_tests)

  six : nat_lt (length image) 6 ≡ false
  six = let le : 6 ≤ length image = omega (arith, length-image) in grind (arith, nat_tests)

  within : nat_lt (length image) (7 + size) ≡ false
  within = let le : 7 + size ≤ length image = omega (arith, length-image) in grind (arith, nat_tests)

  head_is : stated_head (length image) (take 6 image) ≡ Ok (version_by byte, size)
  head_is =
      chosen (nat_lt 1 (length image)) (nat_lt (length image) 6) (nat_lt (length image) (7 + from_be_bytes w32 (take 4 (drop 2 first_six)))) _ _ _ _ two six
      (ap (λ (n : ℕ). nat_lt (length image) (7 + n)) stated ∙ within)
      ∙ ap (λ (n : ℕ). Ok (version_by byte, n)) stated

  chart_is : take size (drop 6 image) ≡ chart
  chart_is = take_at chart records size refl

  records_are : drop (6 + size) image ≡ records
  records_are = sym (drop-drop size 6 image) ∙ drop_at chart records size refl

  -- a chart, and then records
  pub frames_are : IsOk (chart_of chart) → frames image ≡ with_chart chart (entries_from (version_by byte) 0 (6 + size) records)
  frames_are accepted =
      ap (λ (r : Result (ℕ × ℕ) OpenRefused). behind_head r image) head_is
      ∙ ap (λ (c : List ℕ). if is_ok (chart_of c) then with_chart c (entries_from (version_by byte) 0 (6 + size) (drop (6 + size) image)) else Err (Damaged 6)) chart_is
      ∙ ap (λ (b : Bool). if b then with_chart chart (entries_from (version_by byte) 0 (6 + size) (drop (6 + size) image)) else Err (Damaged 6)) accepted
      ∙ ap (λ (l : List ℕ). with_chart chart (entries_from (version_by byte) 0 (6 + size) l)) records_are

-- ---- versions

-- an image tells version 1 in a journal of version 1 alone, so it has every entry of the journal
pub of_byte : (version byte : ℕ) → (byte ≡ 1 → version ≡ 1) → (e : Entry) → IsOf version e → IsOf (version_by byte) e
of_byte version byte first e of_version = elim (cases_eq byte 1) [
  | inl is ↦ let one : version_by byte ≡ 1 = ap version_by is in subst (λ (v : ℕ). IsOf v e) (first is ∙ sym one) of_version
  | inr other ↦ let two : version_by byte ≡ 2 = grind (arith, nat_tests) in subst (λ (v : ℕ). IsOf v e) (sym two) (is_of_two e)
]

valid_by : (version byte : ℕ) (chart : List ℕ) (history : List Entry) → (byte ≡ 1 → version ≡ 1) → IsValid version chart history → IsValid (version_by byte) chart history
valid_by version byte chart history first valid =
    record { accepted = valid.accepted; records = valid.records; of = All-weaker (IsOf version) (IsOf (version_by byte)) (of_byte version byte first) history valid.of }

-- every history is of version 2
pub valid_two : (version : ℕ) (chart : List ℕ) (history : List Entry) → IsValid version chart history → IsValid 2 chart history
valid_two version chart history valid = record { accepted = valid.accepted; records = valid.records; of = λ k d lt. is_of_two (get_or history k d) }

pub valid_push : (version : ℕ) (chart : List ℕ) (history : List Entry) (entry : Entry) → IsValid version chart history → HasRecord entry → IsOf version entry → IsValid version chart (history ++ entry ∷ [])
valid_push version chart history entry valid form of_version =
    record { accepted = valid.accepted; records = All-push HasRecord history entry valid.records form; of = All-push (IsOf version) history entry valid.of of_version }

-- ---- layouts

-- the chart, records and what stands behind them
pub front_split : (byte : ℕ) (chart : List ℕ) (history : List Entry) (rest : List ℕ) → front_of byte chart history ++ rest ≡ 1 ∷ byte ∷ (to_be_bytes w32 (length chart) ++ (chart ++ (records_of history ++ rest)))
front_split byte chart history rest = ap (λ (l : List ℕ). 1 ∷ byte ∷ (to_be_bytes w32 (length chart) ++ l)) (append_assoc chart (records_of history) rest)

pub recovers_at_rest : (byte : ℕ) (chart : List ℕ) (history : List Entry) (gate : ℕ) (behind : List ℕ) → IsValid (version_by byte) chart history → gate ≢ 1 → RecoversTo chart history (front_of byte chart history ++ gate ∷ behind)
recovers_at_rest byte chart history gate behind valid shut =
    let rest = records_of history ++ gate ∷ behind in
    let short : length chart < 2 ^ 32 = omega (arith, chart_short chart valid.accepted) in
    let some : 0 < length rest = omega (arith, length-append (records_of history) (gate ∷ behind)) in
    ap frames (front_split byte chart history (gate ∷ behind)) ∙ frames_are byte chart short rest some valid.accepted
    ∙ ap (λ (r : Result (List Entry) ℕ). with_chart chart r) (read_records (version_by byte) (6 + length chart) history gate behind valid.records valid.of shut)

pub front_push : (byte : ℕ) (chart : List ℕ) (history : List Entry) (entry : Entry) (rest : List ℕ) → front_of byte chart (history ++ entry ∷ []) ++ rest ≡ front_of byte chart history ++ 1 ∷ (record_of entry ++ rest)
front_push byte chart history entry rest =
    front_split byte chart (history ++ entry ∷ []) rest
    ∙ ap (λ (l : List ℕ). 1 ∷ byte ∷ (to_be_bytes w32 (length chart) ++ (chart ++ l))) (records_push history entry rest)
    ∙ sym (front_split byte chart history (1 ∷ (record_of entry ++ rest)))

module _ (version byte : ℕ) (first : byte ≡ 1 → version ≡ 1) (chart : List ℕ) where
  pub at_rest : (history : List Entry) (gate : ℕ) (behind image : List ℕ) → IsValid version chart history → gate ≢ 1 → image ≡ front_of byte chart history ++ gate ∷ behind → IsAtRest version chart history image
  at_rest history gate behind image valid shut is = record {
    recovers = ap frames is ∙ recovers_at_rest byte chart history gate behind (valid_by version byte chart history first valid) shut;
    byte = byte;
    first = first;
    gate = gate;
    behind = behind;
    closed = shut;
    layout = is;
  }

  module _ (history : List Entry) (entry : Entry) (valid : IsValid version chart history) (form : HasRecord entry) (of_version : IsOf version entry) where
    -- behind an open gate the entry counts
    pub at_rest_with : (next : ℕ) (behind image : List ℕ) → next ≢ 1 → image ≡ front_of byte chart history ++ 1 ∷ (record_of entry ++ next ∷ behind) → IsAtRest version chart (history ++ entry ∷ []) image
    at_rest_with next behind image shut is =
        at_rest (history ++ entry ∷ []) next behind image (valid_push version chart history entry valid form of_version) shut (is ∙ sym (front_push byte chart history entry (next ∷ behind)))

    pub staged : (gate next : ℕ) (behind image : List ℕ) → next ≢ 1 → image ≡ front_of byte chart history ++ gate ∷ (record_of entry ++ next ∷ behind) → IsStaged version chart history entry image
    staged gate next behind image shut is = record {
      recovers = either;
      byte = byte;
      first = first;
      gate = gate;
      next = next;
      behind = behind;
      closed = shut;
      layout = is;
    }
      where
        either : RecoversToEither chart history entry image
        either = elim (cases_eq gate 1) [
          | inl open_gate ↦ inr (at_rest_with next behind image shut (is ∙ ap (λ (g : ℕ). front_of byte chart history ++ g ∷ (record_of entry ++ next ∷ behind)) open_gate)).recovers
          | inr closed_gate ↦ inl (at_rest history gate (record_of entry ++ next ∷ behind) image valid closed_gate is).recovers
        ]
