-- What the steps of an append and of a mend leave.
use Rattle.std.proofs.Common.{◌≡◌, ℕ, ◌+◌, ◌≤◌, List, [], ◌∷◌, ◌++◌, length, take, drop, replicate, get_or, refl, sym, ◌∙◌, ap, subst, arith, append_assoc, length-append, Result, Ok, Err, OnErr}
use Rattle.cf_base.proofs.Common.{append-nil, take_at}
use Rattle.cf_calls.specs.declared.entry.Entry.{Entry}
use Rattle.cf_disk.specs.Images.{written, Torn}
use Rattle.cf_disk.specs.Moments.{AtEachMoment}
use Rattle.cf_codec.specs.Entries.{payload, IsOf}
use Rattle.cf_codec.proofs.EntriesExact.{no_prefix}
use Rattle.cf_journal.specs.Records.{HasRecord, record_of, records_of, gate_after}
use Rattle.cf_journal.specs.Layout.{front_of, IsValid, IsAtRest, IsStaged}
use Rattle.cf_journal.specs.Journal.{Reserves}
use Rattle.cf_journal.specs.declared.journal.Journal.{Journal}
use Rattle.cf_journal.proofs.Lists.{torn_behind, torn_gate, written_behind, written_gate}
use Rattle.cf_journal.proofs.RecordLaws.{gate_after-length, length-record_of}
use Rattle.cf_journal.proofs.Layouts.{at_rest, at_rest_with, staged}

pub on_err : {T E : Type 0} (r : Result T E) (P : Type 0) → P → OnErr r P
on_err (Ok a) P p = tt
on_err (Err e) P p = p

-- what an image at some moment of a run has, an image at its end has
pub at_end : {D : Type 0} (moment : D → ℕ) (is_image : D → List ℕ → Type 0) (was_image : D → ℕ → List ℕ → Type 0) → ((d : D) (t : ℕ) (image : List ℕ) → t ≤ moment d → is_image d image → was_image d t image)
    → (old new : D) (P : List ℕ → Type 0) → AtEachMoment moment was_image old new P → (image : List ℕ) → is_image new image → P image
at_end moment is_image was_image counts old new P run image is = run.images image (counts new (moment old) image run.later is)

module _ (version : ℕ) (chart : List ℕ) (history : List Entry) (valid : IsValid version chart history) where
  -- the place of the gate, which stands behind the front
  abbrev place : ℕ
  place = gate_after (6 + length chart) history

  gate_is : (byte : ℕ) → place ≡ length (front_of byte chart history)
  gate_is byte = gate_after-length (6 + length chart) history valid.records ∙ omega (arith, length-append chart (records_of history))

  behind_gate : (byte at : ℕ) → at ≡ place + 1 → at ≡ length (front_of byte chart history) + 1
  behind_gate byte at at_is = at_is ∙ ap (λ (k : ℕ). k + 1) (gate_is byte)

  -- a crash in the write of a record
  pub torn_at_rest : (at n : ℕ) → at ≡ place + 1 → (earlier image : List ℕ) → IsAtRest version chart history earlier → Torn at n earlier image → IsAtRest version chart history image
  torn_at_rest at n at_is earlier image rest torn =
      let front = front_of rest.byte chart history in
      let torn' : Torn (length front + 1) n (front ++ rest.gate ∷ rest.behind) image =
      subst (λ (old : List ℕ). Torn (length front + 1) n old image) rest.layout (subst (λ (k : ℕ). Torn k n earlier image) (behind_gate rest.byte at at_is) torn) in
      at_rest version rest.byte rest.first chart history rest.gate (drop (length front + 1) image) image valid rest.closed (torn_behind front rest.gate rest.behind n image torn')

  module _ (entry : Entry) (form : HasRecord entry) (of_version : IsOf version entry) where
    -- a record that is written
    pub written_at_rest : (at : ℕ) (piece padding old new : List ℕ) → at ≡ place + 1 → piece ≡ record_of entry ++ 0 ∷ padding → IsAtRest version chart history old → new ≡ written at piece old → IsStaged version chart history entry new
    written_at_rest at piece padding old new at_is piece_is rest new_is =
        let front = front_of rest.byte chart history in
        let after = drop (length piece) rest.behind in
        let layout : new ≡ front ++ rest.gate ∷ (record_of entry ++ 0 ∷ (padding ++ after)) =
        new_is
        ∙ ap (λ (k : ℕ). written k piece old) (behind_gate rest.byte at at_is)
        ∙ ap (λ (l : List ℕ). written (length front + 1) piece l) rest.layout
        ∙ written_behind front rest.gate rest.behind piece
        ∙ ap (λ (l : List ℕ). front ++ rest.gate ∷ (l ++ after)) piece_is
        ∙ ap (λ (l : List ℕ). front ++ rest.gate ∷ l) (append_assoc (record_of entry) (0 ∷ padding) after) in
        staged version rest.byte rest.first chart history entry valid form of_version rest.gate 0 (padding ++ after) new (omega arith) layout

    -- a crash in the write of the gate
    pub torn_staged : (at : ℕ) → at ≡ place → (earlier image : List ℕ) → IsStaged version chart history entry earlier → Torn at 1 earlier image → IsStaged version chart history entry image
    torn_staged at at_is earlier image s torn =
        let front = front_of s.byte chart history in
        let behind = record_of entry ++ s.next ∷ s.behind in
        let torn' : Torn (length front) 1 (front ++ s.gate ∷ behind) image =
        subst (λ (old : List ℕ). Torn (length front) 1 old image) s.layout (subst (λ (k : ℕ). Torn k 1 earlier image) (at_is ∙ gate_is s.byte) torn) in
        staged version s.byte s.first chart history entry valid form of_version (get_or image (length front) 0) s.next s.behind image s.closed (torn_gate front s.gate behind image torn')

    gate_written : (at x : ℕ) (old new : List ℕ) → at ≡ place → (s : IsStaged version chart history entry old) → new ≡ written at (x ∷ []) old → new ≡ front_of s.byte chart history ++ x ∷ (record_of entry ++ s.next ∷ s.behind)
    gate_written at x old new at_is s new_is =
        let front = front_of s.byte chart history in
        new_is
        ∙ ap (λ (k : ℕ). written k (x ∷ []) old) (at_is ∙ gate_is s.byte)
        ∙ ap (λ (l : List ℕ). written (length front) (x ∷ []) l) s.layout
        ∙ written_gate front s.gate (record_of entry ++ s.next ∷ s.behind) x

    -- a gate that is opened
    pub opened : (at : ℕ) (old new : List ℕ) → at ≡ place → IsStaged version chart history entry old → new ≡ written at (1 ∷ []) old → IsAtRest version chart (history ++ entry ∷ []) new
    opened at old new at_is s new_is = at_rest_with version s.byte s.first chart history entry valid form of_version s.next s.behind new s.closed (gate_written at 1 old new at_is s new_is)

    -- a gate that is closed
    pub closed : (at : ℕ) (old new : List ℕ) → at ≡ place → IsStaged version chart history entry old → new ≡ written at (0 ∷ []) old → IsAtRest version chart history new
    closed at old new at_is s new_is = at_rest version s.byte s.first chart history 0 (record_of entry ++ s.next ∷ s.behind) new valid (omega arith) (gate_written at 0 old new at_is s new_is)

-- ---- an entry that is reserved

-- what is reserved is one entry
reserved_once : (journal : Journal) (a b : Entry) → Reserves journal a → Reserves journal b → a ≡ b
reserved_once journal a b one two =
    let sizes : length (payload b) ≡ length (payload a) = omega (arith, one.size, two.size) in
    let long : length (record_of b) ≡ length (record_of a) = omega (arith, sizes, length-record_of a one.has, length-record_of b two.has) in
    let same : record_of b ++ 0 ∷ replicate two.room 0 ≡ record_of a ++ 0 ∷ replicate one.room 0 = sym two.bytes ∙ one.bytes in
    let records : record_of b ≡ record_of a =
    sym (take_at (record_of b) (0 ∷ replicate two.room 0) (length (record_of a)) long) ∙ ap (λ (l : List ℕ). take (length (record_of a)) l) same
    ∙ take_at (record_of a) (0 ∷ replicate one.room 0) (length (record_of a)) refl in
    let payloads : payload b ≡ payload a = ap (λ (l : List ℕ). drop 4 l) records in
    (no_prefix a b [] one.has.has two.has.has (payloads ∙ sym (append-nil (payload a)))).0

-- so each entry that is reserved is of the version
pub reserved_of : (journal : Journal) (version : ℕ) (a b : Entry) → Reserves journal a → IsOf version a → Reserves journal b → IsOf version b
reserved_of journal version a b one of_version two = subst (IsOf version) (reserved_once journal a b one two) of_version
