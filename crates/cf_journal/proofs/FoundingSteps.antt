-- What the steps of founding leave.
use Rattle.std.proofs.Common.{◌≡◌, ◌≢◌, ◌⊎◌, inl, inr, ℕ, ◌<◌, ◌≤◌, List, [], ◌∷◌, ◌++◌, length, take, get_or, refl, sym, ◌∙◌, ap, subst, arith, append_assoc, Bool, true, false, Result, Ok, Err, IsOk, OnOk, nat_lt, ◌==◌, ◌&&◌, slice_index, w32}
use Rattle.cf_base.proofs.Common.{to_be_bytes, drop_all, append-nil, length-take, All-nil, cases_eq, cases_lt, nat_tests}
use Rattle.cf_chart.specs.Common.{chart_of}
use Rattle.cf_disk.specs.Images.{written, Torn, HalfCut, AddsNone}
use Rattle.cf_codec.specs.Entries.{IsOf}
use Rattle.cf_journal.specs.Records.{HasRecord}
use Rattle.cf_journal.specs.Frames.{is_founded}
use Rattle.cf_journal.specs.Layout.{head_of, front_of, IsValid, IsAtRest}
use Rattle.cf_journal.specs.Answers.{IsUnfoundedOr, IsCutFrom}
use Rattle.cf_journal.proofs.Lists.{torn_gate, written_behind}
use Rattle.cf_journal.proofs.RecordLaws.{records_none}
use Rattle.cf_journal.proofs.Layouts.{front_split, at_rest}

-- what follows from two facts at `Ok`
pub ok_both : {T E : Type 0} (r : Result T E) (A B C : Type 0) → OnOk r A → OnOk r B → (A → B → C) → OnOk r C
ok_both (Ok x) A B C a b f = f a b
ok_both (Err e) A B C a b f = tt

-- ---- what isn't founded

pub short_unfounded : (image : List ℕ) → length image ≤ 1 → is_founded (length image) image ≡ false
short_unfounded image short = let none : nat_lt 1 (length image) ≡ false = grind (arith, nat_tests) in ap (λ (b : Bool). b && (slice_index image 0 == 1)) none

other_gate : (a b : Bool) → b ≡ false → (a && b) ≡ false
other_gate true b unfounded = unfounded
other_gate false b unfounded = refl

pub closed_unfounded : (image : List ℕ) → get_or image 0 0 ≢ 1 → is_founded (length image) image ≡ false
closed_unfounded image shut = let unfounded : (get_or image 0 0 == 1) ≡ false = grind (arith, nat_tests) in other_gate (nat_lt 1 (length image)) (get_or image 0 0 == 1) unfounded

-- a file that isn't founded is short or its founding gate is closed
pub unfounded_is : (image : List ℕ) → is_founded (length image) image ≡ false → (length image ≤ 1) ⊎ (get_or image 0 0 ≢ 1)
unfounded_is image unfounded = elim (cases_lt 1 (length image)) [ inl long ↦ inr (λ is. absurd (both long is)) | inr short ↦ inl short ]
  where
    both : 1 < length image → get_or image 0 0 ≡ 1 → ⊥
    both long is =
        let a : nat_lt 1 (length image) ≡ true = grind (arith, nat_tests) in
        let b : (get_or image 0 0 == 1) ≡ true = grind (arith, nat_tests) in
        let yes : is_founded (length image) image ≡ true = ap (λ (x : Bool). x && (get_or image 0 0 == 1)) a ∙ b in
        cc (yes, unfounded)

-- ---- the cut

-- a crash in the cut of a file that isn't founded
pub cut_unfounded : (old image : List ℕ) → is_founded (length old) old ≡ false → HalfCut 1 old image → is_founded (length image) image ≡ false
cut_unfounded old image unfounded cut = elim (unfounded_is old unfounded) [
  | inl short ↦ short_unfounded image (omega (arith, cut.no_longer))
  | inr shut ↦ by_gate shut
]
  where
    by_gate : get_or old 0 0 ≢ 1 → is_founded (length image) image ≡ false
    by_gate shut = elim (cases_lt 0 (length old)) [
      | inl some ↦ let same : get_or image 0 0 ≡ get_or old 0 0 = cut.stays 0 (omega arith) some in closed_unfounded image (λ is. absurd (shut (sym same ∙ is)))
      | inr none ↦ short_unfounded image (omega (arith, cut.no_longer))
    ]

-- ---- the founding gate, what stands behind it, and the gate again

-- a write to the first byte of at most one
pub torn_first : (old image : List ℕ) → length old ≤ 1 → Torn 0 1 old image → is_founded (length image) image ≡ false
torn_first old image short torn = short_unfounded image (omega (arith, torn.no_longer))

pub first_written : (old new : List ℕ) → length old ≤ 1 → new ≡ written 0 (0 ∷ []) old → new ≡ 0 ∷ []
first_written old new short new_is = new_is ∙ ap (λ (l : List ℕ). 0 ∷ l) (drop_all 1 old short)

pub torn_body : (n : ℕ) (old image : List ℕ) → old ≡ 0 ∷ [] → Torn 1 n old image → is_founded (length image) image ≡ false
torn_body n old image old_is torn =
    let size : length old ≡ 1 = ap length old_is in
    let stays : get_or image 0 0 ≡ get_or old 0 0 = torn.stays 0 (omega (arith, size)) (inl (omega arith)) in
    let first : get_or image 0 0 ≡ 0 = stays ∙ ap (λ (l : List ℕ). get_or l 0 0) old_is in
    closed_unfounded image (λ is. absurd (omega (arith, first, is)))

pub body_written : (body old new : List ℕ) → old ≡ 0 ∷ [] → new ≡ written 1 body old → new ≡ 0 ∷ body
body_written body old new old_is new_is =
    new_is ∙ ap (λ (l : List ℕ). written 1 body l) old_is ∙ written_behind [] 0 [] body
    ∙ ap (λ (l : List ℕ). 0 ∷ (body ++ l)) (drop_all (length body) [] (omega arith)) ∙ ap (λ (l : List ℕ). 0 ∷ l) (append-nil body)

module _ (chart : List ℕ) (accepted : IsOk (chart_of chart)) (body : List ℕ) (body_is : body ≡ head_of 2 chart ++ 0 ∷ []) where
  valid : IsValid 2 chart []
  valid = record { accepted = accepted; records = All-nil HasRecord; of = All-nil (IsOf 2) }

  founded_is : 1 ∷ body ≡ front_of 2 chart [] ++ 0 ∷ []
  founded_is =
      ap (λ (l : List ℕ). 1 ∷ l) body_is
      ∙ ap (λ (l : List ℕ). 1 ∷ 2 ∷ l) (append_assoc (to_be_bytes w32 (length chart)) chart (0 ∷ []))
      ∙ ap (λ (l : List ℕ). 1 ∷ 2 ∷ (to_be_bytes w32 (length chart) ++ (chart ++ l))) (sym (records_none (0 ∷ [])))
      ∙ sym (front_split 2 chart [] (0 ∷ []))

  pub founded_at_rest : (image : List ℕ) → image ≡ 1 ∷ body → IsAtRest 2 chart [] image
  founded_at_rest image is = at_rest 2 2 (λ one. one) chart [] 0 [] image valid (omega arith) (is ∙ founded_is)

  -- a crash in the write that opens the founding gate
  pub torn_opening : (old image : List ℕ) → old ≡ 0 ∷ body → Torn 0 1 old image → IsUnfoundedOr chart image
  torn_opening old image old_is torn =
      let first = get_or image 0 0 in
      let is : image ≡ first ∷ body = torn_gate [] 0 body image (subst (λ (l : List ℕ). Torn 0 1 l image) old_is torn) in
      elim (cases_eq first 1) [
        | inl open_gate ↦ inr (founded_at_rest image (is ∙ ap (λ (g : ℕ). g ∷ body) open_gate)).recovers
        | inr shut ↦ inl (closed_unfounded image shut)
      ]

  pub opening_written : (old new : List ℕ) → old ≡ 0 ∷ body → new ≡ written 0 (1 ∷ []) old → IsAtRest 2 chart [] new
  opening_written old new old_is new_is = founded_at_rest new (new_is ∙ ap (λ (l : List ℕ). written 0 (1 ∷ []) l) old_is)

-- ---- images before the first sync

pub not_cut : (old : List ℕ → Type 0) (image : List ℕ) → old image → IsCutFrom old image
not_cut old image is = (image, is, record { stays = λ k short within. refl; no_shorter = omega arith; no_longer = omega arith })

pub cut_again : (old new : List ℕ → Type 0) → AddsNone old new → (image : List ℕ) → IsCutFrom new image → IsCutFrom old image
cut_again old new none image cut = (cut.0, none cut.0 cut.1, cut.2)

pub cut_short : (old new : List ℕ) → new ≡ take 1 old → length new ≤ 1
cut_short old new is = omega (arith, ap length is, length-take 1 old)

pub only_unfounded : (bytes image : List ℕ) → is_founded (length bytes) bytes ≡ false → image ≡ bytes → is_founded (length image) image ≡ false
only_unfounded bytes image unfounded is = ap (λ (l : List ℕ). is_founded (length l) l) is ∙ unfounded
