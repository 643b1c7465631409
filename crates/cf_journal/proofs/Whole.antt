-- A whole file, as it is opened.
use Rattle.std.proofs.Common.{◌≡◌, inl, inr, ⊎_elim, ℕ, ◌+◌, ◌-◌, ◌≤◌, List, ◌∷◌, ◌++◌, length, take, drop, refl, sym, ◌∙◌, ap, arith, length-drop, take-append-drop, Bool, false, Result, Ok, Err, IsOk, IsErr, is_ok, if◌then◌else◌, slice_index, w32}
use Rattle.cf_base.proofs.Common.{to_be_bytes, take_all, drop-drop, length-take-le}
use Rattle.cf_calls.specs.declared.entry.Entry.{Entry}
use Rattle.cf_chart.specs.Common.{chart_of}
use Rattle.cf_disk.specs.Images.{AddsNone}
use Rattle.cf_disk.specs.Moments.{Advances, AtEachMoment}
use Rattle.cf_journal.specs.Records.{entries_from, records_of}
use Rattle.cf_journal.specs.Frames.{version_by, stated_head, with_chart, behind_head, frames}
use Rattle.cf_journal.specs.Layout.{IsValid, IsAtRest}
use Rattle.cf_journal.specs.Answers.{GivesChart, GivesEntries, EndsAt, Opens}
use Rattle.cf_journal.specs.declared.refused.OpenRefused.{OpenRefused}
use Rattle.cf_journal.specs.declared.refused.OpenRefused.TheVariants.{Disk, NotFounded, Damaged, NoMemory}
use Rattle.cf_journal.proofs.Layouts.{front_split, at_rest}
use Rattle.cf_journal.proofs.Moments.{weaken, both}

-- a call that adds no image
pub still : {D : Type 0} (moment : D → ℕ) (is_image : D → List ℕ → Type 0) (was_image : D → ℕ → List ℕ → Type 0) → ((d : D) (image : List ℕ) → was_image d (moment d) image → is_image d image)
    → (old new : D) → Advances moment is_image was_image old new → AddsNone (is_image old) (is_image new) → AtEachMoment moment was_image old new (is_image old)
still moment is_image was_image only old new time none = record {
  later = time.later;
  images = λ image was. ⊎_elim (only old image) (none image) (time.no_more (moment old) image (omega arith) was);
  since = λ t image le was. ⊎_elim (λ before. inl before) (λ now. inr (none image now)) (time.no_more t image le was);
}

-- three of them, one after another
pub still_thrice : {D : Type 0} (moment : D → ℕ) (is_image : D → List ℕ → Type 0) (was_image : D → ℕ → List ℕ → Type 0) → ((d : D) (image : List ℕ) → was_image d (moment d) image → is_image d image)
    → (a b c d : D) → Advances moment is_image was_image a b → AddsNone (is_image a) (is_image b) → Advances moment is_image was_image b c → AddsNone (is_image b) (is_image c)
    → Advances moment is_image was_image c d → AddsNone (is_image c) (is_image d) → AtEachMoment moment was_image a d (is_image a)
still_thrice moment is_image was_image only a b c d time_b none_b time_c none_c time_d none_d =
    let first = still moment is_image was_image only a b time_b none_b in
    let second = weaken moment was_image b c (is_image b) (is_image a) (still moment is_image was_image only b c time_c none_c) none_b in
    let third = weaken moment was_image c d (is_image c) (is_image a) (still moment is_image was_image only c d time_d none_d) (λ image is. none_b image (none_c image is)) in
    both moment was_image a b d (is_image a) first (both moment was_image b c d (is_image a) second third)

-- a head, a chart and records, as they were read one after another
module _ (version : ℕ) (bytes chart records : List ℕ) (n len : ℕ) (sizes : len ≡ length bytes) (within : 7 + n ≤ len) (chart_is : chart ≡ take n (drop 6 bytes)) (records_are : records ≡ take (len - (6 + n)) (drop (6 + n) bytes)) where
  pub all_records : records ≡ drop (6 + n) bytes
  all_records = records_are ∙ take_all (len - (6 + n)) (drop (6 + n) bytes) (omega (arith, length-drop (6 + n) bytes, sizes))

  pub length-chart : length chart ≡ n
  length-chart = ap length chart_is ∙ length-take-le n (drop 6 bytes) (omega (arith, length-drop 6 bytes, sizes, within))

  -- what the bytes stand for
  pub frames_read : stated_head (length bytes) (take 6 bytes) ≡ Ok (version, n) → IsOk (chart_of chart) → frames bytes ≡ with_chart chart (entries_from version 0 (6 + n) records)
  frames_read head accepted =
      ap (λ (r : Result (ℕ × ℕ) OpenRefused). behind_head r bytes) head
      ∙ ap (λ (c : List ℕ). if is_ok (chart_of c) then with_chart c (entries_from version 0 (6 + n) (drop (6 + n) bytes)) else Err (Damaged 6)) (sym chart_is)
      ∙ ap (λ (b : Bool). if b then with_chart chart (entries_from version 0 (6 + n) (drop (6 + n) bytes)) else Err (Damaged 6)) accepted
      ∙ ap (λ (l : List ℕ). with_chart chart (entries_from version 0 (6 + n) l)) (sym all_records)

  -- how they lie
  pub whole_at_rest : version ≡ version_by (slice_index (take 6 bytes) 1) → take 6 bytes ≡ 1 ∷ slice_index (take 6 bytes) 1 ∷ to_be_bytes w32 n → IsOk (chart_of chart)
      → (entries : List Entry) (place : ℕ) → EndsAt version (6 + n) records entries place → IsAtRest version chart entries bytes
  whole_at_rest version_is head accepted entries place ends =
      let byte = slice_index (take 6 bytes) 1 in
      let valid : IsValid version chart entries = record { accepted = accepted; records = ends.all; of = ends.of } in
      let behind : drop 6 bytes ≡ chart ++ records =
      sym (take-append-drop n (drop 6 bytes)) ∙ ap (λ (l : List ℕ). l ++ drop n (drop 6 bytes)) (sym chart_is) ∙ ap (λ (l : List ℕ). chart ++ l) (drop-drop n 6 bytes ∙ sym all_records) in
      let whole : bytes ≡ 1 ∷ byte ∷ (to_be_bytes w32 (length chart) ++ (chart ++ (records_of entries ++ ends.gate ∷ ends.behind))) =
      sym (take-append-drop 6 bytes)
      ∙ ap (λ (l : List ℕ). l ++ drop 6 bytes) (head ∙ ap (λ (k : ℕ). 1 ∷ byte ∷ to_be_bytes w32 k) (sym length-chart))
      ∙ ap (λ (l : List ℕ). 1 ∷ byte ∷ (to_be_bytes w32 (length chart) ++ l)) (behind ∙ ap (λ (l : List ℕ). chart ++ l) ends.layout) in
      at_rest version byte (λ is. version_is ∙ ap version_by is) chart entries ends.gate ends.behind bytes valid ends.closed (whole ∙ sym (front_split byte chart entries (ends.gate ∷ ends.behind)))

-- ---- a chart that is refused

is_err-false : {A E : Type 0} (r : Result A E) → IsErr r → is_ok r ≡ false
is_err-false (Ok a) err = absurd (cc err)
is_err-false (Err e) err = refl

pub frames_refused : (version : ℕ) (bytes chart : List ℕ) (n : ℕ) → chart ≡ take n (drop 6 bytes) → stated_head (length bytes) (take 6 bytes) ≡ Ok (version, n) → IsErr (chart_of chart) → frames bytes ≡ Err (Damaged 6)
frames_refused version bytes chart n chart_is head refused =
    let unaccepted : is_ok (chart_of (take n (drop 6 bytes))) ≡ false = ap (λ (c : List ℕ). is_ok (chart_of c)) (sym chart_is) ∙ is_err-false (chart_of chart) refused in
    ap (λ (r : Result (ℕ × ℕ) OpenRefused). behind_head r bytes) head
    ∙ ap (λ (b : Bool). if b then with_chart (take n (drop 6 bytes)) (entries_from version 0 (6 + n) (drop (6 + n) bytes)) else Err (Damaged 6)) unaccepted

-- a refusal of the chart is one of the whole
pub refuses_whole : {A E : Type 0} (e : OpenRefused) (read : Result A E) (whole : Result (List ℕ × List Entry) OpenRefused) → GivesChart (Err e) read → (IsErr read → whole ≡ Err (Damaged 6)) → Opens (Err e) whole
refuses_whole NoMemory read whole gives refused = tt
refuses_whole Disk read whole gives refused = tt
refuses_whole (NotFounded len byte) read whole gives refused = absurd (cc (gives.0))
refuses_whole (Damaged offset) read whole gives refused = refused gives.1 ∙ ap (λ (x : OpenRefused). Err x) (sym gives.0)

-- ---- an open gate with no entry behind it

pub refused_records : (e : OpenRefused) (version first : ℕ) (chart records : List ℕ) (whole : Result (List ℕ × List Entry) OpenRefused) → whole ≡ with_chart chart (entries_from version 0 first records)
    → GivesEntries (Err e) version first records → Opens (Err e) whole
refused_records NoMemory version first chart records whole is gives = tt
refused_records Disk version first chart records whole is gives = tt
refused_records (NotFounded len byte) version first chart records whole is gives = absurd gives
refused_records (Damaged at) version first chart records whole is gives = is ∙ ap (with_chart chart) gives
