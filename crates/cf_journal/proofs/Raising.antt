-- What a raise to version 2 leaves.
use Rattle.std.proofs.Common.{◌≡◌, ◌≢◌, ℕ, ◌≤◌, List, [], ◌∷◌, ◌++◌, length, get_or, ◌∙◌, ap, subst, arith, w32}
use Rattle.cf_base.proofs.Common.{to_be_bytes}
use Rattle.cf_calls.specs.declared.entry.Entry.{Entry}
use Rattle.cf_disk.specs.Images.{written, Torn}
use Rattle.cf_journal.specs.Records.{records_of}
use Rattle.cf_journal.specs.Layout.{IsValid, IsAtRest}
use Rattle.cf_journal.proofs.Lists.{torn_gate, written_gate}
use Rattle.cf_journal.proofs.Layouts.{at_rest, valid_two}

-- a version that isn't 2 is 1
pub is_first : (version : ℕ) → (1 ≤ version) × (version ≤ 2) → version ≢ 2 → version ≡ 1
is_first version known other = omega (arith, known.0, known.1)

-- a crash in a write of the second byte leaves all but that
torn_second : (a b : ℕ) (rest image : List ℕ) → Torn 1 1 (a ∷ b ∷ rest) image → image ≡ a ∷ get_or image 1 0 ∷ rest
torn_second a b rest image torn = torn_gate (a ∷ []) b rest image torn

module _ (version : ℕ) (chart : List ℕ) (history : List Entry) (valid : IsValid version chart history) where
  -- what stands behind the byte of the version
  abbrev behind_byte : (image : List ℕ) → IsAtRest version chart history image → List ℕ
  behind_byte image rest = ((to_be_bytes w32 (length chart) ++ chart) ++ records_of history) ++ rest.gate ∷ rest.behind

  -- a crash in the write of the version leaves any byte there, each of which gives a grammar that
  -- has the history
  pub torn_raise : version ≡ 1 → (earlier image : List ℕ) → IsAtRest version chart history earlier → Torn 1 1 earlier image → IsAtRest version chart history image
  torn_raise first earlier image rest torn =
      let torn' : Torn 1 1 (1 ∷ rest.byte ∷ behind_byte earlier rest) image = subst (λ (old : List ℕ). Torn 1 1 old image) rest.layout torn in
      at_rest version (get_or image 1 0) (λ one. first) chart history rest.gate rest.behind image valid rest.closed (torn_second 1 rest.byte (behind_byte earlier rest) image torn')

  -- the version that is written
  pub raised : (old new : List ℕ) → IsAtRest version chart history old → new ≡ written 1 (2 ∷ []) old → IsAtRest 2 chart history new
  raised old new rest new_is =
      at_rest 2 2 (λ one. one) chart history rest.gate rest.behind new (valid_two version chart history valid) rest.closed
      (new_is ∙ ap (λ (l : List ℕ). written 1 (2 ∷ []) l) rest.layout ∙ written_gate (1 ∷ []) rest.byte (behind_byte old rest) 2)
