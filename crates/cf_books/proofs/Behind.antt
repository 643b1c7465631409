-- An entry that is looked for by its place in the file.
use Rattle.std.proofs.Common.{◌≡◌, ◌+◌, ◌-◌, ℕ, zero, suc, List, ◌∷◌, refl}
use Rattle.cf_model.specs.Common.{Entry}
use Rattle.cf_journal.specs.Records.{record_len}
use Rattle.cf_books.specs.Answers.{entry_behind}

-- or it stands behind that
pub behind_more : (n place : ℕ) (e : Entry) (later es : List Entry) → (n ≡ 0 → ⊥) → es ≡ e ∷ later → entry_behind n place es ≡ entry_behind (n - record_len e) (place + 1) later
behind_more zero place e later es some split = absurd (some refl)
behind_more (suc n) place e later es some split = rw split refl
