-- Pieces that are appended one after another.
use Rattle.std.proofs.Common.{◌≡◌, ℕ, List, [], ◌∷◌, ◌++◌, append_assoc, ◌∙◌, sym}
use Rattle.cf_base.proofs.Common.{append-nil}
use Rattle.cf_http_heads.specs.Answers.{joined}

-- a piece more
pub joined_more : (old : List ℕ) (t : List ℕ) (ts : List (List ℕ)) (new : List ℕ) → new ≡ (old ++ t) ++ joined ts → new ≡ old ++ joined (t ∷ ts)
joined_more old t ts new e = e ∙ append_assoc old t (joined ts)

pub joined_none : (old new : List ℕ) → new ≡ old → new ≡ old ++ joined []
joined_none old new e = e ∙ sym (append-nil old)
