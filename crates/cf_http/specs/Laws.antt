-- What holds of all texts on a link.
use Rattle.std.specs.Prelude.{◌≡◌, ◌⊎◌, ℕ, ◌<◌, List, [], ◌++◌, length}
use Rattle.httparse.specs.Grammar.{RequestHead, ReadsRequest, EndsInTarget}
use Rattle.cf_http_heads.specs.Heads.{IsNoHead, IsOpenHead}
use Rattle.cf_http.specs.Talk.{Message, BeginsWith}

-- the text is a front of a head with more than 64 fields
abbrev pub EndsPastFields : List ℕ → Type 0
EndsPastFields text = (more : List ℕ) × (h : RequestHead) × ReadsRequest (text ++ more) h []
    × (64 < length h.fields)

-- A text at the end of the input can be both refused and cut only where it ends inside its target,
-- or past 64 fields.
abbrev pub OnlyTwoChoices : Type 0
OnlyTwoChoices = (text : List ℕ) → IsNoHead text → IsOpenHead text
    → EndsInTarget text ⊎ EndsPastFields text

-- a text begins with one request at most, and then with one rest
abbrev pub OneRequest : Type 0
OneRequest = (text : List ℕ) (m n : Message) (a : BeginsWith text m) (b : BeginsWith text n)
    → (m ≡ n) × (a.rest ≡ b.rest)
