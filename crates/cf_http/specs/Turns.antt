-- What one answer does to a link.
use Rattle.std.specs.Prelude.{◌≡◌, ◌⊎◌, ℕ, List, Bool, true, false, Option, Some, None, Result, Ok, Err}
use Rattle.std.specs.Io.KnownBytes.{Appends}
use Rattle.cf_http_heads.specs.Answers.{answer_bytes, memory_answer}
use Rattle.cf_http.specs.Asking.{Rule, IsAnswerCode}
use Rattle.cf_http.specs.Serving.{Gave}
use Rattle.cf_http_heads.specs.declared.route.Route.{Route}
use Rattle.cf_http.specs.Links.{SentFront, LinkTells}
use Rattle.cf_http.specs.declared.end.LinkEnd.{LinkEnd}
use Rattle.cf_http.specs.declared.end.LinkEnd.TheVariants as end

-- an answer was sent, or a front of it; then the link is closed, or stays open
abbrev pub IsFinished : {E : Type 0} → Result (Unit {0}) E → Bool → Option LinkEnd → Type 0
IsFinished (Err e) closes how = how ≡ Some end.WriteFault
IsFinished (Ok u) true how = how ≡ Some end.Closed
IsFinished (Ok u) false how = how ≡ None

-- an answer was sent, and the link stays open, or is closed after it; or a front of it was sent
pub data Said (old new : LinkTells) (answer : List ℕ) (closes : Bool) : Option LinkEnd
    → Type 0 where
  stays : closes ≡ false → Appends old.output.sent new.output.sent answer
      → Said old new answer closes None
  closed : closes ≡ true → Appends old.output.sent new.output.sent answer
      → Said old new answer closes (Some end.Closed)
  fault : SentFront old.output.sent new.output.sent answer
      → Said old new answer closes (Some end.WriteFault)

-- the answer where there is no memory was sent, or a front of it
abbrev pub SaidNoMemory : LinkTells → LinkTells → LinkEnd → Type 0
SaidNoMemory old new how = ((how ≡ end.NoMemory) ⊎ (how ≡ end.WriteFault))
    × Gave how old new memory_answer

-- the answerer answered a request, or there was no memory, before it was asked or for its answer
pub data Told {A : Type 0} (rule : Rule A) (before : A) (old new : LinkTells) (route : Route)
    (body : List ℕ) (closes : Bool) : A → Option LinkEnd → Type 0 where
  told : (code : ℕ) (text : List ℕ) (after : A) (how : Option LinkEnd) → IsAnswerCode code
      → rule before (record { route = route; body = body }) (Some (code, text)) after
      → Said old new (answer_bytes code None closes false text) closes how
      → Told rule before old new route body closes after how
  no_room : (how : LinkEnd) → SaidNoMemory old new how
      → Told rule before old new route body closes before (Some how)
  no_memory : (after : A) (how : LinkEnd)
      → rule before (record { route = route; body = body }) None after → SaidNoMemory old new how
      → Told rule before old new route body closes after (Some how)
