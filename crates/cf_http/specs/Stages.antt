-- What the steps of a server do to the link that it serves, and to what came on it.
use Rattle.std.specs.Prelude.{◌≡◌, ℕ, List, ◌++◌, false}
use Rattle.std.specs.Io.KnownBytes.{Appends}
use Rattle.cf_http.specs.Asking.{Rule}
use Rattle.cf_http.specs.Links.{LinkRead, LinkTells, ReadsEach, OnlySends, read_now}
use Rattle.cf_http.specs.Serving.{Gave, Went, moment_now}
use Rattle.cf_http.specs.Talk.{Message, message_bytes, IsMessage, closes, Answers, Last}
use Rattle.cf_http.specs.declared.end.LinkEnd.{LinkEnd}

-- a link that is served: what it tells, and the bytes that came and were not used yet
pub record Stage : Type 0 where
  pub link : LinkTells
  pub text : List ℕ

-- bytes came behind those that were not used
pub record Came (old new : Stage) : Type 0 where
  pub came : List ℕ
  pub received : Appends old.link.input.received new.link.input.received came
  pub joins : new.text ≡ old.text ++ came

-- a read was asked when some bytes had come behind the text, over which it waits for more, and
-- nothing was sent since
pub record ReadOver (waits : List ℕ → Type 0) (old : Stage) (read : LinkRead) : Type 0 where
  pub came : List ℕ
  pub received : Appends old.link.input.received read.received came
  pub sent : read.sent ≡ old.link.output.sent
  pub is_open : waits (old.text ++ came)

-- each read that was asked since was such a read
abbrev pub ReadsOver : (List ℕ → Type 0) → Stage → Stage → Type 0
ReadsOver waits old new = ReadsEach (ReadOver waits old) old.link.input.reads new.link.input.reads

-- each read that was asked since was asked as the link stood before
abbrev pub ReadsNow : Stage → Stage → Type 0
ReadsNow old new = ReadsEach
    (λ read. read ≡ read_now old.link) old.link.input.reads new.link.input.reads

-- nothing came, and what came before is not used
abbrev pub OnlyAnswers : Stage → Stage → Type 0
OnlyAnswers old new = OnlySends old.link new.link × (new.text ≡ old.text)

-- the link ends over the text
pub record EndsOver {A : Type 0} (rule : Rule A) (before after : A) (old new : Stage)
    (how : LinkEnd) : Type 0 where
  pub last : List ℕ
  pub ends : Last rule before old.text new.link.input.ended how last after
  pub gave : Gave how old.link new.link last

-- bytes came, and then the link ends
pub record Stops {A : Type 0} (rule : Rule A) (before after : A) (old new : Stage)
    (how : LinkEnd) : Type 0 where
  pub came : List ℕ
  pub received : Appends old.link.input.received new.link.input.received came
  pub over : EndsOver rule before after (record old { text = old.text ++ came }) new how

-- the first request of the text was answered, and left the link open
pub record Replied {A : Type 0} (rule : Rule A) (before after : A) (old new : Stage) : Type 0 where
  pub message : Message
  pub answer : List ℕ
  pub is_message : IsMessage message
  pub joins : old.text ≡ message_bytes message ++ new.text
  pub stays : closes message ≡ false
  pub answers : Answers rule before message answer after
  pub sent : Appends old.link.output.sent new.link.output.sent answer

-- so many requests came and were answered, each leaving the link open
abbrev pub GoesOn : {A : Type 0} → Rule A → A → A → Stage → Stage → ℕ → Type 0
GoesOn rule before after old new =
    Went rule (moment_now before old.link) old.text (moment_now after new.link) new.text
