-- What the steps of a server do on a link.
use Rattle.std.specs.Prelude.{◌≡◌, ℕ, ◌<◌, List, [], ◌++◌, length, All, Bool, true, Option, ⊤}
use Rattle.std.specs.List.{flat_map}
use Rattle.std.specs.Io.KnownBytes.{Appends}
use Rattle.cf_http.specs.declared.end.LinkEnd.{LinkEnd}
use Rattle.cf_http.specs.declared.end.LinkEnd.TheVariants as end
use Rattle.cf_http.specs.Asking.{Rule}
use Rattle.cf_http_heads.specs.Answers.{joined}
use Rattle.cf_http_heads.specs.Heads.{IsOpenHead}
use Rattle.cf_http.specs.Links.{LinkRead, LinkTells, FaultsOf, ReadsEach, SentFront, read_now}
use Rattle.cf_http.specs.Talk.{Message, message_bytes, IsMessage, Talk, IsCut, IsOpenText, Last}

-- an answerer, and what its link tells of the bytes that came and of those that it took
pub record Moment (A : Type 0) : Type 0 where
  pub answerer : A
  pub received : Option (List ℕ)
  pub sent : Option (List ℕ)

abbrev pub moment_of : {A : Type 0} → A → LinkRead → Moment A
moment_of answerer passed =
    record { answerer = answerer; received = passed.received; sent = passed.sent }

abbrev pub moment_now : {A : Type 0} → A → LinkTells → Moment A
moment_now answerer link = moment_of answerer (read_now link)

-- so many requests came and were answered, each leaving the link open
pub record Went {A : Type 0} (rule : Rule A) (old : Moment A) (text_old : List ℕ) (new : Moment A)
    (text_new : List ℕ) (count : ℕ) : Type 0 where
  pub came : List ℕ
  pub messages : List Message
  pub answers : List (List ℕ)
  pub received : Appends old.received new.received came
  pub joins : text_old ++ came ≡ flat_map message_bytes messages ++ text_new
  pub each : All IsMessage messages
  pub counted : length messages ≡ count
  pub talk : Talk rule old.answerer messages answers new.answerer
  pub sent : Appends old.sent new.sent (joined answers)

-- A read was asked in its turn: each request that had come whole was answered, each answer was sent
-- whole, and nothing else was. What had come behind these requests has no whole request at its
-- front.
pub record ReadInTurn {A : Type 0} (rule : Rule A) (start : Moment A)
    (read : LinkRead) : Type 0 where
  pub middle : A
  pub rest : List ℕ
  pub count : ℕ
  pub went : Went rule start [] (moment_of middle read) rest count
  pub is_open : IsOpenText rest

-- all of the last answer was sent, or a front of it where a write failed
abbrev pub Gave : LinkEnd → LinkTells → LinkTells → List ℕ → Type 0
Gave end.Closed old new bytes = Appends old.output.sent new.output.sent bytes
Gave end.Cut old new bytes = Appends old.output.sent new.output.sent bytes
Gave end.ReadFault old new bytes = Appends old.output.sent new.output.sent bytes
Gave end.WriteFault old new bytes = SentFront old.output.sent new.output.sent bytes
Gave end.Limit old new bytes = Appends old.output.sent new.output.sent bytes
Gave end.NoMemory old new bytes = Appends old.output.sent new.output.sent bytes

-- 1,000,000 answers leave it open only at the limit
abbrev pub IsCounted : LinkEnd → ℕ → Type 0
IsCounted end.Closed count = count < 1000000
IsCounted end.Cut count = count < 1000000
IsCounted end.ReadFault count = count < 1000000
IsCounted end.WriteFault count = count < 1000000
IsCounted end.Limit count = count ≡ 1000000
IsCounted end.NoMemory count = count < 1000000

-- A link was served: the bytes that came are requests that left it open, one after another, and a
-- rest; their answers were sent, and then it ended over the rest.
pub record Served {A : Type 0} (rule : Rule A) (before after : A) (old new : LinkTells)
    (how : LinkEnd) : Type 0 where
  pub came : List ℕ
  pub messages : List Message
  pub rest : List ℕ
  pub answers : List (List ℕ)
  pub last : List ℕ
  pub middle : A
  pub received : Appends old.input.received new.input.received came
  pub joins : came ≡ flat_map message_bytes messages ++ rest
  pub each : All IsMessage messages
  pub counted : IsCounted how (length messages)
  pub talk : Talk rule before messages answers middle
  pub ends : Last rule middle rest new.input.ended how last after
  pub sent : Gave how old new (joined answers ++ last)

-- A link was served, each read was asked in its turn, and a fault of the link is told by how it
-- ended, and by one count.
pub record Serves {A : Type 0} (rule : Rule A) (before after : A) (old new : LinkTells)
    (how : LinkEnd) : Type 0 where
  pub served : Served rule before after old new how
  pub turns : ReadsEach (ReadInTurn rule (moment_now before old)) old.input.reads new.input.reads
  pub faults : FaultsOf old new how

-- why no head came
abbrev pub NoneCame : List ℕ → Bool → LinkEnd → Type 0
NoneCame text ended end.Closed = (text ≡ []) × (ended ≡ true)
NoneCame text ended end.Cut = IsCut text × (ended ≡ true)
NoneCame text ended end.ReadFault = IsOpenHead text
NoneCame text ended end.WriteFault = ⊥
NoneCame text ended end.Limit = ⊥
NoneCame text ended end.NoMemory = ⊥

-- why no whole body came
abbrev pub IsBodyStop : ℕ → List ℕ → Bool → LinkEnd → Type 0
IsBodyStop need text ended end.Closed = ⊥
IsBodyStop need text ended end.Cut = (length text < need) × (ended ≡ true)
IsBodyStop need text ended end.ReadFault = length text < need
IsBodyStop need text ended end.WriteFault = ⊥
IsBodyStop need text ended end.Limit = ⊥
IsBodyStop need text ended end.NoMemory = ⊥

-- what follows an answer that isn't the last one of a limit
abbrev pub IsAfterAnswer : LinkEnd → Type 0
IsAfterAnswer end.Closed = ⊤
IsAfterAnswer end.Cut = ⊥
IsAfterAnswer end.ReadFault = ⊥
IsAfterAnswer end.WriteFault = ⊤
IsAfterAnswer end.Limit = ⊥
IsAfterAnswer end.NoMemory = ⊤
