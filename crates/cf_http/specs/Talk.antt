-- The talk on a link: requests and their answers.
use Rattle.std.specs.Prelude.{◌≡◌, ◌⊎◌, ℕ, ◌<◌, List, [], ◌∷◌, ◌++◌, length, Bool, true, false, Some, None, Ok, Err}
use Rattle.httparse.specs.Grammar.{RequestHead, print_request, ReadsRequest}
use Rattle.cf_http_heads.specs.declared.fields.Refusal.{Refusal}
use Rattle.cf_http_heads.specs.declared.fields.Refusal.TheVariants as refusal
use Rattle.cf_http_heads.specs.declared.route.Route.{Route}
use Rattle.cf_http_heads.specs.declared.route.Miss.{Miss}
use Rattle.cf_http.specs.declared.request.Request.{Request}
use Rattle.cf_http.specs.declared.end.LinkEnd.{LinkEnd}
use Rattle.cf_http.specs.declared.end.LinkEnd.TheVariants as end
use Rattle.cf_http.specs.Asking.{Rule, IsAnswerCode}
use Rattle.cf_http_heads.specs.Heads.{IsHead, IsNoHead, IsOpenHead, heading_of}
use Rattle.cf_http_heads.specs.Answers.{answer_bytes, refusal_answer, miss_answer, memory_answer}

-- a request as it comes: its head, and the body that the head states
pub record Message : Type 0 where
  pub head : RequestHead
  pub body : List ℕ

abbrev pub message_bytes : Message → List ℕ
message_bytes m = print_request m.head ++ m.body

pub record IsMessage (m : Message) : Type 0 where
  pub head : IsHead m.head
  pub body : (heading_of m.head).body ≡ Ok (length m.body)

-- the text begins with this request
pub record BeginsWith (text : List ℕ) (m : Message) : Type 0 where
  pub is_message : IsMessage m
  pub rest : List ℕ
  pub joins : text ≡ message_bytes m ++ rest

-- whether the link is to be closed after it
abbrev pub closes : Message → Bool
closes m = (heading_of m.head).closes

abbrev pub request_of : Route → Message → Request
request_of route m = record { route = route; body = m.body }

-- how a request is answered: one that goes nowhere by the door itself, and any other as the
-- answerer answers it
pub data Answers {A : Type 0} (rule : Rule A) (before : A) (m : Message) : List ℕ → A → Type 0 where
  missed : (miss : Miss) → (heading_of m.head).ask ≡ Err miss
      → Answers rule before m (miss_answer (heading_of m.head).is_head (closes m) miss) before
  told : (route : Route) (code : ℕ) (body : List ℕ) (after : A) → (heading_of m.head).ask ≡ Ok route
      → IsAnswerCode code
      → rule before (request_of route m) (Some (code, body)) after
      → Answers rule before m (answer_bytes code None (closes m) false body) after

-- requests that leave the link open, answered one after another
abbrev pub Talk : {A : Type 0} → Rule A → A → List Message → List (List ℕ) → A → Type 0
Talk rule before [] [] after = after ≡ before
Talk rule before [] (a ∷ answers) after = ⊥
Talk rule before (m ∷ ms) [] after = ⊥
Talk rule before (m ∷ ms) (a ∷ answers) after =
    (middle : _) × (closes m ≡ false) × Answers rule before m a middle
    × Talk rule middle ms answers after

-- the text breaks off inside a body
pub record IsOpenBody (text : List ℕ) : Type 0 where
  pub head : RequestHead
  pub part : List ℕ
  pub stated : ℕ
  pub is_head : IsHead head
  pub reads : ReadsRequest text head part
  pub states : (heading_of head).body ≡ Ok stated
  pub short : length part < stated

-- the text breaks off inside a head or a body
abbrev pub IsCut : List ℕ → Type 0
IsCut text = ((0 < length text) × IsOpenHead text) ⊎ IsOpenBody text

-- the text has no whole request at its front: it is nothing, or breaks off inside a head or a body
abbrev pub IsOpenText : List ℕ → Type 0
IsOpenText text = (text ≡ []) ⊎ IsCut text

-- the head at the front of the text is refused
pub record IsRefused (text : List ℕ) (head : RequestHead) (why : Refusal) : Type 0 where
  pub is_head : IsHead head
  pub rest : List ℕ
  pub reads : ReadsRequest text head rest
  pub refuses : (heading_of head).body ≡ Err why

-- the last answer on a link, after which it is closed
pub data LastAnswer {A : Type 0} (rule : Rule A) (before : A) (text : List ℕ) : LinkEnd → List ℕ → A
    → Type 0 where
  no_head : IsNoHead text
      → LastAnswer rule before text end.Closed (refusal_answer false refusal.Head) before
  refused : (head : RequestHead) (why : Refusal) → IsRefused text head why
      → LastAnswer rule before text end.Closed (refusal_answer (heading_of head).is_head why) before
  closing : (m : Message) (answer : List ℕ) (after : A) → BeginsWith text m → closes m ≡ true
      → Answers rule before m answer after → LastAnswer rule before text end.Closed answer after
  -- there is no memory: for the link, where no byte waits; to take a whole request that goes
  -- somewhere; or to answer it
  no_link : text ≡ [] → LastAnswer rule before text end.NoMemory memory_answer before
  no_room : (m : Message) (route : Route) → BeginsWith text m → (heading_of m.head).ask ≡ Ok route
      → LastAnswer rule before text end.NoMemory memory_answer before
  no_memory : (m : Message) (route : Route) (after : A) → BeginsWith text m
      → (heading_of m.head).ask ≡ Ok route
      → rule before (request_of route m) None after
      → LastAnswer rule before text end.NoMemory memory_answer after

-- how a link ends that has been left open so far, over the bytes that were not used: what is
-- answered last, and the answerer after
pub data Last {A : Type 0} (rule : Rule A) (before : A) (text : List ℕ) (ended : Bool) : LinkEnd
    → List ℕ → A → Type 0 where
  between : text ≡ [] → ended ≡ true → Last rule before text ended end.Closed [] before
  cut : IsCut text → ended ≡ true → Last rule before text ended end.Cut [] before
  answered : (how : LinkEnd) (answer : List ℕ) (after : A)
      → LastAnswer rule before text how answer after → Last rule before text ended how answer after
  limit : Last rule before text ended end.Limit [] before
  -- what came before the fault is nothing, or breaks off inside a request
  read_fault : IsOpenText text → Last rule before text ended end.ReadFault [] before
  -- a front of the answer was sent
  unsent_last : (how : LinkEnd) (answer : List ℕ) (after : A)
      → LastAnswer rule before text how answer after
      → Last rule before text ended end.WriteFault answer after
  unsent : (m : Message) (answer : List ℕ) (after : A) → BeginsWith text m → closes m ≡ false
      → Answers rule before m answer after
      → Last rule before text ended end.WriteFault answer after
