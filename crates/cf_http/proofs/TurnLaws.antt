-- What one answer does.
use Rattle.std.proofs.Common.{◌≡◌, ◌⊎◌, ℕ, List, ◌++◌, Bool, true, false, Option, Some, None, Result, Ok, Err, inl, inr, IfSome, take, drop, length, ◌+◌, ◌≤◌, ◌∙◌, append_assoc, length-drop, arith, subst, sym, ap, refl}
use Rattle.cf_base.proofs.Common.{take-append-drop, drop-drop, length-take-le, none-some}
use Rattle.httparse.specs.Grammar.{print_request}
use Rattle.cf_http.specs.Links.{Sends, LinkTells}
use Rattle.cf_http.specs.declared.end.LinkEnd.{LinkEnd}
use Rattle.cf_http.specs.declared.end.LinkEnd.TheVariants as end
use Rattle.cf_http.specs.Turns.{IsFinished, Said, stays, closed, fault, SaidNoMemory, Told}
use Rattle.cf_http.specs.Turns as turn
use Rattle.cf_http_heads.specs.Answers.{memory_answer, miss_answer, answer_bytes, refusal_answer}
use Rattle.cf_http.specs.Asking.{Rule, IsAnswerCode}
use Rattle.cf_http_heads.specs.Heads.{BeginsWithHead}
use Rattle.cf_http.specs.Talk.{Message, message_bytes, IsMessage, BeginsWith, closes, Answers, missed, told, LastAnswer, Last, refused, closing, no_room, no_memory, answered, unsent, unsent_last}
use Rattle.cf_http.specs.Serving.{Gave, IsAfterAnswer}
use Rattle.cf_http.specs.Stages.{Stage, EndsOver, Replied}
use Rattle.cf_http_heads.specs.declared.head.Heading.{Heading}
use Rattle.cf_http_heads.specs.Routes.{IsRouteInForm}
use Rattle.cf_http_heads.specs.declared.route.Route.{Route}
use Rattle.cf_http_heads.proofs.RouteLaws.{ask_in_form}
use Rattle.cf_http_heads.specs.declared.route.Miss.{Miss}
use Rattle.cf_http_heads.specs.declared.fields.Refusal.{Refusal}

pub said_by : {E : Type 0} (old new : LinkTells) (answer : List ℕ) (sent : Result (Unit {0}) E) (closes : Bool) (how : Option LinkEnd)
    → IsFinished sent closes how → Sends old new answer sent → Said old new answer closes how
said_by old new answer (Err e) closes how f s = subst (Said old new answer closes) (sym f) (fault s.err)
said_by old new answer (Ok u) true how f s = subst (Said old new answer true) (sym f) (closed refl s.ok)
said_by old new answer (Ok u) false how f s = subst (Said old new answer false) (sym f) (stays refl s.ok)

-- ---- the request at the front of a text

abbrev pub message_at : (text : List ℕ) (heading : Heading) → BeginsWithHead text heading → ℕ → Message
message_at text heading b n = record { head = b.head; body = take n (drop heading.length text) }

pub is_message_at : (text : List ℕ) (heading : Heading) (b : BeginsWithHead text heading) (n : ℕ) → heading.body ≡ Ok n → heading.length + n ≤ length text → IsMessage (message_at text heading b n)
is_message_at text heading b n states whole = record {
  head = b.is_head;
  body = sym (ap (λ (x : Heading). x.body) b.asks) ∙ states ∙ ap Ok (sym (length-take-le n (drop heading.length text) (omega (arith, length-drop heading.length text, whole))));
}

pub joins_at : (text : List ℕ) (heading : Heading) (b : BeginsWithHead text heading) (n : ℕ) → text ≡ message_bytes (message_at text heading b n) ++ drop (heading.length + n) text
joins_at text heading b n =
    b.reads.1 ∙ ap (λ t. print_request b.head ++ t) (sym (take-append-drop n (drop heading.length text)) ∙ ap (λ t. take n (drop heading.length text) ++ t) (drop-drop n heading.length text))
    ∙ sym (append_assoc (print_request b.head) (take n (drop heading.length text)) (drop (heading.length + n) text))

begins_at : (text : List ℕ) (heading : Heading) (b : BeginsWithHead text heading) (n : ℕ) → heading.body ≡ Ok n → heading.length + n ≤ length text → BeginsWith text (message_at text heading b n)
begins_at text heading b n states whole = record { is_message = is_message_at text heading b n states whole; rest = drop (heading.length + n) text; joins = joins_at text heading b n }

-- where it goes is in form
pub route_at : (text : List ℕ) (heading : Heading) (b : BeginsWithHead text heading) (route : Route) → heading.ask ≡ Ok route → IsRouteInForm route
route_at text heading b route e = ask_in_form b.head.method b.head.target route (sym (ap (λ (x : Heading). x.ask) b.asks) ∙ e)

-- ---- an answer, and how the link goes on

pub said_open : {A : Type 0} (rule : Rule A) (before after : A) (old new : Stage) (answer : List ℕ) (m : Message) (how : Option LinkEnd)
    → IsMessage m → old.text ≡ message_bytes m ++ new.text → Answers rule before m answer after → Said old.link new.link answer (closes m) how → how ≡ None → Replied rule before after old new
said_open rule before after old new answer m _ is joins says (stays stay sent) e =
    record { message = m; answer = answer; is_message = is; joins = joins; stays = stay; answers = says; sent = sent }
said_open rule before after old new answer m _ is joins says (closed c sent) e = absurd (none-some end.Closed (sym e))
said_open rule before after old new answer m _ is joins says (fault f) e = absurd (none-some end.WriteFault (sym e))

unsent_by : {A : Type 0} (rule : Rule A) (before after : A) (text answer : List ℕ) (ended : Bool) (m : Message) → BeginsWith text m → Answers rule before m answer after
    → (c : Bool) → closes m ≡ c → Last rule before text ended end.WriteFault answer after
unsent_by rule before after text answer ended m b says true e = unsent_last end.Closed answer after (closing m answer after b e says)
unsent_by rule before after text answer ended m b says false e = unsent m answer after b e says

pub said_over : {A : Type 0} (rule : Rule A) (before after : A) (old new : Stage) (rest answer : List ℕ) (m : Message) (how : Option LinkEnd)
    → IsMessage m → old.text ≡ message_bytes m ++ rest → Answers rule before m answer after → Said old.link new.link answer (closes m) how → IfSome how (EndsOver rule before after old new)
said_over rule before after old new rest answer m _ is joins says (stays stay sent) = tt
said_over rule before after old new rest answer m _ is joins says (closed c sent) = record {
  last = answer;
  ends = answered end.Closed answer after (closing m answer after (record { is_message = is; rest = rest; joins = joins }) c says);
  gave = sent;
}
said_over rule before after old new rest answer m _ is joins says (fault f) = record {
  last = answer;
  ends = unsent_by rule before after old.text answer new.link.input.ended m (record { is_message = is; rest = rest; joins = joins }) says (closes m) refl;
  gave = f;
}

-- there is no memory
pub memory_over : {A : Type 0} (rule : Rule A) (before after : A) (old new : Stage) (how : LinkEnd)
    → LastAnswer rule before old.text end.NoMemory memory_answer after → SaidNoMemory old.link new.link how → EndsOver rule before after old new how
memory_over rule before after old new how last (inl e, gave) =
    record { last = memory_answer; ends = subst (λ (x : LinkEnd). Last rule before old.text new.link.input.ended x memory_answer after) (sym e) (answered end.NoMemory memory_answer after last); gave = gave }
memory_over rule before after old new how last (inr e, gave) =
    record { last = memory_answer; ends = subst (λ (x : LinkEnd). Last rule before old.text new.link.input.ended x memory_answer after) (sym e) (unsent_last end.NoMemory memory_answer after last); gave = gave }

-- a head or a text is refused
pub refused_over : {A : Type 0} (rule : Rule A) (before : A) (old new : Stage) (answer : List ℕ) (how : LinkEnd)
    → LastAnswer rule before old.text end.Closed answer before → ((how ≡ end.Closed) ⊎ (how ≡ end.WriteFault)) → Gave how old.link new.link answer → EndsOver rule before before old new how
refused_over rule before old new answer how last (inl e) gave =
    record { last = answer; ends = subst (λ (x : LinkEnd). Last rule before old.text new.link.input.ended x answer before) (sym e) (answered end.Closed answer before last); gave = gave }
refused_over rule before old new answer how last (inr e) gave =
    record { last = answer; ends = subst (λ (x : LinkEnd). Last rule before old.text new.link.input.ended x answer before) (sym e) (unsent_last end.Closed answer before last); gave = gave }

pub refused_at : {A : Type 0} (rule : Rule A) (before : A) (text : List ℕ) (heading : Heading) (why : Refusal) → BeginsWithHead text heading → heading.body ≡ Err why
    → LastAnswer rule before text end.Closed (refusal_answer heading.is_head why) before
refused_at rule before text heading why b e =
    subst (λ (x : Heading). LastAnswer rule before text end.Closed (refusal_answer x.is_head why) before) (sym b.asks)
    (refused b.head why (record { is_head = b.is_head; rest = drop heading.length text; reads = b.reads; refuses = sym (ap (λ (x : Heading). x.body) b.asks) ∙ e }))

-- a request that goes nowhere
pub missed_at : {A : Type 0} (rule : Rule A) (before : A) (text : List ℕ) (heading : Heading) (b : BeginsWithHead text heading) (n : ℕ) (miss : Miss) → heading.ask ≡ Err miss
    → Answers rule before (message_at text heading b n) (miss_answer heading.is_head heading.closes miss) before
missed_at rule before text heading b n miss e =
    subst (λ (x : Heading). Answers rule before (message_at text heading b n) (miss_answer x.is_head x.closes miss) before) (sym b.asks)
    (missed miss (sym (ap (λ (x : Heading). x.ask) b.asks) ∙ e))

closes_at : (text : List ℕ) (heading : Heading) (b : BeginsWithHead text heading) (n : ℕ) → heading.closes ≡ closes (message_at text heading b n)
closes_at text heading b n = ap (λ (x : Heading). x.closes) b.asks

pub missed_open : {A : Type 0} (rule : Rule A) (before : A) (old new : Stage) (heading : Heading) (b : BeginsWithHead old.text heading) (n : ℕ) (miss : Miss) (how : Option LinkEnd)
    → heading.ask ≡ Err miss → heading.body ≡ Ok n → heading.length + n ≤ length old.text → new.text ≡ drop (heading.length + n) old.text
    → Said old.link new.link (miss_answer heading.is_head heading.closes miss) heading.closes how → how ≡ None → Replied rule before before old new
missed_open rule before old new heading b n miss how ask states whole e said none =
    said_open rule before before old new _ (message_at old.text heading b n) how (is_message_at old.text heading b n states whole)
    (subst (λ (r : List ℕ). old.text ≡ message_bytes (message_at old.text heading b n) ++ r) (sym e) (joins_at old.text heading b n))
    (missed_at rule before old.text heading b n miss ask)
    (subst (λ (x : Bool). Said old.link new.link (miss_answer heading.is_head heading.closes miss) x how) (closes_at old.text heading b n) said) none

pub missed_over : {A : Type 0} (rule : Rule A) (before : A) (old new : Stage) (heading : Heading) (b : BeginsWithHead old.text heading) (n : ℕ) (miss : Miss) (how : Option LinkEnd)
    → heading.ask ≡ Err miss → heading.body ≡ Ok n → heading.length + n ≤ length old.text
    → Said old.link new.link (miss_answer heading.is_head heading.closes miss) heading.closes how → IfSome how (EndsOver rule before before old new)
missed_over rule before old new heading b n miss how ask states whole said =
    said_over rule before before old new (drop (heading.length + n) old.text) _ (message_at old.text heading b n) how (is_message_at old.text heading b n states whole)
    (joins_at old.text heading b n) (missed_at rule before old.text heading b n miss ask)
    (subst (λ (x : Bool). Said old.link new.link (miss_answer heading.is_head heading.closes miss) x how) (closes_at old.text heading b n) said)

-- a request that the answerer answers
answers_at : {A : Type 0} (rule : Rule A) (before after : A) (text : List ℕ) (heading : Heading) (b : BeginsWithHead text heading) (n : ℕ) (route : Route) (code : ℕ) (body : List ℕ)
    → heading.ask ≡ Ok route → IsAnswerCode code → rule before (record { route = route; body = take n (drop heading.length text) }) (Some (code, body)) after
    → Answers rule before (message_at text heading b n) (answer_bytes code None heading.closes false body) after
answers_at rule before after text heading b n route code body ask is says =
    subst (λ (x : Bool). Answers rule before (message_at text heading b n) (answer_bytes code None x false body) after) (sym (closes_at text heading b n))
    (told route code body after (sym (ap (λ (x : Heading). x.ask) b.asks) ∙ ask) is says)

pub told_open : {A : Type 0} (rule : Rule A) (before after : A) (old new : Stage) (heading : Heading) (b : BeginsWithHead old.text heading) (n : ℕ) (route : Route) (how : Option LinkEnd)
    → heading.ask ≡ Ok route → heading.body ≡ Ok n → heading.length + n ≤ length old.text → new.text ≡ drop (heading.length + n) old.text
    → Told rule before old.link new.link route (take n (drop heading.length old.text)) heading.closes after how → how ≡ None → Replied rule before after old new
told_open rule before _ old new heading b n route _ ask states whole e (turn.told code body after how is says said) none =
    said_open rule before after old new _ (message_at old.text heading b n) how (is_message_at old.text heading b n states whole)
    (subst (λ (r : List ℕ). old.text ≡ message_bytes (message_at old.text heading b n) ++ r) (sym e) (joins_at old.text heading b n))
    (answers_at rule before after old.text heading b n route code body ask is says)
    (subst (λ (x : Bool). Said old.link new.link (answer_bytes code None heading.closes false body) x how) (closes_at old.text heading b n) said) none
told_open rule before _ old new heading b n route _ ask states whole e (turn.no_room how s) none = absurd (none-some how (sym none))
told_open rule before _ old new heading b n route _ ask states whole e (turn.no_memory after how says s) none = absurd (none-some how (sym none))

pub told_over : {A : Type 0} (rule : Rule A) (before after : A) (old new : Stage) (heading : Heading) (b : BeginsWithHead old.text heading) (n : ℕ) (route : Route) (how : Option LinkEnd)
    → heading.ask ≡ Ok route → heading.body ≡ Ok n → heading.length + n ≤ length old.text
    → Told rule before old.link new.link route (take n (drop heading.length old.text)) heading.closes after how → IfSome how (EndsOver rule before after old new)
told_over rule before _ old new heading b n route _ ask states whole (turn.told code body after how is says said) =
    said_over rule before after old new (drop (heading.length + n) old.text) _ (message_at old.text heading b n) how (is_message_at old.text heading b n states whole)
    (joins_at old.text heading b n) (answers_at rule before after old.text heading b n route code body ask is says)
    (subst (λ (x : Bool). Said old.link new.link (answer_bytes code None heading.closes false body) x how) (closes_at old.text heading b n) said)
told_over rule before _ old new heading b n route _ ask states whole (turn.no_room how s) =
    memory_over rule before before old new how (no_room (message_at old.text heading b n) route (begins_at old.text heading b n states whole) (sym (ap (λ (x : Heading). x.ask) b.asks) ∙ ask)) s
told_over rule before _ old new heading b n route _ ask states whole (turn.no_memory after how says s) =
    memory_over rule before after old new how
    (no_memory (message_at old.text heading b n) route after (begins_at old.text heading b n states whole)
    (sym (ap (λ (x : Heading). x.ask) b.asks) ∙ ask) says) s

-- ---- what follows an answer

said_kind : (old new : LinkTells) (answer : List ℕ) (closes : Bool) (how : Option LinkEnd) → Said old new answer closes how → IfSome how IsAfterAnswer
said_kind old new answer closes _ (stays c s) = tt
said_kind old new answer closes _ (closed c s) = tt
said_kind old new answer closes _ (fault f) = tt

pub memory_kind : (old new : LinkTells) (how : LinkEnd) → SaidNoMemory old new how → IsAfterAnswer how
memory_kind old new how (inl e, gave) = subst IsAfterAnswer (sym e) tt
memory_kind old new how (inr e, gave) = subst IsAfterAnswer (sym e) tt

pub missed_kind : (old new : LinkTells) (answer : List ℕ) (closes : Bool) (how : Option LinkEnd) → Said old new answer closes how → IfSome how IsAfterAnswer
missed_kind = said_kind

pub told_kind : {A : Type 0} (rule : Rule A) (before after : A) (old new : LinkTells) (route : Route) (body : List ℕ) (closes : Bool) (how : Option LinkEnd)
    → Told rule before old new route body closes after how → IfSome how IsAfterAnswer
told_kind rule before _ old new route body closes _ (turn.told code text after how is says said) = said_kind old new _ closes how said
told_kind rule before _ old new route body closes _ (turn.no_room how s) = memory_kind old new how s
told_kind rule before _ old new route body closes _ (turn.no_memory after how says s) = memory_kind old new how s

pub after_no_limit : (how : LinkEnd) → IsAfterAnswer how → how ≡ end.Limit → ⊥
after_no_limit how after e = subst IsAfterAnswer e after
