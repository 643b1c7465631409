-- How a link is served, step by step.
use Rattle.std.proofs.Common.{◌≡◌, ◌⊎◌, ℕ, ◌+◌, ◌-◌, ◌<◌, ◌≤◌, List, [], ◌∷◌, ◌++◌, length, drop, Option, Some, None, IfSome, Ok, inl, inr, arith, subst, sym, ap, refl, ◌∙◌, append_assoc, length-append, length-drop, flat_map}
use Rattle.cf_base.proofs.Common.{Appends, Appends-nil, Appends-trans, append-nil, All-append, All-nil, All-cons}
use Rattle.cf_http.specs.declared.end.LinkEnd.{LinkEnd}
use Rattle.cf_http.specs.declared.end.LinkEnd.TheVariants as end
use Rattle.cf_http_heads.specs.declared.head.Heading.{Heading}
use Rattle.cf_http.specs.Asking.{Rule}
use Rattle.cf_http_heads.specs.Answers.{joined}
use Rattle.cf_http_heads.specs.Heads.{BeginsWithHead, IsOpenHead, fields_of}
use Rattle.cf_http.specs.Talk.{Message, message_bytes, IsMessage, Talk, IsCut, Last, between, cut, read_fault, limit, no_link}
use Rattle.cf_http.specs.Links.{Input, Output, LinkTells, OnlyReads, OnlySends, SentFront}
use Rattle.cf_http.specs.Serving.{Moment, moment_now, Went, Gave, Served, IsCounted, NoneCame, IsBodyStop}
use Rattle.cf_http.specs.Stages.{Stage, Came, EndsOver, Stops, Replied, GoesOn}
use Rattle.cf_http.specs.Turns.{SaidNoMemory}
use Rattle.cf_http.proofs.TurnLaws.{memory_over, memory_kind, after_no_limit}
use Rattle.cf_http_heads.proofs.FieldLaws.{body_within}
use Rattle.cf_http.proofs.SentLaws.{front_of_second}
use Rattle.cf_http_heads.proofs.HeadLaws.{length_head, begins_on}

-- ---- nothing is answered

over_none : {A : Type 0} (rule : Rule A) (before : A) (at : Stage) (how : LinkEnd) → Gave how at.link at.link [] → Last rule before at.text at.link.input.ended how [] before
    → EndsOver rule before before at at how
over_none rule before at how gave ends = record { last = []; ends = ends; gave = gave }

-- nothing came, or a head that is still open
pub none_or_cut : (text : List ℕ) → IsOpenHead text → (text ≡ []) ⊎ IsCut text
none_or_cut [] still = inl refl
none_or_cut (x ∷ xs) still = inr (inl (omega arith, still))

pub none_over : {A : Type 0} (rule : Rule A) (before : A) (at : Stage) (how : LinkEnd) → NoneCame at.text at.link.input.ended how → EndsOver rule before before at at how
none_over rule before at end.Closed n = over_none rule before at end.Closed (Appends-nil at.link.output.sent) (between n.0 n.1)
none_over rule before at end.Cut n = over_none rule before at end.Cut (Appends-nil at.link.output.sent) (cut n.0 n.1)
none_over rule before at end.ReadFault n = over_none rule before at end.ReadFault (Appends-nil at.link.output.sent) (read_fault (none_or_cut at.text n))
none_over rule before at end.WriteFault n = absurd n
none_over rule before at end.Limit n = absurd n
none_over rule before at end.NoMemory n = absurd n

-- the head came, and not its whole body
pub open_body : (text : List ℕ) (heading : Heading) (n : ℕ) → BeginsWithHead text heading → heading.body ≡ Ok n → length text < heading.length + n → IsCut text
open_body text heading n b states short = inr (record {
  head = b.head;
  part = drop heading.length text;
  stated = n;
  is_head = b.is_head;
  reads = b.reads;
  states = sym (ap (λ (x : Heading). x.body) b.asks) ∙ states;
  short =
      let fits : heading.length ≤ length text = subst (λ (x : Heading). x.length ≤ length text) (sym b.asks) (length_head text b.head _ b.reads) in
      let e : length (drop heading.length text) ≡ length text - heading.length = length-drop heading.length text in
      omega (arith, fits, e, short);
})

pub body_over : {A : Type 0} (rule : Rule A) (before : A) (at : Stage) (heading : Heading) (n : ℕ) (how : LinkEnd)
    → BeginsWithHead at.text heading → heading.body ≡ Ok n → IsBodyStop (heading.length + n) at.text at.link.input.ended how → EndsOver rule before before at at how
body_over rule before at heading n end.Closed b states s = absurd s
body_over rule before at heading n end.Cut b states s = over_none rule before at end.Cut (Appends-nil at.link.output.sent) (cut (open_body at.text heading n b states s.0) s.1)
body_over rule before at heading n end.ReadFault b states s = over_none rule before at end.ReadFault (Appends-nil at.link.output.sent) (read_fault (inr (open_body at.text heading n b states s)))
body_over rule before at heading n end.WriteFault b states s = absurd s
body_over rule before at heading n end.Limit b states s = absurd s
body_over rule before at heading n end.NoMemory b states s = absurd s

-- what is read is short enough for the room
pub need_within : (text : List ℕ) (heading : Heading) (n : ℕ) → BeginsWithHead text heading → heading.body ≡ Ok n → heading.length + n ≤ 278528
need_within text heading n b states =
    let len : heading.length ≤ 16384 = subst (λ (x : Heading). x.length ≤ 16384) (sym b.asks) b.is_head.short in
    let body : n ≤ 262144 = body_within b.head.minor (fields_of b.head) n (sym (ap (λ (x : Heading). x.body) b.asks) ∙ states) in
    omega (arith, len, body)

-- the head stays at the front while more comes
pub begins_still : (old new : Stage) (heading : Heading) → BeginsWithHead old.text heading → Came old new → BeginsWithHead new.text heading
begins_still old new heading begins c = subst (λ (t : List ℕ). BeginsWithHead t heading) (sym c.joins) (begins_on old.text c.came heading begins)

-- ---- bytes came, and the link ends over them

-- what is sent after reads is sent since before them
gave_since : (how : LinkEnd) (old mid new : LinkTells) (bytes : List ℕ) → OnlyReads old mid → Gave how mid new bytes → Gave how old new bytes
gave_since end.Closed old mid new bytes s g = subst (λ (x : Output). Appends x.sent new.output.sent bytes) s g
gave_since end.Cut old mid new bytes s g = subst (λ (x : Output). Appends x.sent new.output.sent bytes) s g
gave_since end.ReadFault old mid new bytes s g = subst (λ (x : Output). Appends x.sent new.output.sent bytes) s g
gave_since end.WriteFault old mid new bytes s g = subst (λ (x : Output). SentFront x.sent new.output.sent bytes) s g
gave_since end.Limit old mid new bytes s g = subst (λ (x : Output). Appends x.sent new.output.sent bytes) s g
gave_since end.NoMemory old mid new bytes s g = subst (λ (x : Output). Appends x.sent new.output.sent bytes) s g

pub stops_over : {A : Type 0} (rule : Rule A) (before after : A) (old mid new : Stage) (how : LinkEnd)
    → Came old mid → OnlyReads old.link mid.link → OnlySends mid.link new.link → EndsOver rule before after mid new how → Stops rule before after old new how
stops_over rule before after old mid new how c reads sends over = record {
  came = c.came;
  received = subst (λ (x : Input). Appends old.link.input.received x.received c.came) (sym sends) c.received;
  over = record {
    last = over.last;
    ends = subst (λ (t : List ℕ). Last rule before t new.link.input.ended how over.last after) c.joins over.ends;
    gave = gave_since how old.link mid.link new.link over.last reads over.gave;
  };
}

pub stops_if : {A : Type 0} (rule : Rule A) (before after : A) (old mid new : Stage) (how : Option LinkEnd)
    → Came old mid → OnlyReads old.link mid.link → OnlySends mid.link new.link → IfSome how (EndsOver rule before after mid new) → IfSome how (Stops rule before after old new)
stops_if rule before after old mid new None c reads sends over = tt
stops_if rule before after old mid new (Some how) c reads sends over = stops_over rule before after old mid new how c reads sends over

-- ---- bytes came, and their first request was answered

pub went_one : {A : Type 0} (rule : Rule A) (before after : A) (old mid new : Stage) → Came old mid → OnlyReads old.link mid.link → OnlySends mid.link new.link → Replied rule before after mid new
    → GoesOn rule before after old new 1
went_one rule before after old mid new c reads sends reply = record {
  came = c.came;
  messages = reply.message ∷ [];
  answers = reply.answer ∷ [];
  received = subst (λ (x : Input). Appends old.link.input.received x.received c.came) (sym sends) c.received;
  joins = sym c.joins ∙ reply.joins ∙ ap (λ t. t ++ new.text) (sym (append-nil (message_bytes reply.message)));
  each = All-cons IsMessage reply.message [] reply.is_message (All-nil IsMessage);
  counted = refl;
  talk = (after, reply.stays, reply.answers, refl);
  sent = subst (λ (t : List ℕ). Appends old.link.output.sent new.link.output.sent t) (sym (append-nil reply.answer)) (subst (λ (x : Output). Appends x.sent new.link.output.sent reply.answer) reads reply.sent);
}

-- ---- one after another

message_bytes-append : (ms ns : List Message) → flat_map message_bytes (ms ++ ns) ≡ flat_map message_bytes ms ++ flat_map message_bytes ns
message_bytes-append [] ns = refl
message_bytes-append (m ∷ ms) ns = ap (λ t. message_bytes m ++ t) (message_bytes-append ms ns) ∙ sym (append_assoc (message_bytes m) (flat_map message_bytes ms) (flat_map message_bytes ns))

joined-append : (xs ys : List (List ℕ)) → joined (xs ++ ys) ≡ joined xs ++ joined ys
joined-append [] ys = refl
joined-append (x ∷ xs) ys = ap (λ t. x ++ t) (joined-append xs ys) ∙ sym (append_assoc x (joined xs) (joined ys))

talk_on : {A : Type 0} (rule : Rule A) (a b c : A) (ms ns : List Message) (xs ys : List (List ℕ)) → Talk rule a ms xs b → Talk rule b ns ys c → Talk rule a (ms ++ ns) (xs ++ ys) c
talk_on rule a b c [] ns [] ys t u = subst (λ x. Talk rule x ns ys c) t u
talk_on rule a b c [] ns (x ∷ xs) ys t u = absurd t
talk_on rule a b c (m ∷ ms) ns [] ys t u = absurd t
talk_on rule a b c (m ∷ ms) ns (x ∷ xs) ys t u = (t.0, t.1, t.2, talk_on rule t.0 b c ms ns xs ys t.3 u)

pub went_none : {A : Type 0} (rule : Rule A) (at : Moment A) (text : List ℕ) → Went rule at text at text 0
went_none rule at text = record {
  came = [];
  messages = [];
  answers = [];
  received = Appends-nil at.received;
  joins = append-nil text;
  each = All-nil IsMessage;
  counted = refl;
  talk = refl;
  sent = Appends-nil at.sent;
}

-- the text of two stretches
text_on : (old came1 sent1 mid came2 sent2 rest : List ℕ) → old ++ came1 ≡ sent1 ++ mid → mid ++ came2 ≡ sent2 ++ rest → old ++ (came1 ++ came2) ≡ (sent1 ++ sent2) ++ rest
text_on old came1 sent1 mid came2 sent2 rest e f =
    sym (append_assoc old came1 came2) ∙ ap (λ t. t ++ came2) e ∙ append_assoc sent1 mid came2 ∙ ap (λ t. sent1 ++ t) f ∙ sym (append_assoc sent1 sent2 rest)

pub went_on : {A : Type 0} (rule : Rule A) (a b c : Moment A) (x y z : List ℕ) (m n k : ℕ) → k ≡ m + n → Went rule a x b y m → Went rule b y c z n → Went rule a x c z k
went_on rule a b c x y z m n k e f g = record {
  came = f.came ++ g.came;
  messages = f.messages ++ g.messages;
  answers = f.answers ++ g.answers;
  received = Appends-trans a.received b.received c.received f.came g.came f.received g.received;
  joins = text_on x f.came (flat_map message_bytes f.messages) y g.came (flat_map message_bytes g.messages) z f.joins g.joins
      ∙ ap (λ t. t ++ z) (sym (message_bytes-append f.messages g.messages));
  each = All-append IsMessage f.messages g.messages f.each g.each;
  counted = let l = length-append f.messages g.messages in omega (arith, l, e, f.counted, g.counted);
  talk = talk_on rule a.answerer b.answerer c.answerer f.messages g.messages f.answers g.answers f.talk g.talk;
  sent = subst (λ (t : List ℕ). Appends a.sent c.sent t) (sym (joined-append f.answers g.answers)) (Appends-trans a.sent b.sent c.sent (joined f.answers) (joined g.answers) f.sent g.sent);
}

-- ---- a whole link

gave_after : (how : LinkEnd) (a b c : LinkTells) (first last : List ℕ) → Appends a.output.sent b.output.sent first → Gave how b c last → Gave how a c (first ++ last)
gave_after end.Closed a b c first last s g = Appends-trans a.output.sent b.output.sent c.output.sent first last s g
gave_after end.Cut a b c first last s g = Appends-trans a.output.sent b.output.sent c.output.sent first last s g
gave_after end.ReadFault a b c first last s g = Appends-trans a.output.sent b.output.sent c.output.sent first last s g
gave_after end.WriteFault a b c first last s g = front_of_second a.output.sent b.output.sent c.output.sent first last s g
gave_after end.Limit a b c first last s g = Appends-trans a.output.sent b.output.sent c.output.sent first last s g
gave_after end.NoMemory a b c first last s g = Appends-trans a.output.sent b.output.sent c.output.sent first last s g

counted_below : (how : LinkEnd) (n : ℕ) → n < 1000000 → (how ≡ end.Limit → ⊥) → IsCounted how n
counted_below end.Closed n lt no_limit = lt
counted_below end.Cut n lt no_limit = lt
counted_below end.ReadFault n lt no_limit = lt
counted_below end.WriteFault n lt no_limit = lt
counted_below end.Limit n lt no_limit = absurd (no_limit refl)
counted_below end.NoMemory n lt no_limit = lt

pub served_over : {A : Type 0} (rule : Rule A) (before middle after : A) (a b c : Stage) (n : ℕ) (how : LinkEnd) → n < 1000000 → (how ≡ end.Limit → ⊥)
    → Went rule (moment_now before a.link) [] (moment_now middle b.link) b.text n → Stops rule middle after b c how → Served rule before after a.link c.link how
served_over rule before middle after a b c n how lt no_limit f s = record {
  came = f.came ++ s.came;
  messages = f.messages;
  rest = b.text ++ s.came;
  answers = f.answers;
  last = s.over.last;
  middle = middle;
  received = Appends-trans a.link.input.received b.link.input.received c.link.input.received f.came s.came f.received s.received;
  joins = ap (λ t. t ++ s.came) f.joins ∙ append_assoc (flat_map message_bytes f.messages) b.text s.came;
  each = f.each;
  counted = subst (IsCounted how) (sym f.counted) (counted_below how n lt no_limit);
  talk = f.talk;
  ends = s.over.ends;
  sent = gave_after how a.link b.link c.link (joined f.answers) s.over.last f.sent s.over.gave;
}

pub served_limit : {A : Type 0} (rule : Rule A) (before after : A) (a b : Stage) (n : ℕ) → n ≡ 1000000 → Went rule (moment_now before a.link) [] (moment_now after b.link) b.text n
    → Served rule before after a.link b.link end.Limit
served_limit rule before after a b n e f = record {
  came = f.came;
  messages = f.messages;
  rest = b.text;
  answers = f.answers;
  last = [];
  middle = after;
  received = f.received;
  joins = f.joins;
  each = f.each;
  counted = f.counted ∙ e;
  talk = f.talk;
  ends = limit;
  sent = subst (λ (t : List ℕ). Appends a.link.output.sent b.link.output.sent t) (sym (append-nil (joined f.answers))) f.sent;
}

abbrev none_at : LinkTells → Stage
none_at link = record { link = link; text = [] }

-- there was no memory to begin with
pub served_memory : {A : Type 0} (rule : Rule A) (answerer : A) (old new : LinkTells) (how : LinkEnd) → OnlySends old new → SaidNoMemory old new how → Served rule answerer answerer old new how
served_memory rule answerer old new how sends said =
    served_over rule answerer answerer answerer (none_at old) (none_at old) (none_at new) 0 how (omega arith) (after_no_limit how (memory_kind old new how said)) (went_none rule (moment_now answerer old) [])
    (record {
      came = [];
      received = subst (λ (x : Input). Appends old.input.received x.received []) (sym sends) (Appends-nil old.input.received);
      over = memory_over rule answerer answerer (none_at old) (none_at new) how (no_link refl) said;
    })
