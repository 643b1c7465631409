-- Reads of a link, one after another.
use Rattle.std.proofs.Common.{◌≡◌, ℕ, ◌+◌, ◌<◌, List, [], ◌++◌, length, Option, Some, None, Ok, inr, sym, subst, ap, ◌∙◌, append_assoc}
use Rattle.cf_base.proofs.Common.{Appends, Appends-trans, append-nil, All-append, All-nil, All-weaker}
use Rattle.cf_http_heads.proofs.HeadLaws.{begins_on}
use Rattle.cf_http_heads.specs.Answers.{joined}
use Rattle.cf_http_heads.specs.Heads.{BeginsWithHead, IsOpenHead}
use Rattle.cf_http_heads.specs.declared.head.Heading.{Heading}
use Rattle.cf_http.specs.Asking.{Rule}
use Rattle.cf_http.specs.declared.end.LinkEnd.{LinkEnd}
use Rattle.cf_http.specs.Links.{LinkRead, Input, Output, LinkTells, OnlyReads, OnlySends, FaultsOf, read_now, ReadsEach}
use Rattle.cf_http.specs.Serving.{Moment, moment_now, ReadInTurn, Went, Serves}
use Rattle.cf_http.specs.Stages.{Stage, Came, ReadOver, ReadsOver, ReadsNow}
use Rattle.cf_http.specs.Talk.{IsOpenText}
use Rattle.cf_http.specs.Turns.{SaidNoMemory}
use Rattle.cf_http.proofs.ServeLaws.{none_or_cut, open_body, served_memory}

-- none so far
pub reads_none : (is_so : LinkRead → Type 0) (a : Option (List LinkRead)) → ReadsEach is_so a a
reads_none is_so None = tt
reads_none is_so (Some xs) = ([], sym (append-nil xs), All-nil is_so)

pub reads_weaker : (is_so is_such : LinkRead → Type 0) → ((read : LinkRead) → is_so read → is_such read) → (a b : Option (List LinkRead)) → ReadsEach is_so a b → ReadsEach is_such a b
reads_weaker is_so is_such f None b h = tt
reads_weaker is_so is_such f (Some xs) None h = absurd h
reads_weaker is_so is_such f (Some xs) (Some ys) h = (h.0, h.1, All-weaker is_so is_such f h.0 h.2)

pub reads_on : (is_so : LinkRead → Type 0) (a b c : Option (List LinkRead)) → ReadsEach is_so a b → ReadsEach is_so b c → ReadsEach is_so a c
reads_on is_so None b c g h = tt
reads_on is_so (Some xs) None c g h = absurd g
reads_on is_so (Some xs) (Some ys) None g h = absurd h
reads_on is_so (Some xs) (Some ys) (Some zs) g h =
    (g.0 ++ h.0, h.1 ∙ ap (λ t. t ++ h.0) g.1 ∙ append_assoc xs g.0 h.0, All-append is_so g.0 h.0 g.2 h.2)

-- ---- over a text that waits for more

over_now : (waits : List ℕ → Type 0) (old at : Stage) → Came old at → OnlyReads old.link at.link → waits at.text → ReadOver waits old (read_now at.link)
over_now waits old at came reads still = record { came = came.came; received = came.received; sent = ap (λ (x : Output). x.sent) reads; is_open = subst waits came.joins still }

pub read_over : (waits : List ℕ → Type 0) (old at new : Stage) → Came old at → OnlyReads old.link at.link → waits at.text → ReadsOver waits old at → ReadsNow at new → ReadsOver waits old new
read_over waits old at new came reads still before now =
    reads_on (ReadOver waits old) old.link.input.reads at.link.input.reads new.link.input.reads before
    (reads_weaker (λ (r : LinkRead). r ≡ read_now at.link) (ReadOver waits old)
    (λ r e. subst (ReadOver waits old) (sym e) (over_now waits old at came reads still)) at.link.input.reads new.link.input.reads now)

-- an answer is no read
pub over_sends : (waits : List ℕ → Type 0) (old at new : Stage) → OnlySends at.link new.link → ReadsOver waits old at → ReadsOver waits old new
over_sends waits old at new sends = subst (λ (x : Input). ReadsEach (ReadOver waits old) old.link.input.reads x.reads) (sym sends)

-- the reads of a head
pub head_reads : (old new : Stage) → ReadsOver IsOpenHead old new → ReadsOver IsOpenText old new
head_reads old new =
    reads_weaker (ReadOver IsOpenHead old) (ReadOver IsOpenText old)
    (λ read o. record { came = o.came; received = o.received; sent = o.sent; is_open = none_or_cut (old.text ++ o.came) o.is_open }) old.link.input.reads new.link.input.reads

-- and those of its body behind them
pub body_reads : (old mid new : Stage) (heading : Heading) (n : ℕ) → Came old mid → OnlyReads old.link mid.link → BeginsWithHead mid.text heading → heading.body ≡ Ok n
    → ReadsOver IsOpenHead old mid → ReadsOver (λ t. length t < heading.length + n) mid new → ReadsOver IsOpenText old new
body_reads old mid new heading n came reads begins states head body =
    reads_on (ReadOver IsOpenText old) old.link.input.reads mid.link.input.reads new.link.input.reads (head_reads old mid head)
    (reads_weaker (ReadOver (λ t. length t < heading.length + n) mid) (ReadOver IsOpenText old) one mid.link.input.reads new.link.input.reads body)
  where
    one : (read : LinkRead) → ReadOver (λ t. length t < heading.length + n) mid read → ReadOver IsOpenText old read
    one read o = record {
      came = came.came ++ o.came;
      received = Appends-trans old.link.input.received mid.link.input.received read.received came.came o.came came.received o.received;
      sent = o.sent ∙ ap (λ (x : Output). x.sent) reads;
      is_open = subst IsOpenText (ap (λ t. t ++ o.came) came.joins ∙ append_assoc old.text came.came o.came)
          (inr (open_body (mid.text ++ o.came) heading n (begins_on mid.text o.came heading begins) states o.is_open));
    }

-- ---- behind requests that were answered

in_turn : {A : Type 0} (rule : Rule A) (start : Moment A) (middle : A) (at : Stage) (n : ℕ) (read : LinkRead) → Went rule start [] (moment_now middle at.link) at.text n
    → ReadOver IsOpenText at read → ReadInTurn rule start read
in_turn rule start middle at n read w o = record {
  middle = middle;
  rest = at.text ++ o.came;
  count = n;
  went = record {
    came = w.came ++ o.came;
    messages = w.messages;
    answers = w.answers;
    received = Appends-trans start.received at.link.input.received read.received w.came o.came w.received o.received;
    joins = ap (λ t. t ++ o.came) w.joins ∙ append_assoc _ at.text o.came;
    each = w.each;
    counted = w.counted;
    talk = w.talk;
    sent = subst (λ (x : Option (List ℕ)). Appends start.sent x (joined w.answers)) (sym o.sent) w.sent;
  };
  is_open = o.is_open;
}

pub turn_reads : {A : Type 0} (rule : Rule A) (start : Moment A) (middle : A) (at new : Stage) (n : ℕ) (a : Option (List LinkRead)) → Went rule start [] (moment_now middle at.link) at.text n
    → ReadsEach (ReadInTurn rule start) a at.link.input.reads → ReadsOver IsOpenText at new → ReadsEach (ReadInTurn rule start) a new.link.input.reads
turn_reads rule start middle at new n a w before now =
    reads_on (ReadInTurn rule start) a at.link.input.reads new.link.input.reads before
    (reads_weaker (ReadOver IsOpenText at) (ReadInTurn rule start) (λ read o. in_turn rule start middle at n read w o) at.link.input.reads new.link.input.reads now)

-- as the whole of what is said of a link
pub serves_memory : {A : Type 0} (rule : Rule A) (answerer : A) (old new : LinkTells) (how : LinkEnd) → OnlySends old new → SaidNoMemory old new how → FaultsOf old new how → Serves rule answerer answerer old new how
serves_memory rule answerer old new how sends said faults = record {
  served = served_memory rule answerer old new how sends said;
  turns = subst (λ (x : Input). ReadsEach (ReadInTurn rule (moment_now answerer old)) old.input.reads x.reads) (sym sends) (reads_none (ReadInTurn rule (moment_now answerer old)) old.input.reads);
  faults = faults;
}
