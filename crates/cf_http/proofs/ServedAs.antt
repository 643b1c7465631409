-- What one rule says of a door, another says of it that follows the first step by step.
use Rattle.std.proofs.Common.{ℕ, List, [], ◌∷◌, Option, Some, None, Bool, subst, sym, refl}
use Rattle.cf_http.specs.declared.request.Request.{Request}
use Rattle.cf_http.specs.declared.end.LinkEnd.{LinkEnd}
use Rattle.cf_http.specs.Asking.{Rule}
use Rattle.cf_http.specs.Talk.{Message, Answers, missed, told, Talk, LastAnswer, no_head, refused, closing, no_link, no_room, no_memory, Last, between, cut, answered, limit, read_fault, unsent_last, unsent, request_of}
use Rattle.cf_http.specs.Links.{LinkRead, LinkTells, read_at}
use Rattle.cf_http.specs.Serving.{Moment, moment_of, moment_now, Served, ReadInTurn, Serves}
use Rattle.cf_http.proofs.ReadLaws.{reads_weaker}
use Rattle.cf_http.specs.Doors.{DoorTells, WasServed, WereServed, DoorServed}

-- the second follows each step of the first
pub record Follows {A B : Type 0} (rule : Rule A) (other : Rule B) (fits : A → B → Type 0) : Type 0 where
  pub step : (a c : A) (b : B) (request : Request) (answer : Option (ℕ × List ℕ)) → rule a request answer c → fits a b → (d : B) × other b request answer d × fits c d

module _ {A B : Type 0} (rule : Rule A) (other : Rule B) (fits : A → B → Type 0) (follows : Follows rule other fits) where
  answers_as : (a c : A) (b : B) (m : Message) (bytes : List ℕ) → Answers rule a m bytes c → fits a b → (d : B) × Answers other b m bytes d × fits c d
  answers_as a _ b m _ (missed miss e) f = (b, missed miss e, f)
  answers_as a _ b m _ (told route code body c e is says) f =
      let s = follows.step a c b (request_of route m) (Some (code, body)) says f in (s.0, told route code body s.0 e is s.1, s.2)

  talk_as : (a c : A) (b : B) (ms : List Message) (xs : List (List ℕ)) → Talk rule a ms xs c → fits a b → (d : B) × Talk other b ms xs d × fits c d
  talk_as a c b [] [] t f = (b, refl, subst (λ x. fits x b) (sym t) f)
  talk_as a c b [] (x ∷ xs) t f = absurd t
  talk_as a c b (m ∷ ms) [] t f = absurd t
  talk_as a c b (m ∷ ms) (x ∷ xs) t f =
      let here = answers_as a t.0 b m x t.2 f in
      let rest = talk_as t.0 c here.0 ms xs t.3 here.2 in (rest.0, (here.0, t.1, here.1, rest.1), rest.2)

  last_answer_as : (a c : A) (b : B) (text : List ℕ) (how : LinkEnd) (x : List ℕ) → LastAnswer rule a text how x c → fits a b → (d : B) × LastAnswer other b text how x d × fits c d
  last_answer_as a _ b text _ _ (no_head n) f = (b, no_head n, f)
  last_answer_as a _ b text _ _ (refused head why r) f = (b, refused head why r, f)
  last_answer_as a _ b text _ _ (closing m answer c begins closes says) f =
      let s = answers_as a c b m answer says f in (s.0, closing m answer s.0 begins closes s.1, s.2)
  last_answer_as a _ b text _ _ (no_link none) f = (b, no_link none, f)
  last_answer_as a _ b text _ _ (no_room m route begins e) f = (b, no_room m route begins e, f)
  last_answer_as a _ b text _ _ (no_memory m route c begins e says) f =
      let s = follows.step a c b (request_of route m) None says f in (s.0, no_memory m route s.0 begins e s.1, s.2)

  last_as : (a c : A) (b : B) (text : List ℕ) (ended : Bool) (how : LinkEnd) (x : List ℕ) → Last rule a text ended how x c → fits a b → (d : B) × Last other b text ended how x d × fits c d
  last_as a _ b text ended _ _ (between e is) f = (b, between e is, f)
  last_as a _ b text ended _ _ (cut e is) f = (b, cut e is, f)
  last_as a _ b text ended _ _ (answered how answer c l) f =
      let s = last_answer_as a c b text how answer l f in (s.0, answered how answer s.0 s.1, s.2)
  last_as a _ b text ended _ _ limit f = (b, limit, f)
  last_as a _ b text ended _ _ (read_fault is) f = (b, read_fault is, f)
  last_as a _ b text ended _ _ (unsent_last how answer c l) f =
      let s = last_answer_as a c b text how answer l f in (s.0, unsent_last how answer s.0 s.1, s.2)
  last_as a _ b text ended _ _ (unsent m answer c begins stays says) f =
      let s = answers_as a c b m answer says f in (s.0, unsent m answer s.0 begins stays s.1, s.2)

  served_as : (a c : A) (b : B) (old new : LinkTells) (how : LinkEnd) → Served rule a c old new how → fits a b → (d : B) × Served other b d old new how × fits c d
  served_as a c b old new how s f =
      let here = talk_as a s.middle b s.messages s.answers s.talk f in
      let rest = last_as s.middle c here.0 s.rest new.input.ended how s.last s.ends here.2 in (
        rest.0,
        record {
          came = s.came;
          messages = s.messages;
          rest = s.rest;
          answers = s.answers;
          last = s.last;
          middle = here.0;
          received = s.received;
          joins = s.joins;
          each = s.each;
          counted = s.counted;
          talk = here.1;
          ends = rest.1;
          sent = s.sent;
        },
        rest.2,
      )

  read_as : (start : Moment A) (b : B) (read : LinkRead) → fits start.answerer b → ReadInTurn rule start read → ReadInTurn other (moment_of b (read_at start.received start.sent)) read
  read_as start b read f r =
      let w = r.went in
      let here = talk_as start.answerer r.middle b w.messages w.answers w.talk f in record {
        middle = here.0;
        rest = r.rest;
        count = r.count;
        went = record {
          came = w.came;
          messages = w.messages;
          answers = w.answers;
          received = w.received;
          joins = w.joins;
          each = w.each;
          counted = w.counted;
          talk = here.1;
          sent = w.sent;
        };
        is_open = r.is_open;
      }

  serves_as : (a c : A) (b : B) (old new : LinkTells) (how : LinkEnd) → Serves rule a c old new how → fits a b → (d : B) × Serves other b d old new how × fits c d
  serves_as a c b old new how s f =
      let here = served_as a c b old new how s.served f in
      let start = moment_now a old in (
        here.0,
        record {
          served = here.1;
          turns = reads_weaker (ReadInTurn rule start) (ReadInTurn other (moment_now b old)) (λ read r. read_as start b read f r) old.input.reads new.input.reads s.turns;
          faults = s.faults;
        },
        here.2,
      )

  was_served_as : {L : Type 0} (tells : L → LinkTells) (a c : A) (b : B) (link : L) → WasServed tells rule a link c → fits a b → (d : B) × WasServed tells other b link d × fits c d
  was_served_as tells a c b link w f =
      let here = serves_as a c b (tells w.first) (tells link) w.how w.serves f in
      (here.0, record { first = w.first; how = w.how; fresh = w.fresh; serves = here.1 }, here.2)

  were_served_as : {L : Type 0} (tells : L → LinkTells) (a c : A) (b : B) (links : List L) → WereServed tells rule a links c → fits a b → (d : B) × WereServed tells other b links d × fits c d
  were_served_as tells a c b [] w f = (b, refl, subst (λ x. fits x b) (sym w) f)
  were_served_as tells a c b (link ∷ links) w f =
      let here = was_served_as tells a w.0 b link w.1 f in
      let rest = were_served_as tells w.0 c here.0 links w.2 here.2 in
      (rest.0, (here.0, here.1, rest.1), rest.2)

  pub door_served_as : {L : Type 0} (tells : L → LinkTells) (known : Bool) (a c : A) (b : B) (old new : DoorTells L) (count : ℕ) → DoorServed tells rule known a c old new count → fits a b
      → (d : B) × DoorServed tells other known b d old new count × fits c d
  door_served_as tells known a c b old new count s f =
      let w = were_served_as tells a c b s.links s.served f in
      (w.0, record { links = s.links; counted = s.counted; given = s.given; finished = s.finished; served = w.1 }, w.2)
