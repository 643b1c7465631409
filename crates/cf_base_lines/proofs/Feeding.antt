-- A desk is fed.
use Rattle.std.proofs.Common.{◌≡◌, ◌≢◌, ℕ, suc, ◌<◌, ◌≤◌, ◌+◌, List, [], ◌∷◌, ◌++◌, length, take, drop, slice_index, append_assoc, ap, ◌∙◌, sym, refl, subst, Option, drop-cons}
use Rattle.cf_base.proofs.Common.{Appends, Appends-trans, append-nil, take-append-drop, All-append, All-nil, All-cons}
use Rattle.cf_base_lines.specs.Lines.{NoNewline, one_a_line, last_line, OfWholeLines, OfAllLines, OfFront}
use Rattle.cf_base_lines.specs.Talk.{Rule, Talk}
use Rattle.cf_base_lines.specs.Sinks.{Wrote}
use Rattle.cf_base_lines.specs.Run.{Moment, moment_of, Gave, GaveFront, Told}
use Rattle.cf_base_lines.specs.State.{Replies, IsLine, State, IsAt, Feeds, Breaks, FeedsFront}
use Rattle.cf_base_lines.specs.declared.line.Line.{Line}
use Rattle.cf_base_lines.proofs.Talking.{one_a_line-append, one_a_line-last, talk_more}
use Rattle.cf_base_lines.proofs.Telling.{told_all, told_wrote, told_line, told_within}

-- ---- what the desk's steps do

-- what was answered is what was given
all_given : {O : Type 0} (rule : Rule O) (accepted : O → ℕ) (start : Moment O) (state : State O) (fed : List ℕ) → state.pending ≡ [] → (at : IsAt rule accepted start state fed) → at.given ≡ one_a_line at.answers
all_given rule accepted start state fed none at = sym (append-nil at.given) ∙ ap (λ l. at.given ++ l) (sym none) ∙ sym at.joins

-- the line goes on
pub feeds_push : {O : Type 0} (rule : Rule O) (accepted : O → ℕ) (old : State O) (line : Line) (piece pushed : List ℕ) → pushed ≡ piece → NoNewline piece → ((text : List ℕ) → IsLine old.line text → IsLine line (text ++ pushed))
    → Feeds rule accepted old (record old { line = line }) piece
feeds_push rule accepted old line piece pushed e none push start fed at = record {
  whole = at.whole;
  rest = at.rest ++ piece;
  answers = at.answers;
  given = at.given;
  cut = record {
    joins = ap (λ l. l ++ piece) at.cut.joins ∙ append_assoc (one_a_line at.whole) at.rest piece;
    whole_lines = at.cut.whole_lines;
    rest_line = All-append (λ b. b ≢ 10) at.rest piece at.cut.rest_line none;
  };
  talk = at.talk;
  joins = at.joins;
  gave = at.gave;
  told = at.told;
  line = subst (λ (l : List ℕ). IsLine line (at.rest ++ l)) e (push at.rest at.line);
}

-- answers that waited are given
pub feeds_wrote : {O : Type 0} (rule : Rule O) (accepted : O → ℕ) (old : State O) (held : Option (List ℕ)) (pending : List ℕ) → Wrote old.held held old.pending pending
    → Feeds rule accepted old (record old { held = held; pending = pending }) []
feeds_wrote rule accepted old held pending w start fed at =
    subst (IsAt rule accepted start (record old { held = held; pending = pending })) (sym (append-nil fed)) (record {
      whole = at.whole;
      rest = at.rest;
      answers = at.answers;
      given = at.given ++ w.done;
      cut = at.cut;
      talk = at.talk;
      joins = at.joins ∙ ap (λ l. at.given ++ l) w.joins ∙ sym (append_assoc at.given w.done pending);
      gave = Appends-trans start.held old.held held at.given w.done at.gave w.put;
      told = told_wrote rule accepted old.late start.office old.office at.whole at.answers at.given w.done at.told;
      line = at.line;
    })

-- no answer waits
pub feeds_told : {O : Type 0} (rule : Rule O) (accepted : O → ℕ) (old : State O) → old.pending ≡ [] → Feeds rule accepted old (record old { late = 0 }) []
feeds_told rule accepted old none start fed at =
    subst (IsAt rule accepted start (record old { late = 0 })) (sym (append-nil fed)) (record {
      whole = at.whole;
      rest = at.rest;
      answers = at.answers;
      given = at.given;
      cut = at.cut;
      talk = at.talk;
      joins = at.joins;
      gave = at.gave;
      told = told_all rule accepted start.office old.office at.whole at.answers at.given 0 at.talk (all_given rule accepted start old fed none at);
      line = at.line;
    })

-- a newline comes, and the line is answered
pub feeds_reply : {O : Type 0} (rule : Rule O) (accepted : O → ℕ) (old new : State O) → new.held ≡ old.held → old.late ≡ 0 → accepted new.office ≤ accepted old.office + new.late → ((text : List ℕ) → IsLine old.line text → Replies rule old.office text new.office old.pending new.pending)
    → IsLine new.line [] → Feeds rule accepted old new (10 ∷ [])
feeds_reply rule accepted old new held none few reply clear start fed at =
    let r : Replies rule old.office at.rest new.office old.pending new.pending = reply at.rest at.line in
    record {
      whole = at.whole ++ at.rest ∷ [];
      rest = [];
      answers = at.answers ++ r.answer ∷ [];
      given = at.given;
      cut = record {
        joins = ap (λ l. l ++ 10 ∷ []) at.cut.joins ∙ append_assoc (one_a_line at.whole) at.rest (10 ∷ []) ∙ sym (one_a_line-append at.whole at.rest []);
        whole_lines = All-append NoNewline at.whole (at.rest ∷ []) at.cut.whole_lines (All-cons NoNewline at.rest [] at.cut.rest_line (All-nil NoNewline));
        rest_line = All-nil (λ b. b ≢ 10);
      };
      talk = talk_more rule start.office at.whole at.answers old.office at.rest r.answer new.office at.talk r.answers;
      joins = one_a_line-last at.answers r.answer ∙ ap (λ l. l ++ (r.answer ++ 10 ∷ [])) at.joins ∙ append_assoc at.given old.pending (r.answer ++ 10 ∷ []) ∙ ap (λ l. at.given ++ l) (sym r.put);
      gave = subst (λ (h : Option (List ℕ)). Appends start.held h at.given) (sym held) at.gave;
      told = told_line rule accepted old.late new.late start.office old.office new.office at.whole at.answers at.given at.rest r.answer none r.answers few at.told;
      line = clear;
    }

-- a write fails: a front of the answers to the whole lines was given
pub gave_front : {O : Type 0} (rule : Rule O) (accepted : O → ℕ) (state : State O) (held : Option (List ℕ)) → state.late ≤ 1 → ((rest : List ℕ) × Wrote state.held held state.pending rest)
    → (start : Moment O) (fed : List ℕ) → IsAt rule accepted start state fed → OfWholeLines (GaveFront rule accepted start (moment_of state.office held)) fed
gave_front rule accepted state held late w start fed at = record {
  whole = at.whole;
  rest = at.rest;
  cut = at.cut;
  holds = record {
    answers = at.answers;
    rest = w.0;
    talk = at.talk;
    gave = record {
      done = at.given ++ w.1.done;
      joins = at.joins ∙ ap (λ l. at.given ++ l) w.1.joins ∙ sym (append_assoc at.given w.1.done w.0);
      put = Appends-trans start.held state.held held at.given w.1.done at.gave w.1.put;
    };
    told = told_wrote rule accepted 1 start.office state.office at.whole at.answers at.given w.1.done (told_within rule accepted state.late 1 start.office state.office at.whole at.answers at.given late at.told);
  };
}

pub breaks_write : {O : Type 0} (rule : Rule O) (accepted : O → ℕ) (state : State O) (held : Option (List ℕ)) (piece : List ℕ) → state.late ≤ 1 → ((rest : List ℕ) × Wrote state.held held state.pending rest)
    → Breaks rule accepted state (moment_of state.office held) piece
breaks_write rule accepted state held piece late w start fed at = record {
  front = [];
  back = piece;
  joins = refl;
  holds = subst (OfWholeLines (GaveFront rule accepted start (moment_of state.office held))) (sym (append-nil fed)) (gave_front rule accepted state held late w start fed at);
}

-- ---- one after another

pub feeds_trans : {O : Type 0} (rule : Rule O) (accepted : O → ℕ) (a b c : State O) (p q : List ℕ) → Feeds rule accepted a b p → Feeds rule accepted b c q → Feeds rule accepted a c (p ++ q)
feeds_trans rule accepted a b c p q f g start fed at = subst (IsAt rule accepted start c) (append_assoc fed p q) (g start (fed ++ p) (f start fed at))

pub breaks_after : {O : Type 0} (rule : Rule O) (accepted : O → ℕ) (a b : State O) (now : Moment O) (p q : List ℕ) → Feeds rule accepted a b p → Breaks rule accepted b now q → Breaks rule accepted a now (p ++ q)
breaks_after rule accepted a b now p q f breaks start fed at =
    let s : OfFront (λ front. OfWholeLines (GaveFront rule accepted start now) ((fed ++ p) ++ front)) q = breaks start (fed ++ p) (f start fed at) in
    record {
      front = p ++ s.front;
      back = s.back;
      joins = ap (λ l. p ++ l) s.joins ∙ sym (append_assoc p s.front s.back);
      holds = subst (OfWholeLines (GaveFront rule accepted start now)) (append_assoc fed p s.front) s.holds;
    }

pub breaks_in : {O : Type 0} (rule : Rule O) (accepted : O → ℕ) (a : State O) (now : Moment O) (p q : List ℕ) → Breaks rule accepted a now p → Breaks rule accepted a now (p ++ q)
breaks_in rule accepted a now p q breaks start fed at =
    let s : OfFront (λ front. OfWholeLines (GaveFront rule accepted start now) (fed ++ front)) p = breaks start fed at in
    record {
      front = s.front;
      back = s.back ++ q;
      joins = ap (λ l. l ++ q) s.joins ∙ append_assoc s.front s.back q;
      holds = s.holds;
    }

-- ---- the newlines of a piece

pub cut_at : (rest back left : List ℕ) (place : ℕ) → place < length rest → slice_index rest place ≡ 10 → back ≡ drop place rest → left ≡ drop 1 back → rest ≡ take place rest ++ 10 ∷ left
cut_at rest back left place lt here b l =
    sym (take-append-drop place rest) ∙ ap (λ t. take place rest ++ t) (split ∙ ap (λ x. x ∷ drop (suc place) rest) here ∙ ap (λ t. 10 ∷ t) (sym (l ∙ ap (drop 1) (b ∙ split))))
  where
    split : drop place rest ≡ slice_index rest place ∷ drop (suc place) rest
    split = drop-cons rest place 0 lt

pub front_line : {O : Type 0} (rule : Rule O) (accepted : O → ℕ) (old new pushed ended : State O) (piece rest front left : List ℕ) → rest ≡ front ++ 10 ∷ left
    → Feeds rule accepted new pushed front → Feeds rule accepted pushed ended (10 ∷ []) → FeedsFront rule accepted old new piece rest → FeedsFront rule accepted old ended piece left
front_line rule accepted old new pushed ended piece rest front left e push end f = record {
  front = f.front ++ (front ++ 10 ∷ []);
  joins = f.joins ∙ ap (λ l. f.front ++ l) (e ∙ sym (append_assoc front (10 ∷ []) left)) ∙ sym (append_assoc f.front (front ++ 10 ∷ []) left);
  feeds = feeds_trans rule accepted old new ended f.front (front ++ 10 ∷ []) f.feeds (feeds_trans rule accepted new pushed ended front (10 ∷ []) push end);
}

pub front_breaks : {O : Type 0} (rule : Rule O) (accepted : O → ℕ) (old new pushed : State O) (now : Moment O) (piece rest front left : List ℕ) → rest ≡ front ++ 10 ∷ left
    → Feeds rule accepted new pushed front → Breaks rule accepted pushed now (10 ∷ []) → FeedsFront rule accepted old new piece rest → Breaks rule accepted old now piece
front_breaks rule accepted old new pushed now piece rest front left e push breaks f =
    subst (Breaks rule accepted old now) (append_assoc f.front (front ++ 10 ∷ []) left ∙ ap (λ l. f.front ++ l) (append_assoc front (10 ∷ []) left ∙ sym e) ∙ sym f.joins)
    (breaks_in rule accepted old now (f.front ++ (front ++ 10 ∷ [])) left
    (breaks_after rule accepted old new now f.front (front ++ 10 ∷ []) f.feeds (breaks_after rule accepted new pushed now front (10 ∷ []) push breaks)))

pub front_last : {O : Type 0} (rule : Rule O) (accepted : O → ℕ) (old new pushed : State O) (piece rest : List ℕ) → Feeds rule accepted new pushed rest → FeedsFront rule accepted old new piece rest → Feeds rule accepted old pushed piece
front_last rule accepted old new pushed piece rest push f = subst (Feeds rule accepted old pushed) (sym f.joins) (feeds_trans rule accepted old new pushed f.front rest f.feeds push)

-- ---- the end of the input

-- so the sink took all answers
gave_answers : {O : Type 0} (rule : Rule O) (accepted : O → ℕ) (start : Moment O) (state : State O) (fed : List ℕ) → state.pending ≡ [] → (at : IsAt rule accepted start state fed) → Gave rule start (moment_of state.office state.held) at.whole
gave_answers rule accepted start state fed none at = record {
  answers = at.answers;
  talk = at.talk;
  gave = subst (Appends start.held state.held) (all_given rule accepted start state fed none at) at.gave;
}

pub gave_whole : {O : Type 0} (rule : Rule O) (accepted : O → ℕ) (state : State O) → state.pending ≡ [] → (start : Moment O) (fed : List ℕ) → IsAt rule accepted start state fed
    → OfWholeLines (Gave rule start (moment_of state.office state.held)) fed
gave_whole rule accepted state none start fed at = record { whole = at.whole; rest = at.rest; cut = at.cut; holds = gave_answers rule accepted start state fed none at }

-- the last line is answered too
record LastTalk {O : Type 0} (rule : Rule O) (accepted : O → ℕ) (start after : O) (lines : List (List ℕ)) (given new : List ℕ) (most : ℕ) : Type 0 where
  pub answers : List (List ℕ)
  pub talk : Talk rule start lines answers after
  pub joins : one_a_line answers ≡ given ++ new
  pub told : Told rule accepted most start after lines answers given

last_talk : {O : Type 0} (rule : Rule O) (accepted : O → ℕ) (start : Moment O) (state : State O) (after : O) (new : List ℕ) (fed : List ℕ) (most : ℕ) → state.late ≡ 0 → accepted after ≤ accepted state.office + most
    → ((text : List ℕ) → IsLine state.line text → last_line text ≡ text ∷ []) → ((text : List ℕ) → IsLine state.line text → Replies rule state.office text after state.pending new)
    → (at : IsAt rule accepted start state fed) → LastTalk rule accepted start.office after (at.whole ++ last_line at.rest) at.given new most
last_talk rule accepted start state after new fed most none few some reply at =
    let r : Replies rule state.office at.rest after state.pending new = reply at.rest at.line in
    subst (λ (l : List (List ℕ)). LastTalk rule accepted start.office after (at.whole ++ l) at.given new most) (sym (some at.rest at.line)) (record {
      answers = at.answers ++ r.answer ∷ [];
      talk = talk_more rule start.office at.whole at.answers state.office at.rest r.answer after at.talk r.answers;
      joins = one_a_line-last at.answers r.answer ∙ ap (λ l. l ++ (r.answer ++ 10 ∷ [])) at.joins ∙ append_assoc at.given state.pending (r.answer ++ 10 ∷ []) ∙ ap (λ l. at.given ++ l) (sym r.put);
      told = told_line rule accepted state.late most start.office state.office after at.whole at.answers at.given at.rest r.answer none r.answers few at.told;
    })

pub gave_last : {O : Type 0} (rule : Rule O) (accepted : O → ℕ) (state : State O) (after : O) (new left : List ℕ) (held : Option (List ℕ)) → state.late ≡ 0 → accepted after ≤ accepted state.office + 1
    → ((text : List ℕ) → IsLine state.line text → last_line text ≡ text ∷ []) → ((text : List ℕ) → IsLine state.line text → Replies rule state.office text after state.pending new)
    → Wrote state.held held new left → left ≡ [] → (start : Moment O) (fed : List ℕ) → IsAt rule accepted start state fed → OfAllLines (Gave rule start (moment_of after held)) fed
gave_last rule accepted state after new left held late few some reply w none start fed at =
    let t : LastTalk rule accepted start.office after (at.whole ++ last_line at.rest) at.given new 1 = last_talk rule accepted start state after new fed 1 late few some reply at in
    record {
      whole = at.whole;
      rest = at.rest;
      cut = at.cut;
      holds = record {
        answers = t.answers;
        talk = t.talk;
        gave = subst (Appends start.held held) (ap (λ l. at.given ++ l) (sym (w.joins ∙ ap (λ l. w.done ++ l) none ∙ append-nil w.done)) ∙ sym t.joins)
            (Appends-trans start.held state.held held at.given w.done at.gave w.put);
      };
    }

pub gave_last_front : {O : Type 0} (rule : Rule O) (accepted : O → ℕ) (state : State O) (after : O) (new : List ℕ) (held : Option (List ℕ)) → state.late ≡ 0 → accepted after ≤ accepted state.office + 1
    → ((text : List ℕ) → IsLine state.line text → last_line text ≡ text ∷ []) → ((text : List ℕ) → IsLine state.line text → Replies rule state.office text after state.pending new)
    → ((left : List ℕ) × Wrote state.held held new left) → (start : Moment O) (fed : List ℕ) → IsAt rule accepted start state fed → OfAllLines (GaveFront rule accepted start (moment_of after held)) fed
gave_last_front rule accepted state after new held none few some reply w start fed at =
    let t : LastTalk rule accepted start.office after (at.whole ++ last_line at.rest) at.given new 1 = last_talk rule accepted start state after new fed 1 none few some reply at in
    record {
      whole = at.whole;
      rest = at.rest;
      cut = at.cut;
      holds = record {
        answers = t.answers;
        rest = w.0;
        talk = t.talk;
        gave = record {
          done = at.given ++ w.1.done;
          joins = t.joins ∙ ap (λ l. at.given ++ l) w.1.joins ∙ sym (append_assoc at.given w.1.done w.0);
          put = Appends-trans start.held state.held held at.given w.1.done at.gave w.1.put;
        };
        told = told_wrote rule accepted 1 start.office after (at.whole ++ last_line at.rest) t.answers at.given w.1.done t.told;
      };
    }
