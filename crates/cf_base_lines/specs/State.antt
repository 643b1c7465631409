-- Where a desk stands inside a run.
use Rattle.std.specs.Prelude.{◌≡◌, ℕ, ◌<◌, ◌+◌, ◌^◌, List, [], ◌∷◌, ◌++◌, length, MatchBool, Option}
use Rattle.std.specs.Io.KnownBytes.{Appends, Consumes}
use Rattle.cf_base_lines.specs.Lines.{one_a_line, IsCut, OfWholeLines, OfFront}
use Rattle.cf_base_lines.specs.Talk.{Rule, Talk, Answers}
use Rattle.cf_base_lines.specs.Run.{Moment, Told, GaveFront}
use Rattle.cf_base_lines.specs.declared.line.Line.{Line}

-- the line that is being read is this so far
abbrev pub IsLine : Line → List ℕ → Type 0
IsLine line text = MatchBool line.long (262144 < length text) (line.bytes.items ≡ text)

-- a desk's answer to a line was appended
pub record Puts {O : Type 0} (rule : Rule O) (before : O) (line : List ℕ) (after : O)
    (old new : List ℕ) : Type 0 where
  pub answer : List ℕ
  pub put : new ≡ old ++ answer
  pub answers : Answers rule before line answer after

-- the answer and a newline were appended
pub record Replies {O : Type 0} (rule : Rule O) (before : O) (line : List ℕ) (after : O)
    (old new : List ℕ) : Type 0 where
  pub answer : List ℕ
  pub put : new ≡ old ++ (answer ++ 10 ∷ [])
  pub answers : Answers rule before line answer after

-- a desk's state: its office, what its sink holds, the line that it reads, the answers that wait,
-- and how many changes may have been accepted whose answers wait
pub record State (O : Type 0) : Type 0 where
  pub office : O
  pub held : Option (List ℕ)
  pub line : Line
  pub pending : List ℕ
  pub late : ℕ

-- between two lines no answer of an accepted change waits
abbrev pub state_of : {O : Type 0} → O → Option (List ℕ) → Line → List ℕ → State O
state_of office held line pending =
    record { office = office; held = held; line = line; pending = pending; late = 0 }

-- Since the start the desk was fed these bytes: their whole lines were answered, each answer was
-- given or waits, and the rest is the line that it reads.
pub record IsAt {O : Type 0} (rule : Rule O) (accepted : O → ℕ) (start : Moment O) (state : State O)
    (fed : List ℕ) : Type 0 where
  pub whole : List (List ℕ)
  pub rest : List ℕ
  pub answers : List (List ℕ)
  pub given : List ℕ
  pub cut : IsCut fed whole rest
  pub talk : Talk rule start.office whole answers state.office
  pub joins : one_a_line answers ≡ given ++ state.pending
  pub gave : Appends start.held state.held given
  pub told : Told rule accepted state.late start.office state.office whole answers given
  pub line : IsLine state.line rest

-- whatever it was fed before, the piece leads it from one state to the other
abbrev pub Feeds : {O : Type 0} → Rule O → (O → ℕ) → State O → State O → List ℕ → Type 0
Feeds rule accepted old new piece = (start : Moment _) (fed : List ℕ)
    → IsAt rule accepted start old fed → IsAt rule accepted start new (fed ++ piece)

-- whatever it was fed before, it stops within the piece, and a front of the answers was given
abbrev pub Breaks : {O : Type 0} → Rule O → (O → ℕ) → State O → Moment O → List ℕ → Type 0
Breaks rule accepted old now piece =
    (start : Moment _) (fed : List ℕ) → IsAt rule accepted start old fed
    → OfFront (λ front. OfWholeLines (GaveFront rule accepted start now) (fed ++ front)) piece

-- a front of the piece was fed, and the rest is left
pub record FeedsFront {O : Type 0} (rule : Rule O) (accepted : O → ℕ) (old new : State O)
    (piece rest : List ℕ) : Type 0 where
  pub front : List ℕ
  pub joins : piece ≡ front ++ rest
  pub feeds : Feeds rule accepted old new front

-- a desk that reads: what it took since the start, and how much more it may take
pub record Reading {O : Type 0} (rule : Rule O) (accepted : O → ℕ) (start : Moment O)
    (left_first : Option (List ℕ)) (state : State O) (left : Option (List ℕ))
    (most : ℕ) : Type 0 where
  pub taken : List ℕ
  pub took : Consumes left_first left taken
  pub counted : length taken + most ≡ 2 ^ 40 + 1
  pub at : IsAt rule accepted start state taken
