-- A whole run of a desk.
use Rattle.std.specs.Prelude.{◌≡◌, ℕ, ◌≤◌, ◌^◌, List, [], ◌∷◌, ◌++◌, ◌+◌, length, Option, ◌⊎◌}
use Rattle.std.specs.Io.KnownBytes.{Appends, Consumes, IsAtEnd}
use Rattle.cf_base_lines.specs.Lines.{one_a_line, OfWholeLines, OfAllLines, OfFront}
use Rattle.cf_base_lines.specs.Talk.{Rule, Talk}
use Rattle.cf_base_lines.specs.Sinks.{Wrote}
use Rattle.cf_base_lines.specs.declared.ended.Ended.{Ended}
use Rattle.cf_base_lines.specs.declared.ended.Ended.TheVariants as status

-- an office, and what its sink holds, where the sink tells it
pub record Moment (O : Type 0) : Type 0 where
  pub office : O
  pub held : Option (List ℕ)

abbrev pub moment_of : {O : Type 0} → O → Option (List ℕ) → Moment O
moment_of office held = record { office = office; held = held }

-- the lines were answered, and the sink took all answers, one a line
pub record Gave {O : Type 0} (rule : Rule O) (old new : Moment O)
    (lines : List (List ℕ)) : Type 0 where
  pub answers : List (List ℕ)
  pub talk : Talk rule old.office lines answers new.office
  pub gave : Appends old.held new.held (one_a_line answers)

-- The lines that were answered fall in two: what was given has the whole answers to the first ones,
-- and while the others were answered at most so many changes were accepted.
pub record Told {O : Type 0} (rule : Rule O) (accepted : O → ℕ) (most : ℕ) (start now : O)
    (lines answers : List (List ℕ)) (given : List ℕ) : Type 0 where
  pub first : List (List ℕ)
  pub others : List (List ℕ)
  pub said : List (List ℕ)
  pub unsaid : List (List ℕ)
  pub told : O
  pub lines_are : lines ≡ first ++ others
  pub answers_are : answers ≡ said ++ unsaid
  pub before : Talk rule start first said told
  pub since : Talk rule told others unsaid now
  pub more : List ℕ
  pub given_are : given ≡ one_a_line said ++ more
  pub few : accepted now ≤ accepted told + most

-- The lines were answered, and the sink took a front of the answers. At most one accepted change is
-- without its answer.
pub record GaveFront {O : Type 0} (rule : Rule O) (accepted : O → ℕ) (old new : Moment O)
    (lines : List (List ℕ)) : Type 0 where
  pub answers : List (List ℕ)
  pub rest : List ℕ
  pub talk : Talk rule old.office lines answers new.office
  pub gave : Wrote old.held new.held (one_a_line answers) rest
  pub told : Told rule accepted 1 old.office new.office lines answers gave.done

-- 2^40 bytes were taken and one more, and these have the property
pub record PastLimit (P : List ℕ → Type 0) (taken : List ℕ) : Type 0 where
  pub limit : List ℕ
  pub more : ℕ
  pub joins : taken ≡ limit ++ more ∷ []
  pub count : length limit ≡ 2 ^ 40
  pub holds : P limit

-- what a status says, where these bytes were taken and these are left: Ok: the input is at its end,
-- and all answers were given; ReadFault: the answers to the lines that were whole were given;
-- WriteFault: a front of the answers was given, over all lines at the input's end, or over the
-- whole lines of a front of the bytes, since bytes are taken in large pieces; at most one accepted
-- change is without its answer
abbrev pub Ends : {O : Type 0} → Rule O → (O → ℕ) → Moment O → Moment O → Option (List ℕ) → List ℕ
    → Ended → Type 0
Ends rule accepted old new left taken status.Ok = IsAtEnd left × (length taken ≤ 2 ^ 40)
    × OfAllLines (Gave rule old new) taken
Ends rule accepted old new left taken status.ReadFault = (length taken ≤ 2 ^ 40)
    × OfWholeLines (Gave rule old new) taken
Ends rule accepted old new left taken status.WriteFault =
    (IsAtEnd left × OfAllLines (GaveFront rule accepted old new) taken)
    ⊎ OfFront (OfWholeLines (GaveFront rule accepted old new)) taken
Ends rule accepted old new left taken status.InputLimit =
    PastLimit (OfWholeLines (Gave rule old new)) taken
Ends rule accepted old new left taken status.NoMemory = (taken ≡ []) × (new.office ≡ old.office)
    × (new.held ≡ old.held)

-- the outcome of a run: the bytes that it took, and what its status says of them
pub record Outcome {O : Type 0} (rule : Rule O) (accepted : O → ℕ) (old new : Moment O)
    (left_old left_new : Option (List ℕ)) (result : Ended) : Type 0 where
  pub taken : List ℕ
  pub took : Consumes left_old left_new taken
  pub ends : Ends rule accepted old new left_new taken result
