-- What a hall is opened with.
use Rattle.std.specs.Prelude.{◌≡◌, ℕ, List, [], ◌∷◌, get_or, Option, Some, None}
use Rattle.atomic_table.specs.Seated.{TableId}
use Rattle.cf_turns.specs.Lists.{TaggedEntry}
use Rattle.cf_turns.specs.States.{PassState, RecorderState}
use Rattle.cf_hall.specs.declared.opening.Blanks.{Blanks}

-- the recorder of an empty list
abbrev pub first_recorder : TableId → RecorderState
first_recorder table =
    record { table = table; list = []; opened = 0; ended = []; floor = 0; failed = [] }

-- the name of a stripe's ledger, and its parts
abbrev pub name_at : Blanks → ℕ → ℕ
name_at b k = get_or
    (b.first.name ∷ b.second.name ∷ b.third.name ∷ b.fourth.name ∷ b.fifth.name ∷ b.sixth.name
    ∷ b.seventh.name ∷ b.eighth.name ∷ []) k 0

abbrev pub part_at : Blanks → ℕ → ℕ
part_at b k = get_or
    (b.first.parts ∷ b.second.parts ∷ b.third.parts ∷ b.fourth.parts ∷ b.fifth.parts ∷ b.sixth.parts
    ∷ b.seventh.parts ∷ b.eighth.parts ∷ []) k 0

-- a tie that is there has seen this list
abbrev pub HasSeen : TableId → List TaggedEntry → Option PassState → Type 0
HasSeen table list None = ⊥
HasSeen table list (Some p) = (p.table ≡ table) × (p.seen ≡ list)
