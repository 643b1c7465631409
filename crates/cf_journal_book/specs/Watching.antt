-- What the entries of a history post on both bases, and what is shown of each to one who watches it
-- being opened.
use Rattle.std.specs.Prelude.{◌≡◌, ℕ, ◌+◌, List, [], ◌∷◌, length}
use Rattle.cf_budget.specs.declared.changes.LineChange.{LineChange}
use Rattle.cf_model.specs.Common.{Entry, Gov as GovBasis, act_posts, Registers, no_registers, registers_of, registers_step, Adds, IsLegal}
use Rattle.cf_calls.specs.declared.read.Basis.TheVariants.{Fund as FundBasis}
use Rattle.cf_chart.specs.Common.{Plan}
use Rattle.cf_ledger.specs.declared.post.Post.{Post}
use Rattle.cf_registers.specs.Moved.{Make, moved_by}

-- an entry at its place, from 1, with the registers before it and its posts
pub record Posted : Type 0 where
  pub place : ℕ
  pub entry : Entry
  pub before : Registers
  pub fund : List Post
  pub gov : List Post

-- an entry over the registers before it
abbrev pub posted_over : Plan → Registers → ℕ → Entry → Posted
posted_over plan s place e = record {
  place = place;
  entry = e;
  before = s;
  fund = act_posts FundBasis plan s e.change.on e.change.act;
  gov = act_posts GovBasis plan s e.change.on e.change.act;
}

abbrev pub posted_after : Plan → Registers → ℕ → List Entry → List Posted
posted_after plan s place [] = []
posted_after plan s place (e ∷ later) =
    posted_over plan s place e ∷ posted_after plan (registers_step plan s e) (place + 1) later

-- all entries of a history, oldest first
abbrev pub all_posted : Plan → List Entry → List Posted
all_posted plan history = posted_after plan no_registers 1 history

-- an entry over the history before it
abbrev pub next_posted : Plan → List Entry → Entry → Posted
next_posted plan before e = posted_over plan (registers_of plan before) (length before + 1) e

-- what is shown of an entry
abbrev pub shown_as : ℕ → Entry → Registers → List Post → List Post → Posted
shown_as place e before fund gov =
    record { place = place; entry = e; before = before; fund = fund; gov = gov }

-- this is shown of the entry that comes next in a legal history, and these are its changes of line
-- numbers
pub record IsNext (plan : Plan) (history : List Entry) (x : Posted)
    (changes : List LineChange) : Type 0 where
  pub legal : IsLegal plan history
  pub adds : Adds plan history x.entry
  pub posted : x ≡ next_posted plan history x.entry
  pub makes : Make plan (moved_by plan x.before x.entry.change.on x.entry.change.act) changes
