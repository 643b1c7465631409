-- The office's state, but for line numbers, as contracts see it.
use Rattle.std.specs.Prelude.{◌≡◌, ◌≤◌, ◌<◌, ℕ, Bool, true, if◌then◌else◌, List, length, Option, Some, None, IfSome, unwrap_or}
use Rattle.std.specs.Vec.{vec_len, vec_capacity}
use Rattle.cf_base.specs.Common.{last_fiscal_year, most_entries}
use Rattle.cf_model.specs.Common.{Act, Adoption, Entry, Gov, open_year, registers_of, results_of, posts_in, place_from, adopted_at, Adds, IsLegal}
use Rattle.cf_calls.specs.declared.read.Basis.TheVariants.{Fund}
use Rattle.cf_calls.specs.Common.{adopts, adoption_of}
use Rattle.cf_calls.specs.Same.{same_key}
use Rattle.cf_register_parts.specs.Pairs.{Pairs, value_of, has_value}
use Rattle.cf_registers.specs.AccountsState.{AreReadyFor}
use Rattle.cf_registers.specs.RegistersState.{HasRoomFor, HaveTaken}
use Rattle.cf_office_history.specs.RestState.{RestState}
use Rattle.cf_office_history.specs.Keys.{key_number, has_key, place_of}
use Rattle.cf_office_history.specs.declared.rest.Rest.TheInside.{Inside}

abbrev pub rest_state : Inside → RestState
rest_state a = record { plan = a.chart; entries = a.entries.items; ready = a.ready }

-- whether an act that is an adoption has its budget reserved
abbrev pub has_budget : Pairs ℕ → Option Adoption → Bool
has_budget table None = true
has_budget table (Some a) = has_value table a.fund a.year

-- each fund's budget of a year reads as before, or this place where the act adopts it
abbrev pub PutsBudget : Pairs ℕ → Pairs ℕ → Act → ℕ → Type 0
PutsBudget old new act place =
    (fund year : ℕ) → unwrap_or (value_of new fund year) 0
    ≡ (if adopts fund year act then place else unwrap_or (value_of old fund year) 0)

-- the memory of an entry is taken
pub record IsReady (a : Inside) (e : Entry) : Type 0 where
  pub adds : Adds a.chart a.entries.items e
  pub key : has_key a.known e.change.desk e.change.key ≡ true
  pub budget : has_budget a.adopted.entries (adoption_of e.change.act) ≡ true
  pub registers : HasRoomFor e.change.act a.registers
  pub posts : AreReadyFor a.accounts a.chart a.registers.registers e.change.on e.change.act
  pub place : vec_len a.entries < vec_capacity a.entries
  pub result : vec_len a.results < vec_capacity a.results

-- the entries are a legal history under the chart, and each register stands for what it is of them
pub record StandsForHistory (a : Inside) : Type 0 where
  pub legal : IsLegal a.chart a.entries.items
  pub few : length a.entries.items ≤ most_entries
  pub known : (desk : ℕ) (key : List ℕ)
      → place_of (key_number a.known desk key)
      ≡ place_from 1 (λ e. same_key desk key e.change) a.entries.items
  pub adopted : (fund year : ℕ)
      → place_of (unwrap_or (value_of a.adopted.entries fund year) 0)
      ≡ adopted_at fund year a.entries.items
  pub results : a.results.items ≡ results_of a.chart a.entries.items
  pub registers : a.registers.registers ≡ registers_of a.chart a.entries.items
  pub taken : HaveTaken (length a.entries.items) a.registers
  pub first_year : a.chart.first_year ≤ last_fiscal_year
  pub years : a.open_year ≡ open_year a.chart a.entries.items
  pub fund : a.accounts.fund ≡ posts_in Fund a.chart a.entries.items
  pub gov : a.accounts.gov ≡ posts_in Gov a.chart a.entries.items
  pub ready : IfSome a.ready (IsReady a)
