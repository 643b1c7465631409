-- What contracts see of the registers.
use Rattle.std.specs.Prelude.{◌≡◌, ◌≤◌, ◌<◌, ℕ, true, List, [], ◌∷◌, Option, Some, None}
use Rattle.cf_assets.specs.Register as assets
use Rattle.cf_model.specs.Common.{Day, Act, Entry, Read, Refusal, Shown, asset_shown, document_year, bond_shown, leave_shown, document_refusal, number_of_day, receivable_refusal, bill_shown, asset_refusal, debt_refusal, levy_refusal, Registers, draws, amount_refusal}
use Rattle.cf_base.specs.Common.{is_day, most_entries}
use Rattle.cf_calls.specs.declared.read.Read.TheVariants as read
use Rattle.cf_calls.specs.Common.{IsActInForm}
use Rattle.cf_chart.specs.Common.{Plan}
use Rattle.cf_debt.specs.Register as debt
use Rattle.cf_orders.specs.Register as orders
use Rattle.cf_orders.specs.Register.{document_shown}
use Rattle.cf_revenue.specs.Register as revenue

pub record RegistersState : Type 0 where
  pub registers : Registers
  -- the documents' own: their memory, and the acts that were applied
  pub orders : orders.Register
  -- the receivables' own
  pub revenue : revenue.Register
  -- the assets' own
  pub assets : assets.Register
  -- the bonds' and the leave's own
  pub debt : debt.Register

-- each register has the memory of an act
pub record HasRoomFor (act : Act) (s : RegistersState) : Type 0 where
  pub orders : orders.HasRoomFor act s.registers.documents s.orders.room
  pub revenue : revenue.HasRoomFor act s.revenue
  pub assets : assets.HasRoomFor act s.assets.room
  pub debt : debt.HasRoomFor act s.debt

-- each register took in so many acts
pub record HaveTaken (n : ℕ) (s : RegistersState) : Type 0 where
  pub orders : s.orders.acts ≡ n
  pub revenue : s.revenue.acts ≡ n
  pub assets : s.assets.acts ≡ n
  pub debt : s.debt.acts ≡ n

-- the rules of the registers, in their order
abbrev pub register_rules : Plan → Registers → Day → ℕ → Act → List (Option Refusal)
register_rules plan s on desk act =
    document_refusal plan s.documents on desk act ∷ receivable_refusal s.receivables act
    ∷ asset_refusal s on act ∷ debt_refusal plan s on act ∷ []

-- registers that can take an entry in: the rules allow its act, it has the next numbers, and there
-- is memory
pub record CanTakeIn (plan : Plan) (s : RegistersState) (e : Entry) : Type 0 where
  pub room : HasRoomFor e.change.act s
  pub day : is_day e.change.on ≡ true
  pub form : IsActInForm e.change.on e.change.act
  pub amounts : amount_refusal e.change.act ≡ None
  pub early : s.registers.closed ≤ number_of_day plan e.change.on
  pub year : plan.first_year ≤ document_year plan e.change.on e.change.act
  pub there : debt.IsThere s.registers.bonds e.change.act
  pub levied : levy_refusal plan s.registers e.change.on e.change.act ≡ None
  pub documents : document_refusal plan s.registers.documents e.change.on e.change.desk e.change.act
      ≡ None
  pub receivables : receivable_refusal s.registers.receivables e.change.act ≡ None
  pub assets : asset_refusal s.registers e.change.on e.change.act ≡ None
  pub debt : debt_refusal plan s.registers e.change.on e.change.act ≡ None
  pub drawn : e.drawn ≡ draws s.registers e.change.act
  pub taken : HaveTaken s.orders.acts s
  pub few : s.orders.acts < most_entries

-- what a look at a document, a bill, an asset, a bond or leave shows
abbrev pub register_shown : Plan → Registers → Read → Option Shown
register_shown plan s (read.Bill n) = bill_shown n s.receivables
register_shown plan s (read.Asset n) = asset_shown n s.closed s.assets
register_shown plan s (read.Bond n) = bond_shown plan n s.closed s.bonds
register_shown plan s (read.Leave fund dept) = Some (leave_shown fund dept s.leave)
register_shown plan s read = document_shown plan s.documents read
