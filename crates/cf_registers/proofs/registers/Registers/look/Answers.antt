use Rattle.std.proofs.Common.{◌≡◌, ◌⊎◌, ℕ, Some, refl, arith}
use Rattle.cf_model.specs.Common.{Read, bond_shown, leave_shown, Registers}
use Rattle.cf_calls.specs.declared.read.Read.TheVariants.{Bond, Leave}
use Rattle.cf_chart.specs.Common.{Plan}
use Rattle.cf_debt.specs.DebtNow.{debt_shown}
use Rattle.cf_debt.specs.Register.{Debts}
use Rattle.cf_registers.specs.RegistersState.{register_shown}
use Rattle.cf_registers.specs.RegistersView.{registers_state}
use Rattle.cf_registers.proofs.registers.Registers.look.Goals as goal

-- what debt shows of a bond, and of leave
debt_shows : (plan : Plan) (d : Debts) (s : Registers) (read : Read) → d.bonds ≡ s.bonds → d.leave ≡ s.leave → d.closed ≡ s.closed → ((n : ℕ) × (read ≡ Bond n)) ⊎ ((fund : ℕ) × (dept : ℕ) × (read ≡ Leave fund dept)) →
    debt_shown plan d read ≡ register_shown plan s read
debt_shows plan d s (Bond n) bonds leave closed is = λ i. bond_shown plan n (closed i) (bonds i)
debt_shows plan d s (Leave fund dept) bonds leave closed is = λ i. Some (leave_shown fund dept (leave i))
debt_shows plan d s _ bonds leave closed is = grind arith

pub returns-in-Bond : goal.returns-in-Bond
returns-in-Bond c =
    let plan = c.args.chart.now in
    let d = c.self.inside.debt.debts in
    let s = (registers_state c.self.inside).registers in
    rw (← c.self.view_is, c.look-in-Bond.ensures) (debt_shows plan d s c.args.read.now refl refl c.self.invariant.closed c.in-Bond.is)
