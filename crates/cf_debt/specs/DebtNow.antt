-- What is shown of a bond, and of leave.
use Rattle.std.specs.Prelude.{ℕ, Option, Some, None, option_map}
use Rattle.cf_model.specs.Common.{Read, Shown, Bond, next_due, accrued_by, bond_shown, leave_shown, outstanding, due_day}
use Rattle.cf_calls.specs.declared.read.Read.TheVariants as read
use Rattle.cf_calls.specs.declared.shown.Shown.TheVariants as shown
use Rattle.cf_chart.specs.Common.{Plan}
use Rattle.cf_debt.specs.Register.{Debts}

abbrev pub show_bond : Plan → ℕ → Bond → Shown
show_bond plan closed b =
    shown.Bond (accrued_by closed b) (option_map (due_day plan b) (next_due b)) (outstanding b)

-- what a look at a bond or at leave shows
abbrev pub debt_shown : Plan → Debts → Read → Option Shown
debt_shown plan d (read.Bond number) = bond_shown plan number d.closed d.bonds
debt_shown plan d (read.Leave fund dept) = Some (leave_shown fund dept d.leave)
debt_shown plan d _ = None
