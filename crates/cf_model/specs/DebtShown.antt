-- What looks at bonds and at leave show.
use Rattle.std.specs.Prelude.{ℕ, ◌-◌, List, Option, option_map, sum_by, ℤ, pos, ◌-ℤ◌}
use Rattle.cf_calls.specs.declared.shown.Shown.{Shown}
use Rattle.cf_calls.specs.declared.shown.Shown.TheVariants as shown
use Rattle.cf_chart.specs.Common.{Plan}
use Rattle.cf_model.specs.Bonds.{Bond, coupon, earned, next_due, paid_dues}
use Rattle.cf_model.specs.Leave.{LeaveChange, leave_of}
use Rattle.cf_model.specs.RegisterRules.{due_day}
use Rattle.cf_model.specs.Results.{bond_at}

-- the interest of all closed months, less the coupons paid
abbrev pub accrued_by : ℕ → Bond → ℤ
accrued_by closed b = pos (earned closed b) -ℤ pos (sum_by (coupon b) (paid_dues b))

-- the amount issued, less the principal paid
abbrev pub outstanding : Bond → ℕ
outstanding b = b.amount - sum_by (λ p. p.principal) (paid_dues b)

-- a bond: its accrued interest, the day of its next payment, and what is owed
abbrev pub bond_shown : Plan → ℕ → ℕ → List Bond → Option Shown
bond_shown plan number closed bonds =
    option_map (λ b. shown.Bond (accrued_by closed b) (option_map (due_day plan b) (next_due b))
    (outstanding b)) (bond_at number bonds)

-- the leave of a fund's department that is left
abbrev pub leave_shown : ℕ → ℕ → List LeaveChange → Shown
leave_shown fund dept changes = shown.Leave (leave_of fund dept changes)
