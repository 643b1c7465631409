-- What contracts see of the register.
use Rattle.std.specs.Prelude.{◌≡◌, ℕ, ◌+◌, ◌<◌, ◌≤◌, true, List, length, Option, Some, None, is_some}
use Rattle.cf_model.specs.Common.{Day, Act, LeaveAct, Earn, Use, Mature, Drawn, Bond, Due, coupon, next_due, changes_of, LeaveChange, number_of_day, year_at, Refusal, due_day, unpaid, Registers, no_registers, bond_at, payment_number}
use Rattle.cf_calls.specs.declared.acts.Act.TheVariants as act
use Rattle.cf_chart.specs.Common.{Plan}
use Rattle.cf_debt.specs.declared.debt.Due.{Due as DueNow}
use Rattle.cf_debt.specs.declared.sums.DebtChanges.{DebtChanges}
use Rattle.cf_calls.specs.declared.refusal.Refusal.TheVariants as refusal
use Rattle.cf_register_parts.specs.Pairs.{Pairs, has_value}

-- what the registers have of debt
pub record Debts : Type 0 where
  pub bonds : List Bond
  pub leave : List LeaveChange
  -- the closed months are the first so many
  pub closed : ℕ

abbrev pub debts_of : Registers → Debts
debts_of s = record { bonds = s.bonds; leave = s.leave; closed = s.closed }

-- registers that have nothing else
abbrev pub registers_with : Debts → Registers
registers_with d = record no_registers { bonds = d.bonds; leave = d.leave; closed = d.closed }

-- for how many rows more of each kind there is memory, and what is left of the leave of those
-- departments that have memory for it
pub record Room : Type 0 where
  pub bonds : ℕ
  pub live : ℕ
  pub payments : ℕ
  pub leave : ℕ
  pub left : Pairs ℕ

pub record Register : Type 0 where
  pub debts : Debts
  -- the acts that were applied
  pub acts : ℕ
  pub room : Room

-- there is memory for a bond of so many payments, and for a change of a department's leave
pub record HasRoomToIssue (count : ℕ) (r : Register) : Type 0 where
  pub row : 0 < r.room.bonds
  pub live : 0 < r.room.live
  pub payments : count ≤ r.room.payments

pub record HasRoomForLeave (fund dept : ℕ) (r : Register) : Type 0 where
  pub row : 0 < r.room.leave
  pub account : has_value r.room.left fund dept ≡ true

abbrev pub HasRoomToChange : LeaveAct → Register → Type 0
HasRoomToChange (Earn l) r = HasRoomForLeave l.fund l.dept r
HasRoomToChange (Use l) r = HasRoomForLeave l.fund l.dept r
HasRoomToChange (Mature l) r = HasRoomForLeave l.fund l.dept r

-- there is memory for what an act adds
abbrev pub HasRoomFor : Act → Register → Type 0
HasRoomFor (act.Issue i) r = HasRoomToIssue (length i.terms.principals) r
HasRoomFor (act.Lease l) r = HasRoomToIssue (length l.terms.principals) r
HasRoomFor (act.Leave l) r = HasRoomToChange l r
HasRoomFor _ r = Unit {0}

-- the numbers that an act draws of bonds alone: the next bond's, as a lease's second, or the next
-- payment's of a bond that is there to be paid
abbrev pub debt_draws : List Bond → Act → Drawn
debt_draws bonds (act.Issue i) = record { number = length bonds + 1; second = 0 }
debt_draws bonds (act.Lease l) = record { number = 0; second = length bonds + 1 }
debt_draws bonds (act.PayDue p) =
    record { number = payment_number (bond_at p.bond bonds); second = 0 }
debt_draws bonds _ = record { number = 0; second = 0 }

-- the refusal of a close by a bond with a payment due on a day
abbrev pub debt_due_of : ℕ → Day → Refusal
debt_due_of number day = refusal.DebtDue number day

abbrev pub debt_due : ℕ × Day → Refusal
debt_due x = debt_due_of x.0 x.1

abbrev pub unpaid_of : Plan → ℕ → Bond → Option Refusal
unpaid_of plan closed b = unpaid plan closed b (next_due b)

-- a bond that is paid is there
abbrev pub IsThere : List Bond → Act → Type 0
IsThere bonds (act.PayDue p) = is_some (bond_at p.bond bonds) ≡ true
IsThere bonds _ = Unit {0}

-- the month in which a bond is issued, or a lease begins, isn't closed
abbrev pub IsEarlyIssue : Plan → Debts → Day → Act → Type 0
IsEarlyIssue plan d on (act.Issue i) = d.closed ≤ number_of_day plan on
IsEarlyIssue plan d on (act.Lease l) = d.closed ≤ number_of_day plan on
IsEarlyIssue plan d on _ = Unit {0}

-- a bond has the next bond's number, as a lease has for its second, and a payment that of the next
-- payment of its bond
abbrev pub IsNext : Act → Drawn → Register → Type 0
IsNext (act.Issue i) drawn r = drawn.number ≡ length r.debts.bonds + 1
IsNext (act.Lease l) drawn r = drawn.second ≡ length r.debts.bonds + 1
IsNext (act.PayDue p) drawn r = drawn.number ≡ payment_number (bond_at p.bond r.debts.bonds)
IsNext _ drawn r = Unit {0}

-- ---- what is due next

abbrev pub due_of : Plan → Bond → Due → DueNow
due_of plan b p = record {
  is_lease = b.is_lease;
  payment = b.paid + 1;
  day = due_day plan b p;
  year = year_at plan p.month;
  principal = p.principal;
  interest = coupon b p;
}

abbrev pub due_if : Plan → Bond → Option Due → Option DueNow
due_if plan b None = None
due_if plan b (Some p) = Some (due_of plan b p)

-- the next payment of a bond: none where there is no such bond, and where all are paid
abbrev pub due_now : Plan → Option Bond → Option DueNow
due_now plan None = None
due_now plan (Some b) = due_if plan b (next_due b)

-- ---- what bonds and leases add to the change of a fiscal year

abbrev pub debt_changes : Plan → ℕ → Registers → DebtChanges
debt_changes plan year s =
    record {
      proceeds = (changes_of plan year s).proceeds;
      leases_issued = (changes_of plan year s).leases_issued;
      principal_paid = (changes_of plan year s).principal;
    }
