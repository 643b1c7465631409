-- What the definitions' step makes of debt, by the kind of the act.
use Rattle.std.proofs.Common.{◌≡◌, ◌⊎◌, List, [], ◌++◌, map, ap, ◌∙◌, arith}
use Rattle.cf_base.proofs.Common.{append-nil, map-id}
use Rattle.cf_model.specs.Common.{Act, BondIssue, DebtPayment, LeaveAct, NewLease, Period, Entry, Bond, bond_step, bonds_by, leave_by, closed_after, registers_step}
use Rattle.cf_calls.specs.declared.acts.Act.TheVariants as act
use Rattle.cf_chart.specs.Common.{Plan}
use Rattle.cf_debt.specs.Register.{Debts, debts_of, registers_with}
use Rattle.cf_register_parts.proofs.Acts.{Is}

-- debt after an entry
abbrev pub stepped : Plan → Debts → Entry → Debts
stepped plan d e = debts_of (registers_step plan (registers_with d) e)

-- an entry of another act
abbrev with_act : Entry → Act → Entry
with_act e a = record e { change = record e.change { act = a } }

pub issue_step : (plan : Plan) (d : Debts) (e : Entry) (i : BondIssue) → e.change.act ≡ act.Issue i → stepped plan d e ≡ record d { bonds = d.bonds ++ bonds_by plan e.change.on (act.Issue i) e.drawn }
issue_step plan d e i is = ap (λ a. stepped plan d (with_act e a)) is ∙ (λ k. record { bonds = map-id d.bonds k ++ bonds_by plan e.change.on (act.Issue i) e.drawn; leave = append-nil d.leave k; closed = d.closed })

pub lease_step : (plan : Plan) (d : Debts) (e : Entry) (l : NewLease) → e.change.act ≡ act.Lease l → stepped plan d e ≡ record d { bonds = d.bonds ++ bonds_by plan e.change.on (act.Lease l) e.drawn }
lease_step plan d e l is = ap (λ a. stepped plan d (with_act e a)) is ∙ (λ k. record { bonds = map-id d.bonds k ++ bonds_by plan e.change.on (act.Lease l) e.drawn; leave = append-nil d.leave k; closed = d.closed })

pub pay_step : (plan : Plan) (d : Debts) (e : Entry) (p : DebtPayment) → e.change.act ≡ act.PayDue p → stepped plan d e ≡ record d { bonds = map (bond_step (act.PayDue p)) d.bonds }
pay_step plan d e p is = ap (λ a. stepped plan d (with_act e a)) is ∙ (λ k. record { bonds = append-nil (map (bond_step (act.PayDue p)) d.bonds) k; leave = append-nil d.leave k; closed = d.closed })

-- the bonds after an act that neither enters nor pays one
bonds_stay : (bonds : List Bond) → map (λ (b : Bond). b) bonds ++ [] ≡ bonds
bonds_stay bonds = append-nil (map (λ (b : Bond). b) bonds) ∙ map-id bonds

pub leave_step : (plan : Plan) (d : Debts) (e : Entry) (l : LeaveAct) → e.change.act ≡ act.Leave l → stepped plan d e ≡ record d { leave = d.leave ++ leave_by plan e.change.on (act.Leave l) }
leave_step plan d e l is = ap (λ a. stepped plan d (with_act e a)) is ∙ (λ k. record { bonds = bonds_stay d.bonds k; leave = d.leave ++ leave_by plan e.change.on (act.Leave l); closed = d.closed })

pub close_step : (plan : Plan) (d : Debts) (e : Entry) (p : Period) → e.change.act ≡ act.Close p → stepped plan d e ≡ record d { closed = closed_after (act.Close p) d.closed }
close_step plan d e p is = ap (λ a. stepped plan d (with_act e a)) is ∙ (λ k. record { bonds = bonds_stay d.bonds k; leave = append-nil d.leave k; closed = closed_after (act.Close p) d.closed })

-- an act that is none of debt's
abbrev pub IsOther : Act → Type 0
IsOther a =
    Is act.Adopt a ⊎ (Is act.Amend a ⊎ (Is act.Transfer a ⊎ (Is act.Requisition a ⊎ (Is act.Withdraw a ⊎ (Is act.Order a ⊎ (Is act.ChangeOrder a ⊎ (Is act.CancelOrder a ⊎ (Is act.Voucher a
    ⊎ (Is act.VoidVoucher a ⊎ (Is act.Pay a ⊎ (Is act.Bill a ⊎ (Is act.Collect a ⊎ (Is act.Receive a ⊎ (Is act.WriteOff a ⊎ (Is act.Asset a ⊎ Is act.Interfund a)))))))))))))))

-- it leaves debt as it is
pub quiet_step : (plan : Plan) (d : Debts) (e : Entry) → IsOther e.change.act → stepped plan d e ≡ d
quiet_step plan d e other = by_act e.change.act other
  where
    by_act : (a : Act) → IsOther a → stepped plan d (with_act e a) ≡ d
    by_act (act.Issue i) is = absurd (grind arith)
    by_act (act.PayDue p) is = absurd (grind arith)
    by_act (act.Leave l) is = absurd (grind arith)
    by_act (act.Close p) is = absurd (grind arith)
    by_act (act.Lease l) is = absurd (grind arith)
    by_act _ is = λ k. record { bonds = bonds_stay d.bonds k; leave = append-nil d.leave k; closed = d.closed }
