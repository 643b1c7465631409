-- The bonds and leases of a legal history are numbered in the order of their issue.
use Rattle.std.proofs.Common.{◌≡◌, ℕ, ◌+◌, Bool, true, false, if◌then◌else◌, ◌==◌, List, length, option_to_list, refl, ap, arith, filter}
use Rattle.cf_base.specs.declared.calendar.Day.{Day}
use Rattle.cf_calls.specs.declared.acts.Act.{Act}
use Rattle.cf_calls.specs.declared.acts.Act.TheVariants as act
use Rattle.cf_calls.specs.declared.entry.Drawn.{Drawn}
use Rattle.cf_calls.specs.declared.entry.Entry.{Entry}
use Rattle.cf_chart.specs.Common.{Plan}
use Rattle.cf_model.specs.Common.{Bond, bond_step, bonds_by, Registers, registers_of, registers_step, bond_at, draws, IsLegal}
use Rattle.cf_model.proofs.Numbered.{AreNumbered, named_once, numbered_always, numbered_step}

abbrev AreBonds : ℕ → List Bond → Type 0
AreBonds n bonds = AreNumbered (λ (b : Bond). b.number) n bonds

-- no act changes a bond's number
number_kept : (a : Act) (b : Bond) → (bond_step a b).number ≡ b.number
number_kept (act.PayDue p) b = by_test (b.number == p.bond)
  where
    by_test : (t : Bool) → (if t then record b { paid = b.paid + 1 } else b).number ≡ b.number
    by_test true = refl
    by_test false = refl
number_kept _ b = refl

-- an issue and a lease draw the next number
numbered_new : (plan : Plan) (s : Registers) (on : Day) (a : Act) (drawn : Drawn) → drawn ≡ draws s a → AreBonds (length s.bonds) (bonds_by plan on a drawn)
numbered_new plan s on (act.Issue i) drawn e = (ap (λ (d : Drawn). d.number) e, tt)
numbered_new plan s on (act.Lease l) drawn e = (ap (λ (d : Drawn). d.second) e, tt)
numbered_new plan s on _ drawn e = tt

-- so a number names at most one
pub bonds_named : (plan : Plan) (history : List Entry) → IsLegal plan history → (k : ℕ) →
    filter (λ b. b.number == k) (registers_of plan history).bonds ≡ option_to_list (bond_at k (registers_of plan history).bonds)
bonds_named plan history legal k =
    named_once (λ (b : Bond). b.number) 0 k (registers_of plan history).bonds
    (numbered_always (λ (b : Bond). b.number) (λ (s : Registers). s.bonds) plan tt after history legal)
  where
    after : (s : Registers) (e : Entry) → e.drawn ≡ draws s e.change.act → AreBonds 0 s.bonds → AreBonds 0 (registers_step plan s e).bonds
    after s e drawn numbered =
        let a = e.change.act in
        numbered_step (λ (b : Bond). b.number) (bond_step a) (number_kept a) 0 (length s.bonds) s.bonds (bonds_by plan e.change.on a e.drawn)
        (omega arith) numbered (numbered_new plan s e.change.on a e.drawn drawn)
