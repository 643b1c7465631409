-- For the crates above: the talk of a run, whatever its status.
use Rattle.std.proofs.Common.{ℕ, List, [], Option, inl, inr}
use Rattle.cf_base_lines.specs.Talk.{Rule, Talk}
use Rattle.cf_base_lines.specs.Run.{Moment, Told, Ends}
use Rattle.cf_base_lines.specs.declared.ended.Ended.{Ended}
use Rattle.cf_base_lines.specs.declared.ended.Ended.TheVariants as status

pub ended_talk : {O : Type 0} (rule : Rule O) (accepted : O → ℕ) (old new : Moment O) (left : Option (List ℕ)) (taken : List ℕ) (how : Ended) → Ends rule accepted old new left taken how
    → (lines : List (List ℕ)) × (answers : List (List ℕ)) × Talk rule old.office lines answers new.office
ended_talk rule accepted old new left taken status.Ok e = (_, e.2.holds.answers, e.2.holds.talk)
ended_talk rule accepted old new left taken status.ReadFault e = (_, e.1.holds.answers, e.1.holds.talk)
ended_talk rule accepted old new left taken status.WriteFault (inl e) = (_, e.1.holds.answers, e.1.holds.talk)
ended_talk rule accepted old new left taken status.WriteFault (inr e) = (_, e.holds.holds.answers, e.holds.holds.talk)
ended_talk rule accepted old new left taken status.InputLimit e = (_, e.holds.holds.answers, e.holds.holds.talk)
ended_talk rule accepted old new left taken status.NoMemory e = ([], [], e.1)
