use Rattle.std.proofs.Common.{◌≡◌, List, [], length, ap, ◌∙◌, arith}
use Rattle.cf_turns.specs.Lists.{TaggedEntry, longer}
use Rattle.cf_turns.specs.States.{PassState, RecorderState}
use Rattle.cf_hall.proofs.Longer.{longer_second}
use Rattle.cf_hall.proofs.book.HallBook.open_pass.Goals as goal

pub returns-clause-seen : goal.returns-clause-seen
returns-clause-seen g c =
    let list : List TaggedEntry = c.self.inside.recording.list in
    let same : c.open_pass-pass.new.self.list ≡ list = ap (λ (r : RecorderState). r.list) c.open_pass-pass.ensures.recorder in
    let seen : c.tell.new.pass.seen ≡ list =
    ap (λ (p : PassState). p.seen) c.tell.ensures.pass ∙ (λ i. longer (c.open_pass-pass.ensures.fresh.0 i) (same i)) ∙ longer_second [] list (omega arith) in
    omega (arith, c.self.invariant.from, ap length seen)
