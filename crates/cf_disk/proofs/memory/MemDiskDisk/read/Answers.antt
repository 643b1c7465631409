use Rattle.std.proofs.Common.{◌∙◌}
use Rattle.cf_disk.proofs.Record.{advances_to}
use Rattle.cf_disk.proofs.memory.MemDiskDisk.read.Goals as goal

pub returns-in_err-outcome-clause-time : goal.returns-in_err-outcome-clause-time
returns-in_err-outcome-clause-time c =
    let added = c.in_ok-begin.ensures.ok in
    let same = c.outcome.ensures.same in
    advances_to c.args.self.now c.outcome.new.self _ (same.first ∙ added.first) (same.calls ∙ added.calls)

pub returns-clause-time : goal.returns-clause-time
returns-clause-time c =
    let added = c.in_ok-begin.ensures.ok in
    let same = c.outcome.ensures.same in
    advances_to c.args.self.now c.outcome.new.self _ (same.first ∙ added.first) (same.calls ∙ added.calls)
