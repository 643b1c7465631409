use Rattle.std.proofs.Common.{◌∙◌}
use Rattle.cf_disk.proofs.Record.{advances_to, sync_adds_none}
use Rattle.cf_disk.proofs.memory.MemDiskDisk.sync.Goals as goal

pub returns-then-held-clause-images : goal.returns-then-held-clause-images
returns-then-held-clause-images c = sync_adds_none c.args.self.now c.begin.new.self _ c.in_ok-begin.ensures.ok

pub returns-then-held-clause-time : goal.returns-then-held-clause-time
returns-then-held-clause-time c =
    let added = c.in_ok-begin.ensures.ok in
    advances_to c.args.self.now c.begin.new.self _ added.first added.calls

pub returns-else-held-clause-time : goal.returns-else-held-clause-time
returns-else-held-clause-time c =
    let added = c.in_ok-begin.ensures.ok in
    let same = c.fault.ensures.same in
    advances_to c.args.self.now c.fault.new.self _ (same.first ∙ added.first) (same.calls ∙ added.calls)
