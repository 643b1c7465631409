use Rattle.std.proofs.Common.{◌∙◌}
use Rattle.cf_disk.proofs.Record.{advances_to}
use Rattle.cf_disk.proofs.memory.MemDiskDisk.cut.Goals as goal

pub returns-in-Ok-clause-time : goal.returns-in-Ok-clause-time
returns-in-Ok-clause-time c =
    let same = c.outcome.ensures.same in
    advances_to c.args.self.now c.outcome.new.self _ same.first (same.calls ∙ c.in-Ok.ensures.record)
