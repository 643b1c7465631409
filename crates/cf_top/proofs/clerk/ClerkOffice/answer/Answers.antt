use Rattle.cf_run_status.specs.Devices.{device}
use Rattle.cf_top.proofs.Answering.{one_more}
use Rattle.cf_top.proofs.clerk.ClerkOffice.answer.Goals as goal

pub returns-clause-one : goal.returns-clause-one
returns-clause-one g c =
    one_more (device g.D.Disk.tells g.D.Disk.content g.D.Disk.is_image g.D.Disk.moment g.D.Disk.was_image g.D.Disk.faults) c.args.self.now.book c.answer_always.new.book c.args.line.now
    c.args.out.now.items c.answer_always.new.out.items (c.answer_always.ensures.answers c.args.line.now c.read_call-read.ensures.call)
