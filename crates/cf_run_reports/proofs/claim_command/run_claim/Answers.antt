use Rattle.std.proofs.Common.{refl}
use Rattle.cf_run_status.specs.Devices.{device}
use Rattle.cf_run_reports.proofs.Claiming.{claim_ends, claim_refused, no_disk_fault}
use Rattle.cf_run_reports.proofs.claim_command.run_claim.Goals as goal

pub returns-in-Ok-clause-ends : goal.returns-in-Ok-clause-ends
returns-in-Ok-clause-ends g c =
    claim_ends (device g.D.Disk.tells g.D.Disk.content g.D.Disk.is_image g.D.Disk.moment g.D.Disk.was_image g.D.Disk.faults) c.args.grant c.args.on c.args.desk c.args.disk
    (g.I.Source.left c.args.input.now) (g.I.Source.left c.claim_read-status.new.input) (g.O.Sink.held c.args.out.now) (g.O.Sink.held c.claim_read-status.new.out)
    c.in-Ok.book c.close.result c.claim_read-status.result c.in-Ok.ensures.ok c.close.ensures.disk c.close.ensures.sound c.claim_read-status.ensures.reads

pub returns-in-Err-clause-ends : goal.returns-in-Err-clause-ends
returns-in-Err-clause-ends g c =
    rw c.refusal_status.ensures
    (claim_refused (device g.D.Disk.tells g.D.Disk.content g.D.Disk.is_image g.D.Disk.moment g.D.Disk.was_image g.D.Disk.faults) c.args.grant c.args.on c.args.desk c.args.disk
    (g.I.Source.left c.args.input.now) (g.I.Source.left c.args.input.now) (g.O.Sink.held c.args.out.now) (g.O.Sink.held c.args.out.now)
    c.in-Err.field-0.disk c.in-Err.field-0.why c.in-Err.ensures.err refl refl)

pub returns-in-Ok-clause-disk : goal.returns-in-Ok-clause-disk
returns-in-Ok-clause-disk g c = λ is.
    absurd
    (no_disk_fault c.in-Ok.book.plan c.in-Ok.book.entries c.args.grant c.args.on c.args.desk (g.I.Source.left c.args.input.now) (g.I.Source.left c.claim_read-status.new.input)
    (g.O.Sink.held c.args.out.now) (g.O.Sink.held c.claim_read-status.new.out) c.claim_read-status.result c.claim_read-status.ensures.reads is)
