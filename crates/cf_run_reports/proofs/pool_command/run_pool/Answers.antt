use Rattle.std.proofs.Common.{refl}
use Rattle.cf_run_status.specs.Devices.{device}
use Rattle.cf_run_reports.proofs.Pooling.{pool_printed, pool_refused_by, prints_no_disk_fault}
use Rattle.cf_run_reports.proofs.pool_command.run_pool.Goals as goal

pub returns-in-Ok-clause-ends : goal.returns-in-Ok-clause-ends
returns-in-Ok-clause-ends g c =
    pool_printed (device g.D.Disk.tells g.D.Disk.content g.D.Disk.is_image g.D.Disk.moment g.D.Disk.was_image g.D.Disk.faults) c.args.month c.args.amount c.args.desk c.args.disk
    (g.O.Sink.held c.args.out.now) (g.O.Sink.held c.print_shares-status.new.out) c.in-Ok.book c.in-Ok.moves.items c.pool_bytes-lines.result c.close.result c.print_shares-status.result
    c.in-Ok.ensures.ok c.in-Ok.ensures.moves c.close.ensures.disk c.close.ensures.sound (rw (c.chart.ensures, c.as_slice.ensures.value) at c.pool_bytes-lines.ensures) c.print_shares-status.ensures.prints

pub returns-in-Err-clause-ends : goal.returns-in-Err-clause-ends
returns-in-Err-clause-ends g c =
    rw c.refusal_status.ensures
    (pool_refused_by (device g.D.Disk.tells g.D.Disk.content g.D.Disk.is_image g.D.Disk.moment g.D.Disk.was_image g.D.Disk.faults) c.args.month c.args.amount c.args.desk c.args.disk
    (g.O.Sink.held c.args.out.now) (g.O.Sink.held c.args.out.now) c.in-Err.field-0.disk c.in-Err.field-0.why c.in-Err.ensures.err refl)

pub returns-in-Ok-clause-disk : goal.returns-in-Ok-clause-disk
returns-in-Ok-clause-disk g c = λ is.
    absurd (prints_no_disk_fault c.pool_bytes-lines.result (g.O.Sink.held c.args.out.now) (g.O.Sink.held c.print_shares-status.new.out) c.print_shares-status.result c.print_shares-status.ensures.prints is)
