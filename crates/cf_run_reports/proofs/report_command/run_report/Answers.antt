use Rattle.std.proofs.Common.{refl, subst}
use Rattle.cf_run_status.specs.Devices.{device}
use Rattle.cf_run_status.specs.Printing.{Prints}
use Rattle.cf_run_reports.specs.Reports.{report_text}
use Rattle.cf_run_reports.proofs.Reporting.{report_printed, report_refused}
use Rattle.cf_run_reports.proofs.report_command.run_report.Goals as goal

pub returns-in-Ok-clause-ends : goal.returns-in-Ok-clause-ends
returns-in-Ok-clause-ends g c =
    report_printed (device g.D.Disk.tells g.D.Disk.content g.D.Disk.is_image g.D.Disk.moment g.D.Disk.was_image g.D.Disk.faults) c.args.year c.args.kind c.args.csv c.args.disk
    (g.O.Sink.held c.args.out.now) (g.O.Sink.held c.print-status.new.out) c.in-Ok.book c.close.result c.print-status.result
    c.in-Ok.ensures.ok c.close.ensures.disk c.close.ensures.sound c.close.ensures.closed c.close.ensures.articulates (c.print-status.ensures.prints _ c.report_bytes.ensures)

pub returns-in-Err-clause-ends : goal.returns-in-Err-clause-ends
returns-in-Err-clause-ends g c =
    rw c.refusal_status.ensures
    (report_refused (device g.D.Disk.tells g.D.Disk.content g.D.Disk.is_image g.D.Disk.moment g.D.Disk.was_image g.D.Disk.faults) c.args.year c.args.kind c.args.csv c.args.disk
    (g.O.Sink.held c.args.out.now) (g.O.Sink.held c.args.out.now) c.in-Err.field-0.disk c.in-Err.field-0.why c.in-Err.ensures.err refl)

pub returns-in-Ok-clause-disk : goal.returns-in-Ok-clause-disk
returns-in-Ok-clause-disk g c = λ is.
    absurd
    (subst (Prints (report_text c.in-Ok.book.plan c.in-Ok.book.entries c.args.year c.args.kind c.args.csv) (g.O.Sink.held c.args.out.now) (g.O.Sink.held c.print-status.new.out)) is
    (c.print-status.ensures.prints _ c.report_bytes.ensures))
