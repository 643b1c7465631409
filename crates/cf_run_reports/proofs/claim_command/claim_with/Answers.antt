use Rattle.std.proofs.Common.{Err, refl, ap}
use Rattle.cf_run_reports.proofs.Claiming.{claim_printed}
use Rattle.cf_run_reports.proofs.claim_command.claim_with.Goals as goal

pub returns-in-Ok-clause-over : goal.returns-in-Ok-clause-over
returns-in-Ok-clause-over g c =
    rw (← c.chart.ensures, ← c.entries.ensures.value)
    (claim_printed _ _ _ c.print.result (c.in-Ok.text.items, c.in-Ok.ensures.ok, c.print.ensures.prints _ refl))

pub returns-in-Err-Fault-clause-over : goal.returns-in-Err-Fault-clause-over
returns-in-Err-Fault-clause-over g c = rw (← c.chart.ensures, ← c.entries.ensures.value) (c.in-Err-Fault.ensures.fault c.in-Err-Fault.fault (ap Err c.in-Err-Fault.field-0-is), refl)
