use Rattle.cf_run_generate.proofs.ChartRead.{has_no_fault}
use Rattle.cf_run_generate.proofs.city.city_chart.Goals as goal

pub unreachable-requires : goal.unreachable-requires
unreachable-requires c = has_no_fault c.city_bytes.result.now c.read.result c.in-Err-Fault.field-0 c.in-Err-Fault.field-0-0 c.city_bytes.ensures c.in-Err-Fault.is c.in-Err-Fault.field-0-is c.read.ensures
